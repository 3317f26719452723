-- The laws of taking bytes one piece after another (Passed, FailedPast, Failed of Writing).
--     PassedNone      no bytes change nothing
--     PassedThen      two pieces taken one after the other are taken as one
--     FailedThen      where the sink fails in the second, it fails in both
--     FailedMore      and so it does where more was to come
--     FailedLast      where it fails in what is held at the end, it fails in all
use Rattle.std.specs.Prelude.{ℕ, List, [], ◌++◌}
use Rattle.udfs_reading.specs.Writing.{Failed, Passed, FailedPast}
use Rattle.udfs_reading.specs.Device.{Stream}

-- nothing taken is nothing passed
abbrev pub PassedNone : Type 0
PassedNone = (a : Stream) (p : List ℕ) → Passed a a p p []

-- bytes passed in two pieces are passed as one
abbrev pub PassedThen : Type 0
PassedThen = (a b c : Stream) (p q r x y : List ℕ) → Passed a b p q x → Passed b c q r y → Passed a c p r (x ++ y)

-- a sink that fails in the second of two pieces fails in both together
abbrev pub FailedThen : Type 0
FailedThen = (a b c : Stream) (p q x y : List ℕ) → Passed a b p q x → FailedPast b c q y → FailedPast a c p (x ++ y)

-- a sink that fails in a piece fails in every longer one
abbrev pub FailedMore : Type 0
FailedMore = (a b : Stream) (p x y : List ℕ) → FailedPast a b p x → FailedPast a b p (x ++ y)

-- a sink that fails in what is held at the end fails in all of it
abbrev pub FailedLast : Type 0
FailedLast = (a b c : Stream) (q x : List ℕ) → Passed a b [] q x → Failed b c q → Failed a c x
