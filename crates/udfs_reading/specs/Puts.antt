-- What a printer does to a sink whose bytes are known.
--     Puts old new held still text     the text was appended to what was held
--     Finishes old new held result     all that was held was handed on
use Rattle.std.specs.Prelude.{◌≡◌, ℕ, List, Option, Some, None, Result, Ok, Err}
use Rattle.udfs_reading.specs.Writing.{Passed, FailedPast, Writes}
use Rattle.udfs_reading.specs.Device.{Stream}

-- the sink was left alone
pub record LeftAlone (old new : Stream) : Type 0 where
  pub same : new ≡ old

-- The text was appended to what was held, and a beginning of it all was written; or the sink failed before it could be, and a
-- beginning of it all was written; or the sink had failed before, and was left alone. No text is held again after that.
abbrev pub PutsBy : Stream → Stream → Option (List ℕ) → Option (List ℕ) → List ℕ → Type 0
PutsBy old new (Some held) (Some still) text = Passed old new held still text
PutsBy old new (Some held) None text = FailedPast old new held text
PutsBy old new None (Some still) text = ⊥
PutsBy old new None None text = LeftAlone old new

-- the text was appended to what was held, unless the sink failed
pub record Puts (old new : Stream) (held still : Option (List ℕ)) (text : List ℕ) : Type 0 where
  pub by : PutsBy old new held still text

-- what was held was written, as `Writes` says; after an earlier fault the result is an error, and the sink is left alone
abbrev pub Finishes : {X E : Type 0} → Stream → Stream → Option (List ℕ) → Result X E → Type 0
Finishes old new (Some held) result = Writes old new held result
Finishes old new None (Ok x) = ⊥
Finishes old new None (Err e) = LeftAlone old new
