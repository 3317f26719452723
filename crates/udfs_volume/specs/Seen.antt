-- What a call returns, beside what is found.
--     Sees view seen answer     the call returned `answer`, or memory ran out
--     HolesRise seen            the holes that it returned are ascending, each once
--     IfGot seen Property       what it got, if it got something, has the property
--     GoesOn seen Next result  what was got led to the result, and else the result is the same
--     TellsFault fault seen answer   if `answer` is that fault, the call returned it, whatever memory there was
use Rattle.std.specs.Prelude.{◌≡◌, ⊤, ℕ, ◌<◌, List, [], ◌∷◌, Contains}
use Rattle.udfs_volume.specs.declared.faults.VolumeFault.{VolumeFault}
use Rattle.udfs_volume.specs.declared.seen.Seen.{Seen}
use Rattle.udfs_volume.specs.declared.seen.Seen.TheVariants.{Got, Holes, Fault, OutOfMemory}
use Rattle.udfs_volume.specs.Answers.{Answer, found, holes, faulty}

-- the code returned `answer`, or it ran out of memory, which is allowed for any `answer`
abbrev pub Sees : {A B : Type 0} → (A → B) → Seen A → Answer B → Type 0
Sees view (Got x) answer = answer ≡ found (view x)
Sees view (Holes blocks) answer = answer ≡ holes blocks.items
Sees view (Fault fault) answer = answer ≡ faulty fault
Sees view OutOfMemory answer = ⊤

-- each number is below all that follow it
abbrev pub IsRising : List ℕ → Type 0
IsRising [] = ⊤
IsRising (n ∷ ns) = ((m : ℕ) → Contains ns m → n < m) × IsRising ns

-- the blocks to read first rise, each once
abbrev pub HolesRise : {A : Type 0} → Seen A → Type 0
HolesRise (Got x) = ⊤
HolesRise (Holes blocks) = IsRising blocks.items
HolesRise (Fault fault) = ⊤
HolesRise OutOfMemory = ⊤

-- what a call got, if it got something, has a property
abbrev pub IfGot : {A : Type 0} → Seen A → (A → Type 0) → Type 0
IfGot (Got x) Property = Property x
IfGot (Holes blocks) Property = ⊤
IfGot (Fault fault) Property = ⊤
IfGot OutOfMemory Property = ⊤

-- if `answer` is this fault, the code returns it
abbrev pub TellsFault : {A B : Type 0} → VolumeFault → Seen A → Answer B → Type 0
TellsFault fault seen answer = answer ≡ faulty fault → seen ≡ Fault fault

-- what was got led to the result, and else the result is the same
abbrev pub GoesOn : {A B : Type 0} → Seen A → (A → Seen B → Type 0) → Seen B → Type 0
GoesOn (Got x) Next result = Next x result
GoesOn (Holes blocks) Next result = result ≡ Holes blocks
GoesOn (Fault fault) Next result = result ≡ Fault fault
GoesOn OutOfMemory Next result = result ≡ OutOfMemory
