-- What is found of a volume: the thing, the blocks that would have to be read first, or a fault.
use Rattle.std.specs.Prelude.{ℕ, List, Option, Some, None, ⊤}
use Rattle.udfs_volume.specs.declared.faults.VolumeFault.{VolumeFault}

-- what is looked for, or the blocks to read first, or the least fault
pub data Answer (A : Type 0) : Type 0 where
  found : A → Answer A
  holes : List ℕ → Answer A
  faulty : VolumeFault → Answer A

-- what is found is looked into further; holes and faults stay
abbrev pub and_then : {A B : Type 0} → Answer A → (A → Answer B) → Answer B
and_then (found x) f = f x
and_then (holes blocks) f = holes blocks
and_then (faulty fault) f = faulty fault

-- the thing, unless a test finds a fault
abbrev pub unless_fault : {A : Type 0} → Option VolumeFault → A → Answer A
unless_fault None x = found x
unless_fault (Some fault) x = faulty fault

-- blocks have to be read first
abbrev pub IsHoles : {A : Type 0} → Answer A → Type 0
IsHoles (found x) = ⊥
IsHoles (holes blocks) = ⊤
IsHoles (faulty fault) = ⊥
