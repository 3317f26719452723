-- Laws of text that is put piece after piece.
use Rattle.std.specs.Prelude.{ℕ, List, [], ◌++◌, Option, Some, Result, ⊤}
use Rattle.udfs_reading.specs.Writing.{Writes}
use Rattle.udfs_reading.specs.declared.writing.WriteFault.{WriteFault}
use Rattle.udfs_reading.specs.Puts.{Finishes, Puts}
use Rattle.udfs_reading.specs.Device.{Stream}

-- no text is put where nothing was done
abbrev pub PutsNone : Type 0
PutsNone = (a : Stream) (p : Option (List ℕ)) → Puts a a p p []

-- a text and then another are put as one
abbrev pub PutsThen : Type 0
PutsThen = (a b c : Stream) (p q r : Option (List ℕ)) (x y : List ℕ) → Puts a b p q x → Puts b c q r y → Puts a c p r (x ++ y)

-- what was put into an empty printer is written at the end, or a beginning of it is out and the fault is reported
abbrev pub PutsAll : Type 0
PutsAll = (a b c : Stream) (q : Option (List ℕ)) (x : List ℕ) (r : Result ⊤ WriteFault) → Puts a b (Some []) q x → Finishes b c q r → Writes a c x r
