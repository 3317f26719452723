-- What printing does to a sink whose bytes are known.
--     Prints old new text result      all of the text was written; or a beginning of it, and then came the error
--     PassesOn                            the same of text that is held before it is written
--     PutsMost                            the text was printed, or a beginning of it before memory ran out
use Rattle.std.specs.Prelude.{◌≡◌, ℕ, ◌+◌, ◌%◌, ◌^◌, List, ◌++◌, Option, Result, Ok, Err}
use Rattle.std.specs.Io.KnownBytes.{Appends}
use Rattle.udfs_reading.specs.Writing.{Wrote, Passed}
use Rattle.udfs_reading.specs.Puts.{Puts}
use Rattle.udfs_salvage.specs.declared.errors.RunError.{RunError}
use Rattle.udfs_salvage.specs.declared.errors.RunError.TheVariants.{Reading, Salvage, Write, OutOfMemory}
use Rattle.udfs_reading.specs.Device.{Stream}

-- the sink's count of faults, by the error: it moved exactly if the sink failed; and printing has no other error
abbrev pub CountsBy : ℕ → ℕ → RunError → Type 0
CountsBy i j (Reading e) = ⊥
CountsBy i j (Salvage e) = ⊥
CountsBy i j Write = j ≡ (i + 1) % 2 ^ 64
CountsBy i j OutOfMemory = j ≡ i

-- a beginning of the text was written, and then came the error
pub record Stopped (old new : Stream) (text : List ℕ) (e : RunError) : Type 0 where
  pub out : List ℕ
  pub rest : List ℕ
  pub given : Appends old.contents new.contents out
  pub whole : text ≡ out ++ rest
  pub count : CountsBy old.faults new.faults e

-- the whole text is out; or a beginning of it, and then the sink failed or memory ran out
abbrev pub Prints : {X : Type 0} → Stream → Stream → List ℕ → Result X RunError → Type 0
Prints old new text (Ok x) = Wrote old new text
Prints old new text (Err e) = Stopped old new text e

-- the text was appended to what was held, and a beginning of the two was written; or the error came when a beginning of them had been written
abbrev pub PassesOn : {X : Type 0} → Stream → Stream → List ℕ → List ℕ → List ℕ → Result X RunError → Type 0
PassesOn old new held still text (Ok x) = Passed old new held still text
PassesOn old new held still text (Err e) = Stopped old new (held ++ text) e

-- a beginning of the text was appended to what was held
pub record PutsFront (old new : Stream) (held still : Option (List ℕ)) (text : List ℕ) : Type 0 where
  pub front : List ℕ
  pub rest : List ℕ
  pub put : Puts old new held still front
  pub whole : text ≡ front ++ rest

-- the text was appended to what was held; or a beginning of it was, and then memory ran out
abbrev pub PutsMost : {X E : Type 0} → Stream → Stream → Option (List ℕ) → Option (List ℕ) → List ℕ → Result X E → Type 0
PutsMost old new held still text (Ok x) = Puts old new held still text
PutsMost old new held still text (Err e) = PutsFront old new held still text
