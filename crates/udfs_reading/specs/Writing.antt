-- What writing does to a sink whose bytes are known.
use Rattle.std.specs.Prelude.{◌≡◌, ℕ, ◌+◌, ◌%◌, ◌^◌, List, ◌++◌, Result, Ok, Err}
use Rattle.std.specs.Io.KnownBytes.{Appends}
use Rattle.udfs_reading.specs.Device.{Stream}

-- all of these bytes were written, and the sink did not fail
pub record Wrote (old new : Stream) (bytes : List ℕ) : Type 0 where
  pub given : Appends old.contents new.contents bytes
  pub kept : new.faults ≡ old.faults

-- a beginning of the bytes was written, and then the sink failed, which its count shows
pub record Failed (old new : Stream) (bytes : List ℕ) : Type 0 where
  pub out : List ℕ
  pub rest : List ℕ
  pub given : Appends old.contents new.contents out
  pub whole : bytes ≡ out ++ rest
  pub moved : new.faults ≡ (old.faults + 1) % 2 ^ 64

-- what writing these bytes did
abbrev pub Writes : {X E : Type 0} → Stream → Stream → List ℕ → Result X E → Type 0
Writes old new bytes (Ok x) = Wrote old new bytes
Writes old new bytes (Err e) = Failed old new bytes

-- These bytes were appended to those that were held: a beginning of all of them was written, and the rest is held.
pub record Passed (old new : Stream) (held still bytes : List ℕ) : Type 0 where
  pub out : List ℕ
  pub given : Appends old.contents new.contents out
  pub whole : held ++ bytes ≡ out ++ still
  pub kept : new.faults ≡ old.faults

-- The sink failed before these bytes could be appended to those that were held; a beginning of all of them was written.
pub record FailedPast (old new : Stream) (held bytes : List ℕ) : Type 0 where
  pub out : List ℕ
  pub rest : List ℕ
  pub given : Appends old.contents new.contents out
  pub whole : held ++ bytes ≡ out ++ rest
  pub moved : new.faults ≡ (old.faults + 1) % 2 ^ 64

-- what taking these bytes did
abbrev pub Passes : {X E : Type 0} → Stream → Stream → List ℕ → List ℕ → List ℕ → Result X E → Type 0
Passes old new held still bytes (Ok x) = Passed old new held still bytes
Passes old new held still bytes (Err e) = FailedPast old new held bytes
