-- What writing a table file from an index does to a sink whose bytes are known.
use Rattle.std.specs.Prelude.{◌≡◌, ℕ, ◌+◌, ◌%◌, ◌^◌, List, [], ◌++◌, Option, Some, Result, Ok, Err}
use Rattle.std.specs.Io.KnownBytes.{Appends}
use Rattle.udfs_lattice.specs.Tables.{Table, state_of}
use Rattle.udfs_reading.specs.Writing.{Wrote, Failed, Passed, FailedPast}
use Rattle.udfs_index.specs.declared.fault.CopyFault.{CopyFault}
use Rattle.udfs_index.specs.declared.fault.CopyFault.TheVariants.{Sink, Input}
use Rattle.udfs_index.specs.declared.packet.Packet.{Packet}
use Rattle.udfs_index.specs.Slots.{slot_at}
use Rattle.udfs_index.specs.Places.{state_by}
use Rattle.udfs_reading.specs.Device.{Stream}

-- the bytes of all inputs of this kind are known
abbrev pub AreAllTold : {S : Type 0} → (S → Option (List ℕ)) → Type 0
AreAllTold {S} content = (s : S) → (bytes : List ℕ) × (content s ≡ Some bytes)

-- no call on an input of this kind fails
abbrev pub NoneFails : {S : Type 0} → (S → Type 0) → Type 0
NoneFails {S} fails = (s : S) → fails s → ⊥

-- the packets say of each block what the table does, where the inputs hold these bytes
abbrev pub IsShown : List (List ℕ) → List Packet → Table → Type 0
IsShown wholes packets t = (n : ℕ) → state_of t n ≡ state_by wholes (slot_at packets n)

-- an input could not be read again before these bytes were all taken after those held; a prefix of all of them was written, and the sink did not fail
pub record Stopped (old new : Stream) (held bytes : List ℕ) : Type 0 where
  pub out : List ℕ
  pub rest : List ℕ
  pub given : Appends old.contents new.contents out
  pub whole : held ++ bytes ≡ out ++ rest
  pub kept : new.faults ≡ old.faults

-- the sink or an input failed before these bytes were all taken after those held
abbrev pub FailsBy : Stream → Stream → List ℕ → List ℕ → CopyFault → Type 0
FailsBy old new held bytes (Sink e) = FailedPast old new held bytes
FailsBy old new held bytes (Input n) = Stopped old new held bytes

-- what taking a front of these bytes did, some of which come from inputs: the result says which front was taken
abbrev pub CopiesTo : {X : Type 0} → Stream → Stream → List ℕ → List ℕ → (X → List ℕ) → List ℕ → Result X CopyFault → Type 0
CopiesTo old new held still front bytes (Ok x) = Passed old new held still (front x)
CopiesTo old new held still front bytes (Err e) = FailsBy old new held bytes e

-- what taking these bytes did, some of which come from inputs
abbrev pub CopiesPast : {X : Type 0} → Stream → Stream → List ℕ → List ℕ → List ℕ → Result X CopyFault → Type 0
CopiesPast old new held still bytes result = CopiesTo old new held still (λ x. bytes) bytes result

-- what writing these bytes did, some of which come from inputs: all were written, or a front of them was
abbrev pub Copies : {X : Type 0} → Stream → Stream → List ℕ → Result X CopyFault → Type 0
Copies old new bytes (Ok x) = Wrote old new bytes
Copies old new bytes (Err (Sink e)) = Failed old new bytes
Copies old new bytes (Err (Input n)) = Stopped old new [] bytes

-- the count of the sink's faults goes up by one where the sink is said to have failed, and nowhere else
abbrev pub CountsSink : {X : Type 0} → ℕ → ℕ → Result X CopyFault → Type 0
CountsSink i j (Ok x) = j ≡ i
CountsSink i j (Err (Sink e)) = j ≡ (i + 1) % 2 ^ 64
CountsSink i j (Err (Input n)) = j ≡ i

-- no input is blamed
abbrev pub BlamesNone : {X : Type 0} → Result X CopyFault → Type 0
BlamesNone (Ok x) = Unit {0}
BlamesNone (Err (Sink e)) = Unit {0}
BlamesNone (Err (Input n)) = ⊥
