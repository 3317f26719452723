-- A field that is cut, by the end or by a fault.
use Rattle.std.specs.Prelude.{◌≡◌, ℕ, ◌+◌, ◌%◌, ◌^◌, ◌<◌, List, [], length, Option}
use Rattle.std.specs.Io.KnownBytes.{Consumes, IsAtEnd}
use Rattle.udfs_lattice.specs.States.{IsBlock}
use Rattle.udfs_lattice.specs.Tables.{Table, one_record, join_tables}
use Rattle.udfs_reading.specs.declared.error.ReadingError.{ReadingError}
use Rattle.udfs_reading.specs.declared.error.ReadingFault.{ReadingFault}
use Rattle.udfs_reading.specs.declared.error.ReadingFault.TheVariants.{Truncated, Trailing, Io, OutOfMemory}

-- what the error of a cut field says of the source: at the end nothing failed, and else the count went up
abbrev pub CutBy : ReadingFault → Option (List ℕ) → ℕ → ℕ → Type 0
CutBy Truncated rest old new = IsAtEnd rest × (new ≡ old)
CutBy Io rest old new = new ≡ (old + 1) % 2 ^ 64
CutBy fault rest old new = ⊥

-- the source gave fewer bytes than the field has
pub record CutsField (old new : Option (List ℕ)) (i j size number : ℕ) (e : ReadingError) : Type 0 where
  pub got : List ℕ
  pub given : Consumes old new got
  pub short : length got < size
  pub why : CutBy e.fault new i j
  pub which : e.number ≡ number

-- why a file did not end where it was due: more bytes came, or the source failed
abbrev pub OverrunBy : ReadingFault → List ℕ → ℕ → ℕ → Type 0
OverrunBy Trailing got old new = (0 < length got) × (new ≡ old)
OverrunBy Io got old new = (got ≡ []) × (new ≡ (old + 1) % 2 ^ 64)
OverrunBy fault got old new = ⊥

-- the source was not seen to be at its end
pub record Overruns (old new : Option (List ℕ)) (i j number : ℕ) (e : ReadingError) : Type 0 where
  pub got : List ℕ
  pub given : Consumes old new got
  pub why : OverrunBy e.fault got i j
  pub which : e.number ≡ number

-- why the bytes of a block were not joined to the table: their field was cut, or there was no memory for them
abbrev pub BlockFailsBy : ReadingFault → List ℕ → Option (List ℕ) → ℕ → ℕ → Type 0
BlockFailsBy OutOfMemory got rest old new = new ≡ old
BlockFailsBy fault got rest old new = (length got < 2048) × CutBy fault rest old new

-- the bytes of a block were not joined to the table
pub record BlockFails (old new : Option (List ℕ)) (i j number : ℕ) (e : ReadingError) : Type 0 where
  pub got : List ℕ
  pub given : Consumes old new got
  pub why : BlockFailsBy e.fault got new i j
  pub which : e.number ≡ number

-- the bytes of a block were read, and joined to the table
pub record TakesBlock (old new : Option (List ℕ)) (block : ℕ) (before after : Table) : Type 0 where
  pub taken : List ℕ
  pub is_block : IsBlock taken
  pub given : Consumes old new taken
  pub put : after ≡ join_tables before (one_record block taken)
