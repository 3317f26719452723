-- A kind of file: which bytes are one, and which first fault any other bytes have.
use Rattle.std.specs.Prelude.{◌≡◌, ℕ, ◌<◌, ◌⊎◌, List, All}
use Rattle.udfs_lattice.specs.Tables.{Table}
use Rattle.udfs_reading.specs.declared.error.ReadingFault.{ReadingFault}
use Rattle.udfs_reading.specs.Format.{Format, HasFault}

-- which bytes are a file of a kind, and which first fault any other bytes have
pub record Kind : Type 1 where
  -- the bytes are a file of this many records, and this is its table
  pub IsFile : List ℕ → ℕ → Table → Type 0
  -- the first fault of the bytes, and the record that has it
  pub IsFaulty : List ℕ → ReadingFault → ℕ → Type 0

-- the files of one format
abbrev pub kind : Format → Kind
kind F = record { IsFile = F.IsFile; IsFaulty = HasFault F }

-- each number of the list is a byte
abbrev pub AreBytes : List ℕ → Type 0
AreBytes bytes = All (λ b. b < 256) bytes

-- the bytes are a file, or have a first fault
abbrev pub HasOutcome : Kind → List ℕ → Type 0
HasOutcome K bytes = ((count : ℕ) × (table : Table) × K.IsFile bytes count table) ⊎ ((fault : ReadingFault) × (number : ℕ) × K.IsFaulty bytes fault number)

-- all bytes are a file or have a first fault; and none are two files, or a file and faulty, or have two first faults
pub record HasOneOutcome (K : Kind) : Type 0 where
  pub some : (bytes : List ℕ) → AreBytes bytes → HasOutcome K bytes
  pub one_table : (bytes : List ℕ) (m n : ℕ) (t u : Table) → K.IsFile bytes m t → K.IsFile bytes n u → t ≡ u
  pub never_both : (bytes : List ℕ) (n : ℕ) (t : Table) (fault : ReadingFault) (number : ℕ) → K.IsFile bytes n t → K.IsFaulty bytes fault number → ⊥
  pub one_fault : (bytes : List ℕ) (f g : ReadingFault) (m n : ℕ) → K.IsFaulty bytes f m → K.IsFaulty bytes g n → (f ≡ g) × (m ≡ n)
