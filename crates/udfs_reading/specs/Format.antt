-- What file formats have in common: the fields of a file, in order, and the first fault of bytes that are no file.
use Rattle.std.specs.Prelude.{◌≡◌, ◌≢◌, ℕ, ◌<◌, ◌≤◌, List, [], ◌++◌, length, take}
use Rattle.byteorder.specs.Endian.{little_bytes, little_number}
use Rattle.udfs_lattice.specs.Tables.{Table}
use Rattle.udfs_reading.specs.declared.error.ReadingFault.{ReadingFault}
use Rattle.udfs_reading.specs.declared.error.ReadingFault.TheVariants.{Magic, BlockSize, Truncated}

-- a number of 32 bits, the lowest byte first
unfoldable pub number : ℕ → List ℕ
number n = little_bytes 4 n

-- the number that the first four bytes are
unfoldable pub value_of : List ℕ → ℕ
value_of bytes = little_number 4 bytes

-- a file's first 16 bytes: its magic, the block size and the count of its records
abbrev pub header : List ℕ → ℕ → List ℕ
header magic count = magic ++ number 2048 ++ number count

-- A format: its magic, and then the places of its records, where a field begins, or the end is due, after fields without a fault.
pub record Format : Type 1 where
  pub magic : List ℕ
  pub Place : Type 0
  -- which places there are
  pub IsPlace : Place → Type 0
  -- the bytes before a place
  pub before : Place → List ℕ
  -- the record of a place
  pub record_of : Place → ℕ
  -- how many bytes the field has
  pub size_of : Place → ℕ
  -- the whole field at the front of these bytes breaks its rule, which is this fault
  pub Breaks : Place → List ℕ → ReadingFault → Type 0
  -- the bytes are a file of this many records, and this is its table
  pub IsFile : List ℕ → ℕ → Table → Type 0

-- a place in a file, its header included
pub data Spot (P : Type 0) : Type 0 where
  AtMagic : Spot P
  AtBlockSize : Spot P
  AtCount : Spot P
  In : P → Spot P

-- the place is one of the format
abbrev pub IsSpot : (F : Format) → Spot F.Place → Type 0
IsSpot F AtMagic = Unit {0}
IsSpot F AtBlockSize = Unit {0}
IsSpot F AtCount = Unit {0}
IsSpot F (In place) = F.IsPlace place

-- the bytes before a place, without a fault
abbrev pub before : (F : Format) → Spot F.Place → List ℕ
before F AtMagic = []
before F AtBlockSize = F.magic
before F AtCount = F.magic ++ number 2048
before F (In place) = F.before place

-- the record of a place; that of the header is 0
abbrev pub record_of : (F : Format) → Spot F.Place → ℕ
record_of F AtMagic = 0
record_of F AtBlockSize = 0
record_of F AtCount = 0
record_of F (In place) = F.record_of place

-- how many bytes the field at a place has
abbrev pub size_of : (F : Format) → Spot F.Place → ℕ
size_of F AtMagic = 8
size_of F AtBlockSize = 4
size_of F AtCount = 4
size_of F (In place) = F.size_of place

-- the whole field at a place breaks its rule, which is this fault
abbrev pub Breaks : (F : Format) → Spot F.Place → List ℕ → ReadingFault → Type 0
Breaks F AtMagic rest Magic = take 8 rest ≢ F.magic
Breaks F AtBlockSize rest BlockSize = value_of rest ≢ 2048
Breaks F (In place) rest fault = F.Breaks place rest fault
Breaks F spot rest fault = ⊥

-- the field at a place has this fault: the end cuts it, or it is whole and breaks its rule
abbrev pub FaultHere : (F : Format) → Spot F.Place → List ℕ → ReadingFault → Type 0
FaultHere F spot rest Truncated = length rest < size_of F spot
FaultHere F spot rest fault = (size_of F spot ≤ length rest) × Breaks F spot rest fault

-- the first fault of the bytes, and the record that has it
pub record HasFault (F : Format) (bytes : List ℕ) (fault : ReadingFault) (number : ℕ) : Type 0 where
  pub spot : Spot F.Place
  pub is_spot : IsSpot F spot
  pub rest : List ℕ
  pub split : bytes ≡ before F spot ++ rest
  pub here : FaultHere F spot rest fault
  pub which : number ≡ record_of F spot

-- a format of a header alone
abbrev pub bare : List ℕ → Format
bare magic = record {
  magic = magic;
  Place = ⊥;
  IsPlace = λ place. ⊥;
  before = λ place. [];
  record_of = λ place. 0;
  size_of = λ place. 0;
  Breaks = λ place rest fault. ⊥;
  IsFile = λ bytes count table. ⊥;
}
