-- Allocation descriptors, by their tables (ECMA-167 3/7.1, 4/7.1, 4/14.14), and areas of them (4/14.5).
--     IsExtentAd, IsShortAd, IsLongAd bytes d     the fields of one descriptor
--     AreRecorded form r area ds                  an area of an entry in partition r is these, one after the other
--     IsAllocationExtent form bytes place area    an allocation extent descriptor with this area
use Rattle.std.specs.Prelude.{◌≡◌, ℕ, ◌*◌, ◌⊎◌, List, [], ◌∷◌, ◌++◌, length}
use Rattle.udfs_tag.specs.declared.layouts.ExtentAd.{ExtentAd}
use Rattle.udfs_tag.specs.declared.layouts.ShortAd.{ShortAd}
use Rattle.udfs_tag.specs.declared.layouts.LongAd.{LongAd}
use Rattle.udfs_lawfulness.specs.LawfulTables.{Row, row, IsField, Holds, HasBits}
use Rattle.udfs_lawfulness.specs.Tags.{IsTagged}

-- extent_ad (3/7.1): the extent's length in bytes and its first sector
pub record IsExtentAd (bytes : List ℕ) (d : ExtentAd) : Type 0 where
  pub length_is : Holds bytes (row 0 4) d.length
  pub block_is : Holds bytes (row 4 4) d.block

-- the length of an extent and its type: the low 30 bits of a field, and the two above them (4/14.14.1.1)
pub record IsTypedLength (bytes : List ℕ) (r : Row) (kind count : ℕ) : Type 0 where
  pub field : ℕ
  pub field_is : Holds bytes r field
  pub count_is : HasBits 0 30 field count
  pub kind_is : HasBits 30 2 field kind

-- short_ad (4/14.14.1): length and type, and the logical block at which the extent begins
pub record IsShortAd (bytes : List ℕ) (d : ShortAd) : Type 0 where
  pub length_is : IsTypedLength bytes (row 0 4) d.kind d.length
  pub block_is : Holds bytes (row 4 4) d.block

-- lb_addr (4/7.1): logical block number, and partition reference number
pub record IsLbAddr (bytes : List ℕ) (block reference : ℕ) : Type 0 where
  pub block_is : Holds bytes (row 0 4) block
  pub reference_is : Holds bytes (row 4 2) reference

-- long_ad (4/14.14.2): length and type, and the lb_addr at which the extent begins; six bytes of implementation use are after it
pub record IsLongAd (bytes : List ℕ) (d : LongAd) : Type 0 where
  pub length_is : IsTypedLength bytes (row 0 4) d.kind d.length
  pub address : List ℕ
  pub address_is : IsField bytes (row 4 6) address
  pub location_is : IsLbAddr address d.block d.reference

-- a short descriptor, in an entry in this partition, to which its blocks belong
pub record IsShortIn (r : ℕ) (bytes : List ℕ) (d : LongAd) : Type 0 where
  pub short : ShortAd
  pub is : IsShortAd bytes short
  pub kind : d.kind ≡ short.kind
  pub size : d.length ≡ short.length
  pub block : d.block ≡ short.block
  pub reference : d.reference ≡ r

-- a descriptor of this form, 0 for short ones and 1 for long ones (4/14.6.8), with how many bytes it has
abbrev pub IsOfForm : ℕ → ℕ → List ℕ → LongAd → Type 0
IsOfForm form r bytes d = ((form ≡ 0) × (length bytes ≡ 8) × IsShortIn r bytes d) ⊎ ((form ≡ 1) × (length bytes ≡ 16) × IsLongAd bytes d)

-- an area of descriptors of this form: one after the other, and nothing else
abbrev pub AreRecorded : ℕ → ℕ → List ℕ → List LongAd → Type 0
AreRecorded form r area [] = area ≡ []
AreRecorded form r area (d ∷ ds) = (piece : List ℕ) × (rest : List ℕ) × (area ≡ piece ++ rest) × IsOfForm form r piece d × AreRecorded form r rest ds

-- this many bytes are whole descriptors of a form: short ones of 8 bytes, or long ones of 16
abbrev pub AreWhole : ℕ → ℕ → Type 0
AreWhole form count = ((form ≡ 0) × ((k : ℕ) × (count ≡ 8 * k))) ⊎ ((form ≡ 1) × ((k : ℕ) × (count ≡ 16 * k)))

-- length of allocation descriptors, in an allocation extent descriptor; the place of the previous one is before it, at 16
abbrev pub extent_length : Row
extent_length = row 20 4

-- an allocation extent descriptor before its area: tag, previous allocation extent location, length of allocation descriptors
abbrev pub extent_table : List Row
extent_table = row 0 16 ∷ row 16 4 ∷ extent_length ∷ []

-- allocation extent descriptor (4/14.5): a tag of identifier 258, and the area, which lies in the block
pub record IsAllocationExtent (form : ℕ) (bytes : List ℕ) (place : ℕ) (area : List ℕ) : Type 0 where
  pub tagged : IsTagged bytes 258 place
  pub size : ℕ
  pub size_is : Holds bytes extent_length size
  pub area_is : IsField bytes (row 24 size) area
  pub whole : AreWhole form size
