-- File identifier descriptors, by their table (ECMA-167 4/14.4), and the file set descriptor (4/14.1).
--     IsIdentifierAt bytes place id    a descriptor with these bytes, whose tag names this place
--     AreCharacters name units         compressed Unicode (UDF 2.1.1)
--     IsFileSet bytes place root       a file set descriptor, with the root's ICB
use Rattle.std.specs.Prelude.{◌≡◌, ◌≢◌, ⊤, ℕ, ◌+◌, ◌*◌, ◌<◌, ◌⊎◌, List, [], ◌∷◌, length, Option, Some, None}
use Rattle.udfs_tag.specs.declared.layouts.LongAd.{LongAd}
use Rattle.udfs_file.specs.declared.directories.DirEntry.{DirEntry}
use Rattle.udfs_file.specs.Identifiers.{Identifier}
use Rattle.udfs_lawfulness.specs.LawfulTables.{Row, row, IsField, Holds, HasBits}
use Rattle.udfs_lawfulness.specs.Tags.{IsTagged}
use Rattle.udfs_lawfulness.specs.Extents.{IsLongAd}

-- file characteristics
abbrev pub characteristics : Row
characteristics = row 18 1

-- length of file identifier
abbrev pub name_length : Row
name_length = row 19 1

-- ICB
abbrev pub identifier_icb : Row
identifier_icb = row 20 16

-- length of implementation use
abbrev pub use_length : Row
use_length = row 36 2

-- the fixed rows: tag, file version number, and these
abbrev pub identifier_table : List Row
identifier_table = row 0 16 ∷ row 16 2 ∷ characteristics ∷ name_length ∷ identifier_icb ∷ use_length ∷ []

-- two bytes for each unit, the high byte first
abbrev pub ArePairs : List ℕ → List ℕ → Type 0
ArePairs [] [] = ⊤
ArePairs [] (u ∷ units) = ⊥
ArePairs (b ∷ []) units = ⊥
ArePairs (high ∷ low ∷ bytes) [] = ⊥
ArePairs (high ∷ low ∷ bytes) (u ∷ units) = (u ≡ 256 * high + low) × ArePairs bytes units

-- a name: a byte that is 8 or 16, and then a unit or more, of 8 or of 16 bits (UDF 2.1.1)
pub record AreCharacters (name units : List ℕ) : Type 0 where
  pub compression : ℕ
  pub rest : List ℕ
  pub is : name ≡ compression ∷ rest
  pub coded : ((compression ≡ 8) × (units ≡ rest)) ⊎ ((compression ≡ 16) × ArePairs rest units)
  pub some : units ≢ []

-- the entry that a descriptor lists: its name, its ICB, and the low five bits of its characteristics (4/14.4.3)
pub record IsListedAs (marks : ℕ) (icb name : List ℕ) (e : DirEntry) : Type 0 where
  pub not_deleted : HasBits 2 1 marks 0
  pub not_parent : HasBits 3 1 marks 0
  pub icb_is : IsLongAd icb e.icb
  pub name_is : AreCharacters name e.name
  pub marks_are : HasBits 0 5 marks e.marks.0

-- what is listed of a descriptor: nothing where it is deleted (bit 2) or names the parent (bit 3), and else its entry
abbrev pub Lists : ℕ → List ℕ → List ℕ → Option DirEntry → Type 0
Lists marks icb name None = HasBits 2 1 marks 1 ⊎ HasBits 3 1 marks 1
Lists marks icb name (Some e) = IsListedAs marks icb name e

-- A descriptor with exactly these bytes, whose tag of identifier 257 names this place: the implementation use is after the fixed
-- rows, then the name, and then padding up to a multiple of four bytes.
pub record IsIdentifierAt (bytes : List ℕ) (place : ℕ) (id : Identifier) : Type 0 where
  pub tagged : IsTagged bytes 257 place
  pub marks : ℕ
  pub marks_are : Holds bytes characteristics marks
  pub icb : List ℕ
  pub icb_is : IsField bytes identifier_icb icb
  pub name_size : ℕ
  pub name_size_is : Holds bytes name_length name_size
  pub use_size : ℕ
  pub use_size_is : Holds bytes use_length use_size
  pub name : List ℕ
  pub name_is : IsField bytes (row (38 + use_size) name_size) name
  pub padding : ℕ
  pub little : padding < 4
  pub size : length bytes ≡ 38 + use_size + name_size + padding
  pub words : ℕ
  pub fours : length bytes ≡ 4 * words
  pub size_is : id.size ≡ length bytes
  pub listed : Lists marks icb name id.listed

-- root directory ICB, of a file set descriptor
abbrev pub root_icb : Row
root_icb = row 400 16

-- a file set descriptor: tag, recording date and time, interchange level and the maximum one, character set list and the maximum one, file set
-- number, file set descriptor number, character set and text of the logical volume identifier, character set of the file set identifier,
-- file set, copyright and abstract file identifier, root directory ICB, domain identifier, next extent, system stream directory ICB, reserved
abbrev pub file_set_table : List Row
file_set_table = row 0 16 ∷ row 16 12 ∷ row 28 2 ∷ row 30 2 ∷ row 32 4 ∷ row 36 4 ∷ row 40 4 ∷ row 44 4 ∷ row 48 64 ∷ row 112 128 ∷ row 240 64
    ∷ row 304 32 ∷ row 336 32 ∷ row 368 32 ∷ root_icb ∷ row 416 32 ∷ row 448 16 ∷ row 464 16 ∷ row 480 32 ∷ []

-- a file set descriptor (4/14.1): a tag of identifier 256, and the root's ICB
pub record IsFileSet (bytes : List ℕ) (place : ℕ) (root : LongAd) : Type 0 where
  pub tagged : IsTagged bytes 256 place
  pub icb : List ℕ
  pub icb_is : IsField bytes root_icb icb
  pub root_is : IsLongAd icb root
