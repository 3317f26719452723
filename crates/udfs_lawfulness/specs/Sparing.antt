-- Sparing tables, by their table (UDF 2.2.11).
--     sparing_rows                                  the rows before the entries
--     IsSparingTable last packet bytes place es     a sparing table at a block, with these used entries
use Rattle.std.specs.Prelude.{◌≡◌, ◌≢◌, ⊤, ℕ, ◌+◌, ◌%◌, ◌<◌, ◌≤◌, ◌⊎◌, List, [], ◌∷◌, length, codes}
use Rattle.udfs_space.specs.declared.entries.SparingEntry.{SparingEntry}
use Rattle.udfs_lawfulness.specs.LawfulTables.{Row, row, IsField, Holds}
use Rattle.udfs_lawfulness.specs.Tags.{IsTagged}
use Rattle.udfs_lawfulness.specs.Volumes.{IsEntity}

-- sparing identifier
abbrev pub sparing_name : Row
sparing_name = row 16 32

-- reallocation table length: how many entries there are
abbrev pub sparing_count : Row
sparing_count = row 48 2

-- the rows before the entries: tag, identifier, count, reserved, sequence number
abbrev pub sparing_rows : List Row
sparing_rows = row 0 16 ∷ sparing_name ∷ sparing_count ∷ row 50 2 ∷ row 52 4 ∷ []

-- map entries of eight bytes each, one after the other: the original location of a packet and its mapped location
abbrev pub AreEntries : List ℕ → ℕ → List SparingEntry → Type 0
AreEntries bytes position [] = ⊤
AreEntries bytes position (e ∷ es) = Holds bytes (row position 4) e.original × Holds bytes (row (position + 4) 4) e.mapped × AreEntries bytes (position + 8) es

-- an entry is used if its original location is below FFFFFFF0 (hexadecimal)
abbrev pub IsUsed : SparingEntry → Type 0
IsUsed e = e.original < 0xFFFF_FFF0

-- an original location is the first block of a packet, or FFFFFFF0 for a defective packet, or FFFFFFFF for an available one
abbrev pub IsGood : ℕ → SparingEntry → Type 0
IsGood packet e = (IsUsed e × (e.original % packet ≡ 0)) ⊎ ((e.original ≡ 0xFFFF_FFF0) ⊎ (e.original ≡ 0xFFFF_FFFF))

-- the packet of a used entry is mapped to blocks of the volume
abbrev pub IsInside : ℕ → ℕ → SparingEntry → Type 0
IsInside last packet e = IsUsed e → e.mapped + packet ≤ last + 1

-- this holds of each
abbrev pub Each : (SparingEntry → Type 0) → List SparingEntry → Type 0
Each P [] = ⊤
Each P (e ∷ es) = P e × Each P es

-- no original location is below the one before it, and those of used entries differ
abbrev pub AreInOrder : List SparingEntry → Type 0
AreInOrder [] = ⊤
AreInOrder (e ∷ []) = ⊤
AreInOrder (e ∷ f ∷ es) = (e.original ≤ f.original) × (IsUsed e → f.original ≢ e.original) × AreInOrder (f ∷ es)

-- the second list has the used entries of the first, in their order
abbrev pub AreUsedOf : List SparingEntry → List SparingEntry → Type 0
AreUsedOf [] es = es ≡ []
AreUsedOf (e ∷ entries) es = (IsUsed e × ((rest : List SparingEntry) × (es ≡ e ∷ rest) × AreUsedOf entries rest)) ⊎ ((¬ IsUsed e) × AreUsedOf entries es)

-- A sparing table of which the first block is at this place: a tag of identifier 0, the identifier of a sparing table, and as many entries
-- as it says, all in its bytes, of good original locations in order, and mapped to blocks of the volume.
pub record IsSparingTable (last packet : ℕ) (bytes : List ℕ) (place : ℕ) (es : List SparingEntry) : Type 0 where
  pub tagged : IsTagged bytes 0 place
  pub name : List ℕ
  pub name_field : IsField bytes sparing_name name
  pub name_is : IsEntity name (codes "*UDF Sparing Table")
  pub entries : List SparingEntry
  pub count_is : Holds bytes sparing_count (length entries)
  pub entries_are : AreEntries bytes 56 entries
  pub good : Each (IsGood packet) entries
  pub in_order : AreInOrder entries
  pub inside : Each (IsInside last packet) entries
  pub used : AreUsedOf entries es
