-- The copies of the sparing tables of a volume (UDF 2.01 2.2.11).
--     map_blocks map                       all blocks of all copies of the table of a map
--     map_disagrees blocks map             some block of it is known in two copies, and does not say the same
--     AreCopiesApart blocks .. one other   so do these two blocks
--     is_untagged blocks size place        the copy that begins here is known whole, and has no valid tag
--     IsMapApart, IsMapUntagged, IsClearMap   the same of a partition map, and that it has neither
use Rattle.std.specs.Prelude.{◌≡◌, ℕ, ◌+◌, ◌-◌, ◌*◌, ◌<◌, ◌≤◌, ◌==◌, ◌&&◌, ⊤, Bool, true, false, not, List, [], ◌∷◌, ◌++◌, take, drop, cond, flat_map, Contains}
use Rattle.std.specs.List.{list_all, list_any, range_with_len}
use Rattle.std.specs.Str.{bytes_eq}
use Rattle.udfs_lattice.specs.States.{State, is_known}
use Rattle.udfs_lattice.specs.Volumes.{Blocks}
use Rattle.udfs_lattice.specs.declared.facts.Fact.TheVariants.{Unknown, Known, Conflict}
use Rattle.udfs_tag.specs.Tags.{is_valid}
use Rattle.udfs_volume.specs.Layout.{Partition, PartitionMap, type1, sparable, blocks_in}
use Rattle.udfs_volume.specs.Sequence.{Bytes}
use Rattle.udfs_space.specs.Parts.{FitAll}

-- ---- the blocks of all copies
-- those of the copies that begin at these blocks
abbrev pub blocks_of : ℕ → List ℕ → List ℕ
blocks_of size [] = []
blocks_of size (place ∷ places) = range_with_len place (blocks_in size) ++ blocks_of size places

-- those of all copies of the table of a map; a map of type 1 has none
abbrev pub map_blocks : PartitionMap → List ℕ
map_blocks type1 = []
map_blocks (sparable packet size tables) = blocks_of size tables

-- those of all partitions
abbrev pub table_blocks : List Partition → List ℕ
table_blocks [] = []
table_blocks (p ∷ ps) = map_blocks p.kind ++ table_blocks ps

-- the table of a map has room for a tag, and all of its copies end where blocks may end
abbrev pub FitsMap : PartitionMap → Type 0
FitsMap type1 = ⊤
FitsMap (sparable packet size tables) = (56 ≤ size) × FitAll (blocks_in size) tables

-- ---- copies that do not say the same
-- what block k of a table of this size says: its bytes from byte 16 of the table on, and none past its size
abbrev pub said_in : ℕ → ℕ → Bytes → Bytes
said_in size k bytes = drop (cond (k == 0) 16 0) (take (size - 2048 * k) bytes)

-- block k of one copy does not say the same as that of another, if this is known
abbrev pub differs_known : ℕ → ℕ → Bytes → State → Bool
differs_known size k one Unknown = false
differs_known size k one (Known other) = not (bytes_eq (said_in size k one) (said_in size k other))
differs_known size k one Conflict = false

-- block k of two copies is known in both, and does not say the same
abbrev pub differs : ℕ → ℕ → State → State → Bool
differs size k Unknown other = false
differs size k (Known one) other = differs_known size k one other
differs size k Conflict other = false

-- so do the copies that begin at these two blocks
abbrev pub differs_from : Blocks → ℕ → ℕ → ℕ → ℕ → Bool
differs_from blocks size k a b = differs size k (blocks (a + k)) (blocks (b + k))

-- so do some two of the copies
abbrev pub differ_in : Blocks → ℕ → List ℕ → ℕ → Bool
differ_in blocks size tables k = list_any (λ a. list_any (differs_from blocks size k a) tables) tables

-- the copies disagree in some block
abbrev pub copies_disagree : Blocks → ℕ → List ℕ → Bool
copies_disagree blocks size tables = list_any (differ_in blocks size tables) (range_with_len 0 (blocks_in size))

-- these are blocks of two copies, both known, that hold the same block of the table and do not say the same
pub record AreCopiesApart (blocks : Blocks) (size : ℕ) (tables : List ℕ) (one other : ℕ) : Type 0 where
  pub number : ℕ
  pub inside : number < blocks_in size
  pub first : ℕ
  pub second : ℕ
  pub first_is : Contains tables first
  pub second_is : Contains tables second
  pub differ : differs_from blocks size number first second ≡ true
  pub one_is : one ≡ first + number
  pub other_is : other ≡ second + number

-- ---- a copy without a tag
-- the bytes of a block, if it is known
abbrev pub known_bytes : State → Bytes
known_bytes Unknown = []
known_bytes (Known bytes) = bytes
known_bytes Conflict = []

-- whether each block of the copy that begins at a block is known
abbrev pub is_known_copy : Blocks → ℕ → ℕ → Bool
is_known_copy blocks size place = list_all (λ k. is_known (blocks (place + k))) (range_with_len 0 (blocks_in size))

-- its bytes, as far as they are known
abbrev pub copy_bytes : Blocks → ℕ → ℕ → Bytes
copy_bytes blocks size place = take size (flat_map (λ k. known_bytes (blocks (place + k))) (range_with_len 0 (blocks_in size)))

-- whether it is known whole, and has no valid tag of identifier 0 at its place
abbrev pub is_untagged : Blocks → ℕ → ℕ → Bool
is_untagged blocks size place = is_known_copy blocks size place && not (is_valid (copy_bytes blocks size place) place 0)

-- ---- the same of a map
-- two blocks of copies of its table do not say the same
abbrev pub IsMapApart : Blocks → PartitionMap → ℕ → ℕ → Type 0
IsMapApart blocks type1 one other = ⊥
IsMapApart blocks (sparable packet size tables) one other = AreCopiesApart blocks size tables one other

-- a copy of its table begins here, is known whole, and has no valid tag
abbrev pub IsMapUntagged : Blocks → PartitionMap → ℕ → Type 0
IsMapUntagged blocks type1 place = ⊥
IsMapUntagged blocks (sparable packet size tables) place = Contains tables place × (is_untagged blocks size place ≡ true)

-- no two known blocks of copies of a table differ, and each copy that is known whole has a valid tag
pub record AreClearCopies (blocks : Blocks) (size : ℕ) (tables : List ℕ) : Type 0 where
  pub alike : copies_disagree blocks size tables ≡ false
  pub tagged : (place : ℕ) → Contains tables place → is_untagged blocks size place ≡ false

-- so it is of the table of a map
abbrev pub IsClearMap : Blocks → PartitionMap → Type 0
IsClearMap blocks type1 = ⊤
IsClearMap blocks (sparable packet size tables) = AreClearCopies blocks size tables
