-- The contents of the partitions of the sample volumes of udfs_volume: a file set, the root with the files A and B, and their bytes.
-- B is in the last partition: in the spared packet of a sparable one where there is one.
--     sample_contents maps     the blocks
--     sample_view maps         the view of the sample volume, all known
--     sample_root              the address of the root's ICB
--     SampleFileSet            these are blocks, and the file set names the root
--     AreSampleFiles maps      the root and both files: their entries, their bodies, and what the root lists
use Rattle.std.specs.Prelude.{◌≡◌, ℕ, List, [], ◌∷◌, ◌++◌, map, take, replicate, cond, nat_eq, nat_le, ◌-◌, Some, None}
use Rattle.udfs_lattice.specs.States.{IsBlock}
use Rattle.udfs_lattice.specs.declared.facts.Fact.TheVariants.{Known}
use Rattle.udfs_tag.specs.declared.layouts.LongAd.{LongAd}
use Rattle.udfs_volume.specs.Answers.{found}
use Rattle.udfs_volume.specs.Sequence.{Bytes}
use Rattle.udfs_volume.specs.Sample.{Maps, one_type1, one_sparable, type1_and_sparable, patched, sample_blocks, sample_layout, tag}
use Rattle.udfs_space.specs.Places.{View, block_at, view}
use Rattle.udfs_space.specs.Sample.{sample_space}
use Rattle.udfs_file.specs.Addresses.{address_fault, file_set}
use Rattle.udfs_file.specs.Bodies.{body, cells}
use Rattle.udfs_file.specs.Entries.{entry_fault, entry_of}
use Rattle.udfs_file.specs.Fronts.{directory, directory_entries}
use Rattle.udfs_file.specs.Identifiers.{Nothing}
use Rattle.udfs_file.specs.declared.cells.Cell.{Cell}
use Rattle.udfs_file.specs.declared.cells.Cell.TheVariants.{Byte}
use Rattle.udfs_file.specs.declared.directories.DirEntry.{DirEntry}
use Rattle.udfs_file.specs.declared.faults.Kind.{Kind}
use Rattle.udfs_file.specs.declared.faults.Kind.TheVariants.{Directory, File}

-- a moment of 2001
abbrev pub stamp : Bytes
stamp = 0x3C ∷ 0x10 ∷ 0xD1 ∷ 0x07 ∷ 0x07 ∷ 0x04 ∷ 0x0A ∷ 0x1E ∷ 0 ∷ 0 ∷ 0 ∷ 0 ∷ []

-- a file identifier descriptor of 40 bytes
abbrev pub identifier_at : Bytes → Bytes
identifier_at more = take 40 (1 ∷ 1 ∷ 2 ∷ 0 ∷ 6 ∷ 0 ∷ 0 ∷ 0 ∷ 0 ∷ 0 ∷ 0 ∷ 0 ∷ 2 ∷ 0 ∷ 0 ∷ 0 ∷ 1 ∷ 0 ∷ more)

-- that of a file with a name of one letter, whose ICB is at this partition reference and logical block
abbrev pub name_at : ℕ → ℕ → ℕ → Bytes
name_at reference block letter = identifier_at (0 ∷ 2 ∷ 0 ∷ 8 ∷ 0 ∷ 0 ∷ block ∷ 0 ∷ 0 ∷ 0 ∷ reference ∷ 0 ∷ 0 ∷ 0 ∷ 0 ∷ 0 ∷ 0 ∷ 0 ∷ 0 ∷ 0 ∷ 8 ∷ letter ∷ [])

-- the reference of the last partition
abbrev pub last_reference : Maps → ℕ
last_reference one_type1 = 0
last_reference one_sparable = 0
last_reference type1_and_sparable = 1

-- a directory of its parent and the names A and B, whose ICBs are at logical block 3 of the first partition and 4 of the last
abbrev pub directory_block : Maps → Bytes
directory_block maps = patched ((0, identifier_at (0x0A ∷ 0 ∷ 0 ∷ 8 ∷ 0 ∷ 0 ∷ 1 ∷ replicate 15 0)) ∷ (40, name_at 0 3 0x41)
    ∷ (80, name_at (last_reference maps) 4 0x42) ∷ [])

-- the file set
abbrev pub file_set_block : Bytes
file_set_block = patched ((0, tag 0 1 3 0 0) ∷ (400, 0 ∷ 8 ∷ 0 ∷ 0 ∷ 1 ∷ []) ∷ [])

-- the ICBs of the root, of A with 5,000 bytes in three blocks, and of B with two bytes in it
abbrev pub root_block : Bytes
root_block = patched ((0, tag 5 1 9 1 0) ∷ (20, 4 ∷ []) ∷ (27, 4 ∷ []) ∷ (56, 0x78 ∷ []) ∷ (84, stamp) ∷ (172, 8 ∷ []) ∷ (176, 0x78 ∷ 0 ∷ 0 ∷ 0 ∷ 2 ∷ []) ∷ [])

-- the entry of the sample's file A, of 5000 bytes in three blocks
abbrev pub a_block : Bytes
a_block = patched ((0, tag 5 1 0x0B 3 0) ∷ (20, 4 ∷ []) ∷ (27, 5 ∷ []) ∷ (56, 0x88 ∷ 0x13 ∷ []) ∷ (84, stamp) ∷ (172, 8 ∷ []) ∷ (176, 0x88 ∷ 0x13 ∷ 0 ∷ 0 ∷ 5 ∷ []) ∷ [])

-- the entry of the sample's file B, which holds its two bytes itself
abbrev pub b_block : Bytes
b_block = patched ((0, tag 5 1 0x0C 4 0) ∷ (20, 4 ∷ []) ∷ (27, 5 ∷ []) ∷ (34, 3 ∷ []) ∷ (56, 2 ∷ []) ∷ (84, stamp) ∷ (172, 2 ∷ []) ∷ (176, 0x48 ∷ 0x69 ∷ []) ∷ [])

-- the logical blocks: the file set, the root's ICB and directory, the ICBs of both files, the bytes of A
abbrev pub logical_block : Maps → ℕ → Bytes
logical_block maps b = cond (nat_eq b 0) file_set_block (cond (nat_eq b 1) root_block (cond (nat_eq b 2) (directory_block maps)
    (cond (nat_eq b 3) a_block (cond (nat_eq b 4) b_block
    (cond (nat_eq b 5) (replicate 2048 0x61) (cond (nat_eq b 6) (replicate 2048 0x62) (cond (nat_eq b 7) (replicate 2048 0x63) (replicate 2048 0))))))))

-- they are at the beginning of a partition of type 1, from block 272 on, and where the first packet of a sparable one is mapped,
-- from block 96 on
abbrev pub sample_contents : Maps → ℕ → Bytes
sample_contents maps n = cond (nat_le 272 n) (logical_block maps (n - 272)) (cond (nat_le 96 n) (logical_block maps (n - 96)) (replicate 2048 0))

-- the sample volume as it is seen with all of it known
abbrev pub sample_view : Maps → View
sample_view maps = view (sample_blocks maps (sample_contents maps)) (sample_space maps)

-- the address of an ICB, by its partition reference and logical block
abbrev pub icb_at : ℕ → ℕ → LongAd
icb_at reference block = record { kind = 0; length = 2048; block = block; reference = reference }

-- the root's ICB is at logical block 1 of the first partition
abbrev pub sample_root : LongAd
sample_root = icb_at 0 1

-- the sample's blocks are blocks, and its file set names its root
abbrev pub SampleFileSet : Type 0
SampleFileSet = (maps : Maps) → ((n : ℕ) → IsBlock (sample_contents maps n)) × (file_set (sample_view maps) (sample_layout maps).file_set ≡ found sample_root)

-- ---- the files

-- a good address, with an entry of this kind without a fault, whose body has these cells
pub record IsSampleFile (maps : Maps) (a : LongAd) (kind : Kind) (cs : List Cell) : Type 0 where
  pub is_good : address_fault (sample_view maps) a ≡ None
  pub block : ℕ
  pub bytes : Bytes
  pub there : block_at (sample_view maps) a.reference a.block ≡ Some (block, Known bytes)
  pub is_sound : entry_fault bytes a.block ≡ None
  pub kind_is : (entry_of bytes).kind ≡ kind
  pub has_body : body (sample_view maps) a.reference a.block (entry_of bytes) ≡ cells cs

-- these bytes, in a logical block
abbrev pub cells_of_bytes : ℕ → Bytes → List Cell
cells_of_bytes block bytes = map (λ x. Byte x (Some block)) bytes

-- the cells of the sample's root
abbrev pub root_cells : Maps → List Cell
root_cells maps = cells_of_bytes 2 (take 120 (directory_block maps))

-- the cells of the sample's file A
abbrev pub a_cells : List Cell
a_cells = cells_of_bytes 5 (replicate 2048 0x61) ++ cells_of_bytes 6 (replicate 2048 0x62) ++ cells_of_bytes 7 (replicate 904 0x63)

-- the cells of the sample's file B
abbrev pub b_cells : List Cell
b_cells = cells_of_bytes 4 (0x48 ∷ 0x69 ∷ [])

-- an entry of the root: a name of one letter, and the address of its ICB
abbrev pub entry_named : ℕ → LongAd → DirEntry
entry_named letter icb = record { name = letter ∷ []; icb = icb; marks = record { 0 = 0 } }

-- the address of the ICB of A
abbrev pub icb_of_a : LongAd
icb_of_a = icb_at 0 3

-- that of B is in the last partition
abbrev pub icb_of_b : Maps → LongAd
icb_of_b maps = icb_at (last_reference maps) 4

-- a root that lists A and B and has no fault, and both files
pub record AreSampleFiles (maps : Maps) : Type 0 where
  pub root : IsSampleFile maps sample_root Directory (root_cells maps)
  pub a : IsSampleFile maps icb_of_a File a_cells
  pub b : IsSampleFile maps (icb_of_b maps) File b_cells
  pub no_rest : (directory (root_cells maps)).rest ≡ Nothing
  pub entries : directory_entries (root_cells maps) ≡ entry_named 0x41 icb_of_a ∷ entry_named 0x42 (icb_of_b maps) ∷ []

-- so it is in each sample volume
abbrev pub HaveSampleFiles : Type 0
HaveSampleFiles = (maps : Maps) → AreSampleFiles maps
