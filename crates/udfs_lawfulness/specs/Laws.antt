-- There are lawful volumes with descriptors of each form that is read.
--     IsEntryOn opened path bytes file    at the end of a path there is an entry in a block with these bytes, and this file
--     HasManyForms volume last            a lawful volume with these forms
use Rattle.std.specs.Prelude.{◌≡◌, ◌<◌, ℕ, List, [], ◌∷◌, length, map, Some, slice_get}
use Rattle.udfs_lattice.specs.Volumes.{Volume}
use Rattle.udfs_tag.specs.declared.layouts.LongAd.{LongAd}
use Rattle.udfs_tag.specs.Tags.{covered_len, identifier}
use Rattle.udfs_volume.specs.declared.profiles.Profile.TheVariants.{Strict}
use Rattle.udfs_volume.specs.Sequence.{Bytes}
use Rattle.udfs_space.specs.declared.entries.SparingEntry.{SparingEntry}
use Rattle.udfs_space.specs.Places.{IsSparedBy}
use Rattle.udfs_space.specs.Sparing.{Span}
use Rattle.udfs_space.specs.Standard.{standard_space}
use Rattle.udfs_file.specs.Standard.{recorded_in}
use Rattle.udfs_walk.specs.Trees.{IsFileAt, Leads, TreeFile}
use Rattle.udfs_salvage.specs.VolumeTrees.{IsLawfulBy, IsOpenedBy, Opened}

-- the path leads from the root to an address, the block there has these bytes, and this is the file there
pub record IsEntryOn (opened : Opened) (path : List (List ℕ)) (bytes : Bytes) (file : TreeFile) : Type 0 where
  pub address : LongAd
  pub leads : Leads opened.blocks opened.root path address
  pub block : opened.blocks.at address.reference address.block ≡ Some bytes
  pub is_file : IsFileAt opened.blocks address file

-- the root's ICB is in a packet that a sparing table maps
pub record HasSparedRoot (volume : Volume) (opened : Opened) : Type 0 where
  pub span : Span
  pub there : slice_get (standard_space volume opened.layout).spans opened.root.reference ≡ Some span
  pub entry : SparingEntry
  pub spared : IsSparedBy span opened.root.block entry

-- the kinds of the allocation descriptors in an entry's own area: 0 recorded, 1 allocated and not recorded, 3 a continuation (4/14.14.1.1)
abbrev pub kinds_in : TreeFile → List ℕ
kinds_in file = map (λ d. d.kind) (recorded_in file.fields.form 0 file.fields.area)

-- A lawful volume with these forms of descriptors.
pub record HasManyForms (volume : Volume) (last : ℕ) : Type 0 where
  pub lawful : IsLawfulBy Strict volume last
  pub opened : Opened
  pub is_opened : IsOpenedBy Strict volume last opened
  pub revision : opened.layout.revision ≡ 0x201
  pub spared : HasSparedRoot volume opened
  -- the root: an extended entry with a long descriptor, of a directory of more than one block
  pub root_bytes : Bytes
  pub root : TreeFile
  pub root_is : IsEntryOn opened [] root_bytes root
  pub extended : identifier root_bytes ≡ 266
  pub root_long : root.fields.form ≡ 1
  pub two_blocks : 2048 < length root.body
  -- the file A: a CRC that covers something, long descriptors, an extent that is not recorded, and a continuation
  pub a_bytes : Bytes
  pub a : TreeFile
  pub a_is : IsEntryOn opened ((0x41 ∷ []) ∷ []) a_bytes a
  pub covers : covered_len a_bytes ≡ 208
  pub a_long : a.fields.form ≡ 1
  pub a_kinds : kinds_in a ≡ 0 ∷ 1 ∷ 3 ∷ []
  pub a_size : length a.body ≡ 4106
  -- the file β, whose name is one unit of more than 8 bits
  pub b_bytes : Bytes
  pub b : TreeFile
  pub b_is : IsEntryOn opened ((0x3B2 ∷ []) ∷ []) b_bytes b

-- there is one
abbrev pub SomeManyForms : Type 0
SomeManyForms = (volume : Volume) × (last : ℕ) × HasManyForms volume last
