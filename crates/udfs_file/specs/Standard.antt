-- What the standard reads from complete blocks (ECMA-167 4/14.4, 4/14.5, 4/14.14): no state, nothing missing.
-- Blocks are given by a partition reference and a logical block.
--     IsFileSetAt blocks a root        the file set descriptor at an address, and the root's ICB that it names
--     IsBodyOf blocks r b e body       the body of the entry at block b of partition r
--     IsDirectoryBody profile body ids   the descriptors in a directory's body, by these rules
use Rattle.std.specs.Prelude.{◌≡◌, ◌≢◌, ⊤, ℕ, ◌+◌, ◌-◌, ◌*◌, ◌%◌, ◌<◌, ◌≤◌, true, not, List, [], ◌∷◌, ◌++◌, length, take, drop, filter, map, flat_map, replicate, take_while, cond, nat_eq, nat_lt, Option, Some, None}
use Rattle.std.specs.List.{range_with_len}
use Rattle.udfs_volume.specs.Sequence.{Bytes}
use Rattle.udfs_tag.specs.declared.layouts.LongAd.{LongAd}
use Rattle.udfs_tag.specs.Fields.{uint32_at, long_ad_at, part}
use Rattle.udfs_tag.specs.Tags.{is_valid}
use Rattle.udfs_volume.specs.Layout.{blocks_in}
use Rattle.udfs_volume.specs.declared.profiles.Profile.{Profile}
use Rattle.udfs_volume.specs.declared.profiles.Profile.TheVariants.{Strict, Wide}
use Rattle.udfs_volume.specs.Profiles.{takes_tail}
use Rattle.udfs_file.specs.Entries.{EntryFields, descriptor_size}
use Rattle.udfs_file.specs.Bodies.{recorded_at, descriptor_count, up_to_next, next_descriptor}
use Rattle.udfs_file.specs.Fronts.{identifier_size, identifier_in}
use Rattle.udfs_file.specs.Identifiers.{Identifier}
use Rattle.udfs_file.specs.Identifiers.{One}

-- The blocks of the partitions, by partition reference and logical block, and the rules by which they are read: whether the last
-- extent of a body may end inside a block that goes on, and whether the tags in a directory name their places.
pub record PartitionBlocks : Type 0 where
  pub at : ℕ → ℕ → Option Bytes
  pub profile : Profile

-- the file set descriptor at an address names this ICB of the root directory (4/14.1)
pub record IsFileSetAt (blocks : PartitionBlocks) (a root : LongAd) : Type 0 where
  pub recorded : a.kind ≡ 0
  pub not_empty : a.length ≢ 0
  pub bytes : Bytes
  pub block : blocks.at a.reference a.block ≡ Some bytes
  pub valid : is_valid bytes a.block 256 ≡ true
  pub is : root ≡ long_ad_at bytes 400

-- A byte of a body, with the logical block that holds it, if one does.
abbrev pub Located : Type 0
Located = ℕ × Option ℕ

-- each byte with the logical block that holds it
abbrev pub located : ℕ → Bytes → List Located
located b bytes = map (λ x. (x, Some b)) bytes

-- the bytes of a block, each with the logical block that holds it; none if there is no such block
abbrev pub block_bytes : ℕ → Option Bytes → List Located
block_bytes b None = []
block_bytes b (Some bytes) = located b bytes

-- the bytes of the consecutive blocks in which an extent lies
abbrev pub extent_blocks : PartitionBlocks → LongAd → List Located
extent_blocks blocks d = flat_map (λ b. block_bytes b (blocks.at d.reference b)) (range_with_len d.block (blocks_in d.length))

-- the bytes of an extent: the first of its blocks' bytes, or zeros where nothing is recorded
abbrev pub extent_bytes : PartitionBlocks → LongAd → List Located
extent_bytes blocks d = cond (nat_eq d.kind 0) (take d.length (extent_blocks blocks d)) (replicate d.length (0, None))

-- the bytes behind an extent, up to the end of the block in which it ends
abbrev pub bytes_behind : PartitionBlocks → LongAd → List Located
bytes_behind blocks d = cond (nat_eq d.kind 0) (drop d.length (extent_blocks blocks d)) (replicate (2048 * blocks_in d.length - d.length) (0, None))

-- the allocation descriptors that are recorded in an area
abbrev pub recorded_in : ℕ → ℕ → Bytes → List LongAd
recorded_in form r area = map (recorded_at form r area) (range_with_len 0 (descriptor_count form area))

-- the extent that continues a list of descriptors is one block, and not empty (4/12.1; one block: own choice)
abbrev pub IsOneBlock : LongAd → Type 0
IsOneBlock d = (0 < d.length) × (d.length ≤ 2048)

-- the bytes are an allocation extent descriptor at logical block b: its descriptors are whole and lie in it (4/14.5)
abbrev pub IsExtentAt : ℕ → ℕ → Bytes → Type 0
IsExtentAt form b bytes = (is_valid bytes b 258 ≡ true) × (24 + uint32_at bytes 20 ≤ 2048) × (uint32_at bytes 20 % descriptor_size form ≡ 0)

-- the descriptors of an area up to the first of type 3, and with it, and those of each continuation in turn, as far as these blocks hold them
abbrev pub IsListed : PartitionBlocks → ℕ → ℕ → Bytes → List Bytes → List LongAd → Type 0
IsListed blocks form r area [] ds = ds ≡ up_to_next (recorded_in form r area)
IsListed blocks form r area (bytes ∷ more) ds = (d : LongAd) × (later : List LongAd)
    × (next_descriptor (recorded_in form r area) ≡ Some d) × IsOneBlock d × (blocks.at d.reference d.block ≡ Some bytes)
    × IsExtentAt form d.block bytes × IsListed blocks form r (part bytes 24 (uint32_at bytes 20)) more later
    × (ds ≡ up_to_next (recorded_in form r area) ++ later)

-- the descriptors up to one of length 0, which is the end (4/12.1)
abbrev pub up_to_end : List LongAd → List LongAd
up_to_end ds = take_while (λ d. nat_lt 0 d.length) ds

-- the extents among descriptors: those that do not continue the list
abbrev pub extents_of : List LongAd → List LongAd
extents_of ds = filter (λ d. not (nat_eq d.kind 3)) ds

-- the tail of a list: the bytes behind the extent that is its last descriptor, up to the end of the block in which it ends
abbrev pub tail_of : PartitionBlocks → List LongAd → List Located
tail_of blocks [] = []
tail_of blocks (d ∷ []) = cond (nat_eq d.kind 3) [] (bytes_behind blocks d)
tail_of blocks (d ∷ e ∷ ds) = tail_of blocks (e ∷ ds)

-- the same by the rules of the blocks: the strict ones take no tail
abbrev pub tail_by : PartitionBlocks → List LongAd → List Located
tail_by blocks ds = cond (takes_tail blocks.profile) (tail_of blocks ds) []

-- An extent that begins at byte c of a body of this size, before these others: each of its recorded blocks that holds a byte of the body
-- is there, and where it ends before the body does and is not the last, it fills its blocks (4/12.1).
pub record IsExtentOf (blocks : PartitionBlocks) (c size : ℕ) (d : LongAd) (others : List LongAd) : Type 0 where
  pub there : d.kind ≡ 0 → (j : ℕ) → 2048 * j < d.length → c + 2048 * j < size
      → (bytes : Bytes) × (blocks.at d.reference (d.block + j) ≡ Some bytes)
  pub full : others ≢ [] → c + d.length < size → d.length % 2048 ≡ 0

-- each is a good extent of a body of this size, from byte c on
abbrev pub AreExtentsOf : PartitionBlocks → ℕ → ℕ → List LongAd → Type 0
AreExtentsOf blocks c size [] = ⊤
AreExtentsOf blocks c size (d ∷ ds) = IsExtentOf blocks c size d ds × AreExtentsOf blocks (c + d.length) size ds

-- A body is the first bytes of its concatenated extents and their tail (at most 256 continuations: own choice). Descriptors are taken
-- as they are recorded.
pub record IsExtentsBody (blocks : PartitionBlocks) (r : ℕ) (e : EntryFields) (body : List Located) : Type 0 where
  pub followed : List Bytes
  pub descriptors : List LongAd
  pub listed : IsListed blocks e.form r e.area followed descriptors
  pub limit : length followed ≤ 256
  pub sound : AreExtentsOf blocks 0 e.size (extents_of (up_to_end descriptors))
  pub bytes : List Located
  pub together : bytes ≡ flat_map (extent_bytes blocks) (extents_of (up_to_end descriptors)) ++ tail_by blocks (up_to_end descriptors)
  pub enough : e.size ≤ length bytes
  pub is : body ≡ take e.size bytes

-- an embedded body is the first bytes of the entry's own area, which has enough (4/14.6.8)
pub record IsEmbeddedBody (b : ℕ) (e : EntryFields) (body : List Located) : Type 0 where
  pub enough : e.size ≤ length e.area
  pub is : body ≡ located b (take e.size e.area)

-- these are the bytes of an entry's body, as the standard reads them
abbrev pub IsBodyOf : PartitionBlocks → ℕ → ℕ → EntryFields → List Located → Type 0
IsBodyOf blocks r b e body = cond (nat_eq e.form 3) (IsEmbeddedBody b e body) (IsExtentsBody blocks r e body)

-- a tag may name this place where a descriptor has these bytes: the block that holds its first byte, and by the wide rules any
abbrev pub MayName : Profile → List Located → ℕ → Type 0
MayName Strict piece block = (rest : List Located) × (x : ℕ) × (piece ≡ (x, Some block) ∷ rest)
MayName Wide piece block = ⊤

-- these bytes are one valid file identifier descriptor (4/14.4), whose tag names a place that it may name
pub record IsIdentifierIn (profile : Profile) (piece : List Located) (id : Identifier) : Type 0 where
  pub bytes : Bytes
  pub bytes_are : bytes ≡ map (λ x. x.0) piece
  pub block : ℕ
  pub place : MayName profile piece block
  pub long_enough : 38 ≤ length piece
  pub size : length piece ≡ identifier_size bytes
  pub valid : is_valid bytes block 257 ≡ true
  pub is : identifier_in (length piece) bytes ≡ One id

-- a directory's body is a list of file identifier descriptors and nothing else (4/14.4)
abbrev pub IsDirectoryBody : Profile → List Located → List Identifier → Type 0
IsDirectoryBody profile body [] = body ≡ []
IsDirectoryBody profile body (id ∷ ids) = (piece : List Located) × (rest : List Located) × (body ≡ piece ++ rest)
    × IsIdentifierIn profile piece id × IsDirectoryBody profile rest ids
