-- A body of complete blocks by the list of descriptors as the report counts them: where the tail is taken, the last extent is one up to the
-- end of its last block. `Standard` states the same by the list as it is recorded (proofs/StandardTails.antt shows it).
use Rattle.std.proofs.Common.{◌≡◌, ℕ, ◌+◌, ◌*◌, ◌<◌, ◌≤◌, Bool, not, List, [], ◌∷◌, ◌++◌, length, take, cond, Some, nat_eq, ◌%◌}
use Rattle.std.specs.Prelude.{⊤, flat_map, take_while}
use Rattle.udfs_volume.specs.Sequence.{Bytes}
use Rattle.udfs_tag.specs.declared.layouts.LongAd.{LongAd}
use Rattle.udfs_tag.specs.Fields.{part, uint32_at}
use Rattle.udfs_volume.specs.Profiles.{takes_tail}
use Rattle.udfs_file.specs.Bodies.{descriptors_in, next_descriptor}
use Rattle.udfs_file.specs.Entries.{EntryFields}
use Rattle.udfs_file.specs.Standard.{PartitionBlocks, Located, extent_bytes, up_to_end, IsOneBlock, IsExtentAt, IsEmbeddedBody}

-- the allocation descriptors of an area, as they are counted, up to the first of type 3
abbrev pub extents_in : Bool → ℕ → ℕ → Bytes → List LongAd
extents_in tail form r area = take_while (λ d. not (nat_eq d.kind 3)) (descriptors_in tail form r area)

-- the extents of an area, and those of each continuation in turn, as far as these blocks hold them
abbrev pub IsJoined : PartitionBlocks → ℕ → ℕ → Bytes → List Bytes → List LongAd → Type 0
IsJoined blocks form r area [] ds = ds ≡ extents_in (takes_tail blocks.profile) form r area
IsJoined blocks form r area (bytes ∷ more) ds = (d : LongAd) × (later : List LongAd)
    × (next_descriptor (descriptors_in (takes_tail blocks.profile) form r area) ≡ Some d) × IsOneBlock d × (blocks.at d.reference d.block ≡ Some bytes)
    × IsExtentAt form d.block bytes × IsJoined blocks form r (part bytes 24 (uint32_at bytes 20)) more later
    × (ds ≡ extents_in (takes_tail blocks.profile) form r area ++ later)

-- An extent that begins at byte c of a body of this size: each of its recorded blocks that holds a byte of the body
-- is there, and where it ends before the body does, it fills its blocks (4/12.1).
pub record IsExtentOf (blocks : PartitionBlocks) (c size : ℕ) (d : LongAd) : Type 0 where
  pub there : d.kind ≡ 0 → (j : ℕ) → 2048 * j < d.length → c + 2048 * j < size
      → (bytes : Bytes) × (blocks.at d.reference (d.block + j) ≡ Some bytes)
  pub full : c + d.length < size → d.length % 2048 ≡ 0

-- each descriptor is a good extent of a body of this size, from byte c on
abbrev pub AreExtentsOf : PartitionBlocks → ℕ → ℕ → List LongAd → Type 0
AreExtentsOf blocks c size [] = ⊤
AreExtentsOf blocks c size (d ∷ ds) = IsExtentOf blocks c size d × AreExtentsOf blocks (c + d.length) size ds

-- a body is the first bytes of its concatenated extents, as they are counted
pub record IsExtentsBody (blocks : PartitionBlocks) (r : ℕ) (e : EntryFields) (body : List Located) : Type 0 where
  pub followed : List Bytes
  pub extents : List LongAd
  pub joined : IsJoined blocks e.form r e.area followed extents
  pub limit : length followed ≤ 256
  pub sound : AreExtentsOf blocks 0 e.size (up_to_end extents)
  pub bytes : List Located
  pub together : bytes ≡ flat_map (extent_bytes blocks) (up_to_end extents)
  pub enough : e.size ≤ length bytes
  pub is : body ≡ take e.size bytes

-- the bytes of an entry's body
abbrev pub IsBodyOf : PartitionBlocks → ℕ → ℕ → EntryFields → List Located → Type 0
IsBodyOf blocks r b e body = cond (nat_eq e.form 3) (IsEmbeddedBody b e body) (IsExtentsBody blocks r e body)
