-- Files and directories, by the tables alone: an entry, the descriptors of its areas, its body, and the identifiers of a directory.
--     AreListed blocks form r area followed ds     the descriptors from an area on, as far as the blocks that are followed continue it
--     IsBodyAt blocks r b e body                   the body of an entry
--     AreIdentifiers profile body ids              a directory's body is these descriptors, one after the other
use Rattle.std.specs.Prelude.{◌≡◌, ◌≢◌, ℕ, ◌≤◌, ◌⊎◌, List, [], ◌∷◌, ◌++◌, length, map, flat_map, take, Option, Some, None}
use Rattle.udfs_tag.specs.declared.layouts.LongAd.{LongAd}
use Rattle.udfs_volume.specs.declared.profiles.Profile.{Profile}
use Rattle.udfs_volume.specs.Sequence.{Bytes}
use Rattle.udfs_file.specs.Entries.{EntryFields}
use Rattle.udfs_file.specs.Identifiers.{Identifier}
use Rattle.udfs_file.specs.Standard.{AreExtentsOf, IsEmbeddedBody, IsOneBlock, Located, MayName, PartitionBlocks, extent_bytes, extents_of, tail_by, up_to_end}
use Rattle.udfs_lawfulness.specs.Extents.{AreRecorded, IsAllocationExtent}
use Rattle.udfs_lawfulness.specs.Identifiers.{IsIdentifierAt}

-- the bytes of a piece of a body, without the blocks that hold them
abbrev pub bytes_in : List Located → List ℕ
bytes_in piece = map (λ x. x.0) piece

-- the first descriptors of a list, up to one of type 3 and with it, and that one; or all of them, where none is of that type (4/14.14.1.1)
abbrev pub IsCutAt : List LongAd → List LongAd → Option LongAd → Type 0
IsCutAt [] ds next = (ds ≡ []) × (next ≡ None)
IsCutAt (d ∷ here) ds next = ((d.kind ≡ 3) × (ds ≡ d ∷ []) × (next ≡ Some d)) ⊎ ((d.kind ≢ 3) × ((rest : List LongAd) × (ds ≡ d ∷ rest) × IsCutAt here rest next))

-- the descriptors in an area up to the first of type 3, and those of the allocation extents that are followed (4/12.1)
abbrev pub AreListed : PartitionBlocks → ℕ → ℕ → Bytes → List Bytes → List LongAd → Type 0
AreListed blocks form r area [] ds = (here : List LongAd) × (next : Option LongAd) × AreRecorded form r area here × IsCutAt here ds next
AreListed blocks form r area (bytes ∷ more) ds = (here : List LongAd) × (front : List LongAd) × (d : LongAd) × (next : Bytes) × (later : List LongAd)
    × AreRecorded form r area here × IsCutAt here front (Some d) × IsOneBlock d × (blocks.at d.reference d.block ≡ Some bytes)
    × IsAllocationExtent form bytes d.block next × AreListed blocks form r next more later × (ds ≡ front ++ later)

-- a body in extents: the first bytes of its concatenated extents and their tail (at most 256 continuations: own choice)
pub record IsInExtents (blocks : PartitionBlocks) (r : ℕ) (e : EntryFields) (body : List Located) : Type 0 where
  pub followed : List Bytes
  pub descriptors : List LongAd
  pub listed : AreListed blocks e.form r e.area followed descriptors
  pub limit : length followed ≤ 256
  pub sound : AreExtentsOf blocks 0 e.size (extents_of (up_to_end descriptors))
  pub bytes : List Located
  pub together : bytes ≡ flat_map (extent_bytes blocks) (extents_of (up_to_end descriptors)) ++ tail_by blocks (up_to_end descriptors)
  pub enough : e.size ≤ length bytes
  pub is : body ≡ take e.size bytes

-- the body of an entry: in the entry itself where the form is 3 (4/14.6.8), and else in extents
abbrev pub IsBodyAt : PartitionBlocks → ℕ → ℕ → EntryFields → List Located → Type 0
IsBodyAt blocks r b e body = ((e.form ≡ 3) × IsEmbeddedBody b e body) ⊎ ((e.form ≢ 3) × IsInExtents blocks r e body)

-- a directory's body is file identifier descriptors and nothing else, each of a tag that names a place that it may name
abbrev pub AreIdentifiers : Profile → List Located → List Identifier → Type 0
AreIdentifiers profile body [] = body ≡ []
AreIdentifiers profile body (id ∷ ids) = (piece : List Located) × (rest : List Located) × (place : ℕ) × (body ≡ piece ++ rest) × MayName profile piece place
    × IsIdentifierAt (bytes_in piece) place id × AreIdentifiers profile rest ids
