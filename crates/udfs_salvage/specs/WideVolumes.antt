-- How the wide rules relate to the strict ones.
--     WideTakesStrict     what is lawful by the strict rules is lawful by the wide ones, and has the same files
--     WideTakesMore       and there are volumes, of revision 2.00, and of 1.02 with packets of 64, that are lawful by the wide rules alone
--     WideTakesTails      and one that is so because of a tail
use Rattle.std.specs.Prelude.{◌≡◌, ◌↔◌, ℕ, List, [], ◌∷◌, map, Some, true}
use Rattle.udfs_volume.specs.declared.profiles.Profile.TheVariants.{Strict, Wide}
use Rattle.udfs_lattice.specs.Volumes.{Volume, complete}
use Rattle.udfs_volume.specs.Answers.{found}
use Rattle.udfs_volume.specs.Layout.{Layout, PartitionMap, type1, sparable, layout_by}
use Rattle.udfs_space.specs.Places.{view}
use Rattle.udfs_file.specs.Entries.{EntryFields}
use Rattle.udfs_file.specs.TailBodies.{is_tail_read}
use Rattle.udfs_walk.specs.Routes.{Route, Walked, walked}
use Rattle.udfs_walk.specs.Targets.{entry, target}
use Rattle.udfs_walk.specs.Trees.{TreeFile}
use Rattle.udfs_salvage.specs.Laws.{IsLawfulVolumeBy}
use Rattle.udfs_salvage.specs.VolumeTrees.{IsInVolumeBy, IsLawfulBy}

-- the volume is lawful by the wide rules, and they read the same files in it as the strict ones, with the same fields and bytes
pub record IsTakenByWide (volume : Volume) (last : ℕ) : Type 0 where
  pub lawful : IsLawfulBy Wide volume last
  pub files : (path : List (List ℕ)) (file : TreeFile) → IsInVolumeBy Strict volume last path file ↔ IsInVolumeBy Wide volume last path file

-- every volume that is lawful by the strict rules is taken so by the wide ones
abbrev pub WideTakesStrict : Type 0
WideTakesStrict = (volume : Volume) (last : ℕ) → IsLawfulBy Strict volume last → IsTakenByWide volume last

-- a volume of this revision and with this partition map alone, with a file below its root, which is lawful by the wide rules and not by
-- the strict ones
pub record IsOfWideAlone (revision : ℕ) (kind : PartitionMap) (volume : Volume) (last : ℕ) : Type 0 where
  pub layout : Layout
  pub layout_is : layout_by Wide (complete volume last) last ≡ found layout
  pub revision_is : layout.revision ≡ revision
  pub kinds_are : map (λ p. p.kind) layout.partitions ≡ kind ∷ []
  pub lawful : IsLawfulBy Wide volume last
  pub not_strict : ¬ IsLawfulBy Strict volume last
  pub name : List ℕ
  pub file : TreeFile
  pub in_volume : IsInVolumeBy Wide volume last (name ∷ []) file

-- there is one
abbrev pub HasWideAlone : ℕ → PartitionMap → Type 0
HasWideAlone revision kind = (volume : Volume) × (last : ℕ) × IsOfWideAlone revision kind volume last

-- one of revision 2.00, and one of revision 1.02 with packets of 64 blocks
abbrev pub WideTakesMore : Type 0
WideTakesMore = HasWideAlone 0x200 type1 × HasWideAlone 0x102 (sparable 64 64 (64 ∷ 65 ∷ []))

-- A volume with a file below its root of which nothing but the tree is not lawful by the strict rules, and all is by the wide ones: a
-- route leads to an entry whose body is read by the tail of its last extent.
pub record IsOfTailAlone (volume : Volume) (last : ℕ) : Type 0 where
  pub strict : IsLawfulVolumeBy Strict volume last
  pub not_strict : ¬ IsLawfulBy Strict volume last
  pub wide : IsLawfulVolumeBy Wide volume last
  pub lawful : IsLawfulBy Wide volume last
  pub route : Route
  pub end : Walked
  pub fields : EntryFields
  pub leads : walked (view (complete volume last) wide.found_is.space) wide.found_is.root route ≡ Some end
  pub is_entry : target (view (complete volume last) wide.found_is.space) end.address ≡ entry fields
  pub by_tail : is_tail_read (view (complete volume last) wide.found_is.space) end.address.reference end.address.block fields ≡ true
  pub name : List ℕ
  pub file : TreeFile
  pub in_volume : IsInVolumeBy Wide volume last (name ∷ []) file

-- there is one
abbrev pub WideTakesTails : Type 0
WideTakesTails = (volume : Volume) × (last : ℕ) × IsOfTailAlone volume last
