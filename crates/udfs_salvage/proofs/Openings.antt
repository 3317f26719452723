-- What the standard opens of a lawful volume: what is found with all blocks known, in one way only.
use Rattle.std.proofs.Common.{◌≡◌, sym, ◌∙◌, ap, subst, arith, ℕ, ◌<◌, ◌≤◌, refl, List, [], ◌∷◌, length, Some, slice_get}
use Rattle.std.specs.Prelude.{◌↔◌, zero, suc, option_map}
use Rattle.udfs_volume.specs.declared.profiles.Profile.{Profile}
use Rattle.udfs_lattice.specs.Volumes.{Blocks, Volume, complete}
use Rattle.udfs_lattice.proofs.PublicLaws.{complete_knows}
use Rattle.udfs_volume.specs.Layout.{layout_by}
use Rattle.udfs_volume.specs.Standard.{standard_anchor, standard_layout_by}
use Rattle.udfs_volume.proofs.PublicLaws.{layout_of_standard_by}
use Rattle.udfs_space.specs.Laws.{AreBlocksOf, HasStandardBlocks, blocks_by}
use Rattle.udfs_space.specs.Places.{place, place_by, view}
use Rattle.udfs_space.specs.Sparing.{Space, Span}
use Rattle.udfs_space.specs.Standard.{standard_space}
use Rattle.udfs_space.proofs.PublicLaws.{blocks_of_standard_by}
use Rattle.udfs_file.specs.Complete.{HasPartitions, IsComplete, IsReadFileSet}
use Rattle.udfs_file.specs.Standard.{IsFileSetAt}
use Rattle.udfs_file.proofs.PublicLaws.{file_set_is_read}
use Rattle.udfs_walk.specs.Lawful.{IsLawfulTree}
use Rattle.udfs_walk.specs.Sound.{IsSoundTree}
use Rattle.udfs_walk.specs.Trees.{PartitionBlocks}
use Rattle.udfs_walk.proofs.TreePublicLaws.{sound_is_lawful}
use Rattle.udfs_salvage.specs.Found.{Found}
use Rattle.udfs_salvage.specs.Laws.{IsLawfulVolumeBy}
use Rattle.udfs_salvage.specs.VolumeTrees.{AllIsWhole, LawfulIsWholeBy, Opened, IsOpenedBy, IsLawfulBy, found_of}
use Rattle.udfs_salvage.proofs.Founds.{found_same}
use Rattle.udfs_salvage.proofs.Opens.{FoundBy, found_by}

-- the standard opens the layout, the places and the root that are found, the blocks are those of the complete view,
-- and it opens nothing else
pub record ReadAs (P : Profile) (V : Volume) (N : ℕ) (f : Found) : Type 0 where
  pub opened : Opened
  pub is_opened : IsOpenedBy P V N opened
  pub is_found : found_of V opened ≡ f
  pub is_whole : IsComplete (view (complete V N) f.space) opened.blocks
  pub only : (other : Opened) → IsOpenedBy P V N other → other ≡ opened

pub open_as : (P : Profile) (V : Volume) (N : ℕ) (lawful : IsLawfulVolumeBy P V N) → ReadAs P V N lawful.found_is
open_as P V N lawful = record {
  opened = opened;
  is_opened = record { anchor = std.0; is_anchor = std.1; layout_is = std.2 ∙ by.layout_is; reads = there.reads; rules = sym (ap (λ s. s.profile) there.space_is); root_is = set.reads };
  is_found = λ i. record { layout = f.layout; space = there.space_is i; root = f.root };
  is_whole = is_whole;
  only = only;
}
  where
    C : Blocks
    C = complete V N

    f : Found
    f = lawful.found_is

    by : FoundBy P C N f
    by = found_by P C N f lawful.finds

    std : (n : ℕ) × (standard_anchor V N ≡ Some n) × (standard_layout_by P V N n ≡ layout_by P C N)
    std = layout_of_standard_by P V N lawful.volume_is lawful.layout

    there : HasStandardBlocks V N f.layout f.space
    there = blocks_of_standard_by P V N f.layout f.space lawful.volume_is by.layout_is lawful.sparing by.space_is

    blocks : PartitionBlocks
    blocks = record { at = blocks_by V f.space; profile = f.space.profile }

    opened : Opened
    opened = record { layout = f.layout; blocks = blocks; root = f.root }

    is_whole : IsComplete (view C f.space) blocks
    is_whole = record {
      nowhere = λ r b p. ap (option_map V) p;
      there = λ r b n p. let inside : n ≤ N = there.inside r b n p in
          (V n, (complete_knows V N n (V n)).1 (inside, refl), ap (option_map V) p, (lawful.volume_is.each n inside).whole);
      profile = refl;
    }

    set : IsReadFileSet blocks f.layout.file_set f.root
    set = file_set_is_read (view C f.space) blocks is_whole f.layout.file_set f.root by.root_is

    only : (other : Opened) → IsOpenedBy P V N other → other ≡ opened
    only other o = λ i. record { layout = layout i; blocks = same i; root = root i }
      where
        some_same : (x y : ℕ) → Some x ≡ Some y → x ≡ y
        some_same x y e = cc

        layout : other.layout ≡ f.layout
        layout = found_same other.layout f.layout (sym o.layout_is ∙ ap (standard_layout_by P V N) (some_same o.anchor std.0 (sym o.is_anchor ∙ std.1)) ∙ std.2 ∙ by.layout_is)

        rules_same : other.blocks.profile ≡ f.space.profile
        rules_same = o.rules ∙ ap (λ l. l.profile) layout ∙ ap (λ s. s.profile) there.space_is

        same : other.blocks ≡ blocks
        same = λ i. record { at = there.only other.blocks.at (subst (λ z. AreBlocksOf V (standard_space V z) other.blocks.at) layout o.reads) i; profile = rules_same i }

        set_is : IsFileSetAt blocks f.layout.file_set other.root
        set_is = subst (λ z. IsFileSetAt blocks z.file_set other.root) layout (subst (λ z. IsFileSetAt z other.layout.file_set other.root) same o.root_is)

        root : other.root ≡ f.root
        root = set.only other.root set_is

pub read_as : (P : Profile) (V : Volume) (N : ℕ) (l : IsLawfulBy P V N) → ReadAs P V N l.is_volume.found_is
read_as P V N l = open_as P V N l.is_volume

-- ---- the tree of what is opened
-- a place is in a partition that there is
within : (xs : List Span) (r b n : ℕ) → place_by (slice_get xs r) b ≡ Some n → r < length xs
within [] r b n e = absurd (let z : ⊥ = cc in z)
within (x ∷ xs) zero b n e = omega arith
within (x ∷ xs) (suc r) b n e = let h : r < length xs = within xs r b n e in omega (arith, h)

pub has_partitions : (M : Blocks) (s : Space) → HasPartitions (view M s)
unfolding place
has_partitions M s r b n e = within s.spans r b n e

-- the tree is sound exactly if all that is found with all known is whole
trees_are_one : (P : Profile) (V : Volume) (N : ℕ) (lawful : IsLawfulVolumeBy P V N) → IsSoundTree (open_as P V N lawful).opened.blocks (open_as P V N lawful).opened.root ↔ IsLawfulTree (view (complete V N) lawful.found_is.space) lawful.found_is.root
trees_are_one P V N lawful = subst (λ root. IsSoundTree r.opened.blocks root ↔ IsLawfulTree (view (complete V N) f.space) f.root) (sym (ap (λ z. z.root) r.is_found))
    (sound_is_lawful (view (complete V N) f.space) r.opened.blocks r.is_whole (has_partitions (complete V N) f.space) f.root)
  where
    f : Found
    f = lawful.found_is

    r : ReadAs P V N f
    r = open_as P V N lawful

pub lawful_tree : (P : Profile) (V : Volume) (N : ℕ) (l : IsLawfulBy P V N) → IsLawfulTree (view (complete V N) l.is_volume.found_is.space) l.is_volume.found_is.root
lawful_tree P V N l = (trees_are_one P V N l.is_volume).0 (subst (λ o. IsSoundTree o.blocks o.root) ((open_as P V N l.is_volume).only l.opened l.is_opened) l.tree)

pub lawful_by : (P : Profile) (V : Volume) (N : ℕ) → AllIsWhole P V N → IsLawfulBy P V N
lawful_by P V N w = record { is_volume = w.is_volume; opened = r.opened; is_opened = r.is_opened; tree = (trees_are_one P V N w.is_volume).1 w.tree }
  where
    r : ReadAs P V N w.is_volume.found_is
    r = open_as P V N w.is_volume

pub lawful_is_whole : (P : Profile) → LawfulIsWholeBy P
lawful_is_whole P V N = (λ l. record { is_volume = l.is_volume; tree = lawful_tree P V N l }, lawful_by P V N)
