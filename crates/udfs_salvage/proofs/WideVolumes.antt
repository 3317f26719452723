-- A volume that is lawful by the strict rules is lawful by the wide ones, and has the same files.
use Rattle.std.proofs.Common.{◌≡◌, refl, sym, ◌∙◌, ap, subst, ℕ, List, map}
use Rattle.std.specs.Prelude.{Contains}
use Rattle.udfs_volume.specs.declared.profiles.Profile.{Profile}
use Rattle.udfs_volume.specs.declared.profiles.Profile.TheVariants.{Strict, Wide}
use Rattle.udfs_lattice.specs.Volumes.{Blocks, IsVolume, Volume, complete}
use Rattle.udfs_lattice.proofs.PublicLaws.{complete_agrees}
use Rattle.udfs_tag.specs.declared.layouts.LongAd.{LongAd}
use Rattle.udfs_volume.specs.Answers.{found, and_then}
use Rattle.udfs_volume.specs.Layout.{Layout, Partition, layout_by}
use Rattle.udfs_volume.specs.Sequence.{extents_of}
use Rattle.udfs_volume.specs.Standard.{main_sequence, standard_layout_by}
use Rattle.udfs_space.specs.Places.{place, view}
use Rattle.udfs_space.specs.Laws.{SparingAgrees}
use Rattle.udfs_space.specs.Sparing.{Space, Spans, counted, space, spans}
use Rattle.udfs_space.proofs.PublicLaws.{any_copies}
use Rattle.udfs_file.specs.Addresses.{file_set}
use Rattle.udfs_file.specs.Complete.{IsComplete}
use Rattle.udfs_file.specs.Laws.{by_profile}
use Rattle.udfs_walk.specs.Lawful.{IsLawfulTree}
use Rattle.udfs_walk.specs.Sound.{IsSoundTree}
use Rattle.udfs_walk.specs.Trees.{TreeFile, InTree}
use Rattle.udfs_salvage.specs.Found.{Found, placed, rooted, volume_by}
use Rattle.udfs_salvage.specs.Laws.{IsLawfulVolumeBy}
use Rattle.udfs_salvage.specs.VolumeTrees.{Opened, IsOpenedBy, IsInVolumeBy, IsLawfulBy}
use Rattle.udfs_salvage.specs.WideVolumes.{WideTakesStrict}
use Rattle.udfs_salvage.proofs.Founds.{and_then-found, found_same}
use Rattle.udfs_salvage.proofs.Openings.{ReadAs, has_partitions, lawful_by, lawful_tree, open_as, read_as}
use Rattle.udfs_salvage.proofs.Opens.{FoundBy, found_by}
use Rattle.udfs_salvage.proofs.WideLayouts.{layout_kept, sequence_kept, read_wide}
use Rattle.udfs_salvage.proofs.WideTrees.{in_tree_back, in_tree_kept, lawful_tree_kept, read_with}

-- ---- the places
abbrev pub wide_space : Space → Space
wide_space s = record { spans = s.spans; profile = Wide }

-- the copies of a sparing table that count by the wide rules say what all of them say together
space_kept : (V : Volume) (N : ℕ) (l : Layout) (s : Space) → IsVolume V N → layout_by Strict (complete V N) N ≡ found l → ((p : Partition) → Contains l.partitions p → SparingAgrees V p.kind)
    → space (complete V N) l ≡ found s → (space (complete V N) (read_wide l) ≡ found (wide_space s)) × (s.profile ≡ l.profile)
unfolding space
space_kept V N l s hv h tables e = let T : Blocks = complete V N in
    let q : (ss : Spans) × (spans T l.last (map (counted l.profile T) l.partitions) ≡ found ss) × (found (record { spans = ss; profile = l.profile }) ≡ found s) =
    and_then-found (spans T l.last (map (counted l.profile T) l.partitions)) (λ ss. found (record { spans = ss; profile = l.profile })) s e in
    let is : record { spans = q.0; profile = l.profile } ≡ s = found_same (record { spans = q.0; profile = l.profile }) s q.2 in
    let all : (rules : Profile) → spans T l.last (map (counted rules T) l.partitions) ≡ spans T l.last l.partitions = any_copies Strict T V N l hv h tables (complete_agrees V N) in
    (ap (λ x. and_then x (λ ss. found (record { spans = ss; profile = Wide }))) (all Wide ∙ sym (all l.profile) ∙ q.1) ∙ ap (λ x. found (wide_space x)) is, sym (ap (λ x. x.profile) is))

-- the view differs in nothing but the rules
view_widened : (T : Blocks) (s : Space) → view T (wide_space s) ≡ by_profile Wide (view T s)
unfolding place
view_widened T s = refl

view_strict : (T : Blocks) (s : Space) → s.profile ≡ Strict → view T s ≡ by_profile Strict (view T s)
view_strict T s e = λ i. record { partitions = (view T s).partitions; place = place s; blocks = T; profile = e i }

root_kept : (T : Blocks) (s : Space) (a : LongAd) → file_set (view T (wide_space s)) a ≡ file_set (view T s) a
unfolding place file_set
root_kept T s a = refl

-- ---- the volume
abbrev wide_found : Found → Found
wide_found f = record { layout = read_wide f.layout; space = wide_space f.space; root = f.root }

-- what the strict rules find in a lawful volume, the wide ones find, by their rules
pub record IsFoundKept (V : Volume) (N : ℕ) (f : Found) : Type 0 where
  pub layout_is : layout_by Wide (complete V N) N ≡ found (read_wide f.layout)
  pub space_is : space (complete V N) (read_wide f.layout) ≡ found (wide_space f.space)
  pub finds : volume_by Wide (complete V N) N ≡ found (wide_found f)
  pub strict : f.space.profile ≡ Strict

pub found_kept : (V : Volume) (N : ℕ) (f : Found) → IsVolume V N → ((p : Partition) → Contains f.layout.partitions p → SparingAgrees V p.kind)
    → volume_by Strict (complete V N) N ≡ found f → IsFoundKept V N f
unfolding volume_by
found_kept V N f hv tables e = record {
  layout_is = l.0;
  space_is = s.0;
  finds = ap (λ x. and_then x (placed C)) l.0 ∙ ap (λ x. and_then x (rooted C (read_wide f.layout))) s.0
      ∙ ap (λ x. and_then x (λ root. found (record { layout = read_wide f.layout; space = wide_space f.space; root = root }))) (root_kept C f.space f.layout.file_set ∙ by.root_is);
  strict = s.1 ∙ l.1;
}
  where
    C : Blocks
    C = complete V N

    by : FoundBy Strict C N f
    by = found_by Strict C N f e

    l : (layout_by Wide C N ≡ found (read_wide f.layout)) × (f.layout.profile ≡ Strict)
    l = layout_kept C N f.layout by.layout_is

    s : (space C (read_wide f.layout) ≡ found (wide_space f.space)) × (f.space.profile ≡ f.layout.profile)
    s = space_kept V N f.layout f.space hv by.layout_is tables by.space_is

unfoldable pub volume_kept : (V : Volume) (N : ℕ) (lawful : IsLawfulVolumeBy Strict V N) → IsFoundKept V N lawful.found_is → IsLawfulVolumeBy Wide V N
volume_kept V N lawful k = record {
  volume_is = lawful.volume_is;
  found_is = wide_found lawful.found_is;
  finds = k.finds;
  layout = record {
    anchored = lawful.layout.anchored;
    anchors = lawful.layout.anchors;
    copies = lawful.layout.copies;
    laid_out = (read_wide lawful.found_is.layout, k.layout_is);
  };
  sparing = record { tables = lawful.sparing.tables; placed = (wide_space lawful.found_is.space, k.space_is) };
}

-- ---- what the standard opens
abbrev wide_opened : Opened → Opened
wide_opened o = record { layout = read_wide o.layout; blocks = read_with Wide o.blocks.at; root = o.root }

opened_kept : (V : Volume) (N : ℕ) (o : Opened) → IsOpenedBy Strict V N o
    → IsOpenedBy Wide V N (wide_opened o) × (o.blocks.profile ≡ Strict)
opened_kept V N o h = (
  record {
    anchor = h.anchor;
    is_anchor = h.is_anchor;
    layout_is = k.0;
    reads = record { block = h.reads.block; no_block = h.reads.no_block };
    rules = refl;
    root_is = record { recorded = h.root_is.recorded; not_empty = h.root_is.not_empty; bytes = h.root_is.bytes; block = h.root_is.block; valid = h.root_is.valid; is = h.root_is.is };
  },
  h.rules ∙ k.1,
)
  where
    k : (standard_layout_by Wide V N h.anchor ≡ found (read_wide o.layout)) × (o.layout.profile ≡ Strict)
    k = sequence_kept N (main_sequence V (extents_of (V h.anchor))) o.layout h.layout_is

pub wide_takes_strict : WideTakesStrict
unfolding volume_kept
wide_takes_strict V N l = record { lawful = wide; files = λ path file. (into path file, back path file) }
  where
    C : Blocks
    C = complete V N

    f : Found
    f = l.is_volume.found_is

    k : IsFoundKept V N f
    k = found_kept V N f l.is_volume.volume_is l.is_volume.sparing.tables l.is_volume.finds

    tree : IsLawfulTree (view C (wide_space f.space)) f.root
    tree = subst (λ v. IsLawfulTree v f.root) (sym (view_widened C f.space))
        (lawful_tree_kept (view C f.space) f.root (subst (λ v. IsLawfulTree v f.root) (view_strict C f.space k.strict) (lawful_tree Strict V N l)))

    wide : IsLawfulBy Wide V N
    wide = lawful_by Wide V N (record { is_volume = volume_kept V N l.is_volume k; tree = tree })

    -- what the strict rules open, and the same by the wide ones
    o : Opened
    o = l.opened

    wide_is : IsOpenedBy Wide V N (wide_opened o) × (o.blocks.profile ≡ Strict)
    wide_is = opened_kept V N o l.is_opened

    strictly : o.blocks ≡ read_with Strict o.blocks.at
    strictly = λ i. record { at = o.blocks.at; profile = wide_is.1 i }

    r : ReadAs Strict V N f
    r = open_as Strict V N l.is_volume

    w : ReadAs Wide V N wide.is_volume.found_is
    w = read_as Wide V N wide

    all : IsComplete (by_profile Strict (view C f.space)) (read_with Strict o.blocks.at)
    all = subst (λ v. IsComplete v (read_with Strict o.blocks.at)) (view_strict C f.space k.strict)
        (subst (IsComplete (view C f.space)) (ap (λ z. z.blocks) (sym (r.only o l.is_opened)) ∙ strictly) r.is_whole)

    into : (path : List (List ℕ)) (file : TreeFile) → IsInVolumeBy Strict V N path file → IsInVolumeBy Wide V N path file
    into path file (other, is, there) = (
      wide_opened o,
      wide_is.0,
      in_tree_kept (view C f.space) o.blocks.at all (has_partitions C f.space) o.root path file
          (subst (λ bs. InTree bs o.root path file) strictly (subst (λ z. InTree z.blocks z.root path file) (r.only other is ∙ sym (r.only o l.is_opened)) there)),
    )

    back : (path : List (List ℕ)) (file : TreeFile) → IsInVolumeBy Wide V N path file → IsInVolumeBy Strict V N path file
    back path file (other, is, there) = (
      o,
      l.is_opened,
      subst (λ bs. InTree bs o.root path file) (sym strictly)
          (in_tree_back (view C f.space) o.blocks.at all (has_partitions C f.space) o.root (subst (λ bs. IsSoundTree bs o.root) strictly l.tree) path file
          (subst (λ z. InTree z.blocks z.root path file) (w.only other is ∙ sym (w.only (wide_opened o) wide_is.0)) there)),
    )
