-- No lawful volume agrees with a table that knows two copies of a sparing table which do not say the same.
use Rattle.std.proofs.Common.{◌≡◌, refl, sym, ◌∙◌, ap, subst, ℕ, true}
use Rattle.std.specs.Prelude.{Contains}
use Rattle.udfs_lattice.specs.Volumes.{Agrees, Blocks, IsVolume, Volume, complete}
use Rattle.udfs_tag.specs.declared.layouts.LongAd.{LongAd}
use Rattle.udfs_volume.specs.declared.profiles.Profile.{Profile}
use Rattle.udfs_volume.specs.Answers.{Answer, found, holes, faulty, and_then}
use Rattle.udfs_volume.specs.Laws.{IsAnswerOf, IsBoundedMap, IsSequenceGroup, the_same, valid_anchors}
use Rattle.udfs_volume.specs.Laws.IsAnswerOf.{unread as unread_answer}
use Rattle.udfs_volume.specs.Layout.{Layout, PartitionMap, layout_by, sparable, type1}
use Rattle.udfs_volume.specs.Sequence.{anchor_places}
use Rattle.udfs_volume.proofs.PublicLaws.{layout_is_bounded_by, layout_of_lawful_by}
use Rattle.udfs_space.specs.Laws.{SparingAgrees}
use Rattle.udfs_space.specs.Places.{view}
use Rattle.udfs_space.specs.Sparing.{Space, space}
use Rattle.udfs_file.specs.Addresses.{file_set}
use Rattle.udfs_salvage.specs.Found.{Found, placed, rooted, volume_by}
use Rattle.udfs_salvage.specs.TreeReports.{AgreesWithNoneBy}
use Rattle.udfs_overview.specs.Spares.{map_disagrees, partition_disagrees, spares_disagree}
use Rattle.udfs_overview.proofs.SpareCopies.{any_found, no_difference}

-- ---- a volume that is found has the layout that was found
abbrev layout_in : Answer Found → Layout → Layout
layout_in (found f) l = f.layout
layout_in (holes listed) l = l
layout_in (faulty fault) l = l

of_root : (l : Layout) (s : Space) (x : Answer LongAd) → layout_in (and_then x (λ root. found (record { layout = l; space = s; root = root }))) l ≡ l
of_root l s (found root) = refl
of_root l s (holes listed) = refl
of_root l s (faulty fault) = refl

of_space : (M : Blocks) (l : Layout) (x : Answer Space) → layout_in (and_then x (rooted M l)) l ≡ l
of_space M l (found s) = of_root l s (file_set (view M s) l.file_set)
of_space M l (holes listed) = refl
of_space M l (faulty fault) = refl

layout_of : (M : Blocks) (f : Found) (x : Answer Layout) → and_then x (placed M) ≡ found f → x ≡ found f.layout
layout_of M f (found l) e = ap found (sym (of_space M l (space M l)) ∙ ap (λ y. layout_in y l) e)
layout_of M f (holes listed) e = absurd (let z : ⊥ = cc in z)
layout_of M f (faulty fault) e = absurd (let z : ⊥ = cc in z)

-- a table that agrees with a lawful volume finds its layout, if any
same_layout : (M : Blocks) (V : Volume) (N : ℕ) (l m : Layout) (x y : Answer Layout) → x ≡ found l → y ≡ found m
    → IsAnswerOf M (valid_anchors V N) (anchor_places N) (IsSequenceGroup V N) x y → l ≡ m
same_layout M V N l m x y e h (the_same q known) = let q : found l ≡ found m = sym e ∙ q ∙ h in ap (λ a. the_layout a) q
  where
    the_layout : Answer Layout → Layout
    the_layout (found k) = k
    the_layout (holes listed) = l
    the_layout (faulty fault) = l
same_layout M V N l m x y e h (unread_answer listed q lists) = absurd (let z : ⊥ = cc in z)

of_map : (M : Blocks) (V : Volume) (N : ℕ) (m : PartitionMap) → IsVolume V N → Agrees M V N → IsBoundedMap N m → SparingAgrees V m → map_disagrees M m ≡ true → ⊥
of_map M V N type1 vol agrees bounded same e = let z : ⊥ = cc in z
of_map M V N (sparable packet size tables) vol agrees bounded same e = no_difference M V N packet size tables vol agrees bounded same e

of_found : (P : Profile) (M : Blocks) (N : ℕ) (f : Found) → volume_by P M N ≡ found f → spares_disagree M (found f) ≡ true → AgreesWithNoneBy P M N
unfolding volume_by spares_disagree
of_found P M N f e d V lawful agrees =
    let of_volume = lawful.is_volume in
    let l = f.layout in
    let here : layout_by P M N ≡ found l = layout_of M f (layout_by P M N) e in
    let there : layout_by P (complete V N) N ≡ found of_volume.found_is.layout = layout_of (complete V N) of_volume.found_is (layout_by P (complete V N) N) of_volume.finds in
    let same : l ≡ of_volume.found_is.layout =
    same_layout M V N l of_volume.found_is.layout (layout_by P M N) (layout_by P (complete V N) N) here there (layout_of_lawful_by P M V N of_volume.volume_is of_volume.layout agrees) in
    let w = any_found (partition_disagrees M) l.partitions d in
    let bounded = (layout_is_bounded_by P M N l here).of_each w.0 w.1 in
    let alike = of_volume.sparing.tables w.0 (subst (λ (k : Layout). Contains k.partitions w.0) same w.1) in
    of_map M V N (w.0).kind of_volume.volume_is agrees bounded.bounded_map alike w.2

pub none_lawful : (P : Profile) (M : Blocks) (N : ℕ) (answer : Answer Found) → answer ≡ volume_by P M N → spares_disagree M answer ≡ true → AgreesWithNoneBy P M N
unfolding spares_disagree
none_lawful P M N (found f) e d = of_found P M N f (sym e) d
none_lawful P M N (holes listed) e d = absurd (let z : ⊥ = cc in z)
none_lawful P M N (faulty fault) e d = absurd (let z : ⊥ = cc in z)
