-- Over a table that agrees with a lawful volume, what is found is the volume's, or a group of blocks is unread.
use Rattle.std.proofs.Common.{◌≡◌, refl, sym, ◌∙◌, ap, subst, inl, inr, ◌⊎◌, ℕ, false, List, [], ◌∷◌, Some}
use Rattle.std.specs.Prelude.{Contains}
use Rattle.udfs_volume.specs.declared.profiles.Profile.{Profile}
use Rattle.udfs_lattice.specs.States.{is_known}
use Rattle.udfs_lattice.specs.Volumes.{Blocks, Volume, complete, IsKnownAt, IsUnread}
use Rattle.udfs_lattice.proofs.Inclusion.{here, here_or_there, in_nothing}
use Rattle.udfs_tag.specs.declared.layouts.LongAd.{LongAd}
use Rattle.udfs_volume.specs.Answers.{Answer, found, holes, faulty, and_then}
use Rattle.udfs_volume.specs.declared.faults.VolumeFault.{VolumeFault}
use Rattle.udfs_volume.specs.Sequence.{anchor_places}
use Rattle.udfs_volume.specs.Layout.{Layout, layout_by}
use Rattle.udfs_volume.specs.Laws.{valid_anchors, IsSequenceGroup, ListsGroup, IsAnswerOf, the_same}
use Rattle.udfs_volume.specs.Laws.IsAnswerOf.{unread as unread_answer}
use Rattle.udfs_volume.proofs.PublicLaws.{layout_of_lawful_by}
use Rattle.udfs_space.specs.Sparing.{space}
use Rattle.udfs_space.specs.Places.{place, view}
use Rattle.udfs_space.specs.Laws.{IsSparingGroup}
use Rattle.udfs_space.proofs.PublicLaws.{places_are_blocks_by, space_of_lawful_by}
use Rattle.udfs_file.specs.Laws.{IsPartialFileSet, known, unread}
use Rattle.udfs_file.proofs.PublicLaws.{partial_file_set}
use Rattle.udfs_salvage.specs.Found.{Found, placed, rooted, volume_by}
use Rattle.udfs_salvage.specs.Laws.{IsFoundOf, IsVolumeGroup, TellsLawfulBy, VolumeLaw}
use Rattle.udfs_salvage.proofs.Founds.{found_same, known_at}
use Rattle.udfs_salvage.proofs.Opens.{FoundBy, found_by}

abbrev IsHere : Blocks → List ℕ → Type 0
IsHere M group = (n : ℕ) × Contains group n × IsKnownAt M n

-- what holds of some groups holds of more
more_groups : (M : Blocks) (av ps : List ℕ) (G H : List ℕ → Type 0) (listed : List ℕ) → ((g : List ℕ) → G g → H g) → ListsGroup M av ps G listed → ListsGroup M av ps H listed
more_groups M av ps G H listed f x = record { group = x.group; is_group = f x.group x.is_group; unread = x.unread; holds = x.holds; not_known = x.not_known; each = λ n i. go n (x.each n i) }
  where
    go : (n : ℕ) → ((g : List ℕ) × G g × IsUnread M g × Contains g n) ⊎ (Contains ps n × IsUnread M av) → ((g : List ℕ) × H g × IsUnread M g × Contains g n) ⊎ (Contains ps n × IsUnread M av)
    go n (inl w) = inl (w.0, f w.0 w.1, w.2, w.3)
    go n (inr w) = inr w

no_places : (M : Blocks) (av ps : List ℕ) (G : List ℕ → Type 0) (listed : List ℕ) → ListsGroup M [] [] G listed → ListsGroup M av ps G listed
no_places M av ps G listed x = record { group = x.group; is_group = x.is_group; unread = x.unread; holds = x.holds; not_known = x.not_known; each = λ n i. go n (x.each n i) }
  where
    go : (n : ℕ) → ((g : List ℕ) × G g × IsUnread M g × Contains g n) ⊎ (Contains [] n × IsUnread M []) → ((g : List ℕ) × G g × IsUnread M g × Contains g n) ⊎ (Contains ps n × IsUnread M av)
    go n (inl w) = inl w
    go n (inr w) = in_nothing n w.0

pub volume_law : (P : Profile) → VolumeLaw P
unfolding volume_by
volume_law P M V N lawful a = by_layout (layout_of_lawful_by P M V N lawful.volume_is lawful.layout a)
  where
    C : Blocks
    C = complete V N

    f : Found
    f = lawful.found_is

    by : FoundBy P C N f
    by = found_by P C N f lawful.finds

    l : Layout
    l = f.layout

    -- what the file set says of which a part is known
    set : (n : ℕ) × (place f.space l.file_set.reference l.file_set.block ≡ Some n) × IsPartialFileSet (view M f.space) n l.file_set f.root
    set = partial_file_set (view M f.space) (view C f.space) (places_are_blocks_by P M V N l f.space lawful.volume_is by.layout_is by.space_is a) l.file_set f.root by.root_is

    n : ℕ
    n = set.0

    G : List ℕ → Type 0
    G = IsVolumeGroup V N f

    Result : Type 0
    Result = IsAnswerOf M (valid_anchors V N) (anchor_places N) G (volume_by P M N) (volume_by P C N)

    from_layout : layout_by P M N ≡ layout_by P C N → volume_by P M N ≡ placed M l
    from_layout q = ap (λ x. and_then x (placed M)) (q ∙ by.layout_is)

    from_space : layout_by P M N ≡ layout_by P C N → space M l ≡ space C l → volume_by P M N ≡ rooted M l f.space
    from_space q r = from_layout q ∙ ap (λ x. and_then x (rooted M l)) (r ∙ by.space_is)

    with_root : Answer LongAd → Answer Found
    with_root x = and_then x (λ root. found (record { layout = l; space = f.space; root = root }))

    single : (g : List ℕ) → (m : ℕ) × (place f.space l.file_set.reference l.file_set.block ≡ Some m) × (g ≡ m ∷ []) → IsKnownAt M n → IsHere M g
    single g (m, p, q) k = subst (IsHere M) (sym q) (m, here m [], subst (IsKnownAt M) (some_same n m (sym set.1 ∙ p)) k)
      where
        some_same : (x y : ℕ) → Some x ≡ Some y → x ≡ y
        some_same x y e = cc

    groups : ((g : List ℕ) → IsSequenceGroup V N g → IsHere M g) → ((g : List ℕ) → IsSparingGroup l.partitions g → IsHere M g) → IsKnownAt M n → (g : List ℕ) → G g → IsHere M g
    groups hl hs k g (inl x) = hl g x
    groups hl hs k g (inr (inl x)) = hs g x
    groups hl hs k g (inr (inr x)) = single g x k

    unread_root : is_known (M n) ≡ false → volume_by P M N ≡ holes (n ∷ []) → Result
    unread_root u e = unread_answer (n ∷ []) e (record {
      group = n ∷ [];
      is_group = is_root;
      unread = none;
      holds = λ m i. i;
      not_known = none;
      each = λ m i. inl (n ∷ [], is_root, none, i);
    })
      where
        is_root : G (n ∷ [])
        is_root = inr (inr (n, set.1, refl))

        none : IsUnread M (n ∷ [])
        none m i = either (here_or_there n [] m i)
          where
            either : (n ≡ m) ⊎ Contains [] m → is_known (M m) ≡ false
            either (inl p) = subst (λ x. is_known (M x) ≡ false) p u
            either (inr x) = in_nothing m x

    by_root : layout_by P M N ≡ layout_by P C N → space M l ≡ space C l → ((g : List ℕ) → IsSequenceGroup V N g → IsHere M g) → ((g : List ℕ) → IsSparingGroup l.partitions g → IsHere M g)
        → IsPartialFileSet (view M f.space) n l.file_set f.root → Result
    by_root q r hl hs (known e k) = the_same (from_space q r ∙ ap with_root e ∙ sym lawful.finds) (groups hl hs (known_at M n k))
    by_root q r hl hs (unread e u) = unread_root u (from_space q r ∙ ap with_root e)

    by_space : layout_by P M N ≡ layout_by P C N → ((g : List ℕ) → IsSequenceGroup V N g → IsHere M g) → IsAnswerOf M [] [] (IsSparingGroup l.partitions) (space M l) (space C l) → Result
    by_space q hl (the_same r hs) = by_root q r hl hs set.2
    by_space q hl (unread_answer listed r x) = unread_answer listed (from_layout q ∙ ap (λ y. and_then y (rooted M l)) r)
        (no_places M (valid_anchors V N) (anchor_places N) G listed (more_groups M [] [] (IsSparingGroup l.partitions) G listed (λ g h. inr (inl h)) x))

    by_layout : IsAnswerOf M (valid_anchors V N) (anchor_places N) (IsSequenceGroup V N) (layout_by P M N) (layout_by P C N) → Result
    by_layout (the_same q hl) = by_space q hl (space_of_lawful_by P M V N l lawful.volume_is by.layout_is lawful.sparing a)
    by_layout (unread_answer listed q x) = unread_answer listed (ap (λ y. and_then y (placed M)) q)
        (more_groups M (valid_anchors V N) (anchor_places N) (IsSequenceGroup V N) G listed (λ g h. inl h) x)

-- ---- what is told

found_of : (P : Profile) (M : Blocks) (V : Volume) (N : ℕ) (all got : Found) → volume_by P M N ≡ found got → volume_by P (complete V N) N ≡ found all
    → IsAnswerOf M (valid_anchors V N) (anchor_places N) (IsVolumeGroup V N all) (volume_by P M N) (volume_by P (complete V N) N) → IsFoundOf V M N all got
found_of P M V N all got e f (the_same q k) = record { same = found_same got all (sym e ∙ q ∙ f); known = k }
found_of P M V N all got e f (unread_answer listed q x) = absurd (let no : ⊥ = cc in no)

holes_of : (P : Profile) (M : Blocks) (V : Volume) (N : ℕ) (all : Found) (ns : List ℕ) → volume_by P M N ≡ holes ns → volume_by P (complete V N) N ≡ found all
    → IsAnswerOf M (valid_anchors V N) (anchor_places N) (IsVolumeGroup V N all) (volume_by P M N) (volume_by P (complete V N) N)
    → ListsGroup M (valid_anchors V N) (anchor_places N) (IsVolumeGroup V N all) ns
holes_of P M V N all ns e f (the_same q k) = absurd (let no : ⊥ = cc in no)
holes_of P M V N all ns e f (unread_answer listed q x) = let same : listed ≡ ns = cc in subst (ListsGroup M (valid_anchors V N) (anchor_places N) (IsVolumeGroup V N all)) same x

no_fault_of : (P : Profile) (M : Blocks) (V : Volume) (N : ℕ) (all : Found) (fault : VolumeFault) → volume_by P M N ≡ faulty fault → volume_by P (complete V N) N ≡ found all
    → IsAnswerOf M (valid_anchors V N) (anchor_places N) (IsVolumeGroup V N all) (volume_by P M N) (volume_by P (complete V N) N) → ⊥
no_fault_of P M V N all fault e f (the_same q k) = cc
no_fault_of P M V N all fault e f (unread_answer listed q x) = cc

pub tells_lawful : (P : Profile) (M : Blocks) (N : ℕ) (told : Answer Found) → told ≡ volume_by P M N → TellsLawfulBy P M N told
tells_lawful P M N (found got) e V lw a = found_of P M V N lw.found_is got (sym e) lw.finds (volume_law P M V N lw a)
tells_lawful P M N (holes listed) e V lw a = holes_of P M V N lw.found_is listed (sym e) lw.finds (volume_law P M V N lw a)
tells_lawful P M N (faulty fault) e V lw a = no_fault_of P M V N lw.found_is fault (sym e) lw.finds (volume_law P M V N lw a)
