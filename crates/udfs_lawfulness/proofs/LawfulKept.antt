-- Each volume that agrees is lawful, where its structures are and what is known of its tree decides it.
use Rattle.std.proofs.Common.{◌≡◌, refl, sym, ◌∙◌, ap, subst, inl, inr, ℕ, ◌+◌, ◌≤◌, Bool, true, false, cond, List, [], ◌∷◌, arith, Option, Some, None}
use Rattle.std.specs.Prelude.{option_map, Contains}
use Rattle.udfs_lattice.specs.States.{State}
use Rattle.udfs_lattice.specs.Volumes.{Agrees, Blocks, IsVolume, Volume, complete}
use Rattle.udfs_lattice.specs.declared.facts.Fact.TheVariants.{Unknown, Known, Conflict}
use Rattle.udfs_lattice.proofs.Inclusion.{contained, included}
use Rattle.udfs_tag.specs.Fields.{long_ad_at}
use Rattle.udfs_tag.specs.Tags.{is_valid}
use Rattle.udfs_tag.specs.declared.layouts.LongAd.{LongAd}
use Rattle.udfs_volume.specs.declared.faults.VolumeFault.TheVariants.{FileSet}
use Rattle.udfs_volume.specs.declared.profiles.Profile.{Profile}
use Rattle.udfs_volume.specs.Answers.{Answer, found, holes, faulty, and_then}
use Rattle.udfs_volume.specs.Layout.{Layout, PartitionMap, layout_by, sparable, type1}
use Rattle.udfs_volume.specs.Laws.{IsAnswerOf, IsBoundedMap, IsSequenceGroup, ListsGroup, the_same, valid_anchors}
use Rattle.udfs_volume.specs.Laws.IsAnswerOf.{unread as unread_answer}
use Rattle.udfs_volume.specs.Sequence.{anchor_places}
use Rattle.udfs_volume.proofs.PublicLaws.{layout_is_bounded_by, layout_of_lawful_by}
use Rattle.udfs_space.specs.Laws.{IsLawfulSparing, IsSparingGroup, IsTableGroup}
use Rattle.udfs_space.specs.Places.{IsPartOf, View, view}
use Rattle.udfs_space.specs.Sparing.{Space, copies, space}
use Rattle.udfs_space.proofs.PublicLaws.{places_are_blocks_by, space_of_lawful_by}
use Rattle.udfs_file.specs.Addresses.{address_fault, file_set, file_set_at, file_set_in}
use Rattle.udfs_file.specs.declared.faults.NodeFault.{NodeFault}
use Rattle.udfs_walk.specs.Routes.{HasMoreRoutes, Route, Walked, walked}
use Rattle.udfs_walk.specs.Lawful.{AreDistinct}
use Rattle.udfs_salvage.specs.Found.{Found, placed, rooted, volume_by}
use Rattle.udfs_salvage.specs.Laws.{IsLawfulVolumeBy}
use Rattle.udfs_salvage.proofs.Founds.{found_same}
use Rattle.udfs_salvage.proofs.Openings.{ReadAs, lawful_by, open_as}
use Rattle.udfs_salvage.proofs.Opens.{FoundBy, found_by}
use Rattle.udfs_lawfulness.specs.Lawfulness.{AreAllLawfulBy}
use Rattle.udfs_lawfulness.specs.Structures.{AreAllLawful, HasLawfulStructures}
use Rattle.udfs_lawfulness.proofs.TreeKept.{DecidedAt, lawful_kept}

-- ---- the file set
-- a root that is known is the same with more known
set_kept : (v w : View) → IsPartOf v w → (a root : LongAd) → file_set v a ≡ found root → file_set w a ≡ found root
unfolding file_set
set_kept v w p a root e = go (address_fault w a) refl (w.place a.reference a.block) refl
  where
    F : View → Option NodeFault → Option ℕ → Answer LongAd
    F u f o = file_set_at a f (option_map (λ n. (n, u.blocks n)) o)

    same : address_fault v a ≡ address_fault w a
    same = λ i. address_fault (record { partitions = p.partitions i; place = λ r b. p.places r b i; blocks = v.blocks; profile = p.profile i }) a

    v_is : (f : Option NodeFault) (o : Option ℕ) → address_fault w a ≡ f → w.place a.reference a.block ≡ o → F v f o ≡ found root
    v_is f o x y = sym (λ i. F v ((same ∙ x) i) ((p.places a.reference a.block ∙ y) i)) ∙ e

    w_is : (f : Option NodeFault) (o : Option ℕ) → address_fault w a ≡ f → w.place a.reference a.block ≡ o → F w (address_fault w a) (w.place a.reference a.block) ≡ F w f o
    w_is f o x y = λ i. F w (x i) (y i)

    state : (n : ℕ) → address_fault w a ≡ None → w.place a.reference a.block ≡ Some n → (s : State) → v.blocks n ≡ s → file_set_in a n (v.blocks n) ≡ found root
        → F w (address_fault w a) (w.place a.reference a.block) ≡ found root
    state n x y Unknown q h = absurd (let z : holes (n ∷ []) ≡ found root = sym (ap (file_set_in a n) q) ∙ h in let no : ⊥ = cc in no)
    state n x y (Known bytes) q h = w_is None (Some n) x y ∙ ap (file_set_in a n) (p.agrees a.reference a.block n bytes y q ∙ sym q) ∙ h
    state n x y Conflict q h = absurd (let z : holes (n ∷ []) ≡ found root = sym (ap (file_set_in a n) q) ∙ h in let no : ⊥ = cc in no)

    go : (f : Option NodeFault) → address_fault w a ≡ f → (o : Option ℕ) → w.place a.reference a.block ≡ o → F w (address_fault w a) (w.place a.reference a.block) ≡ found root
    go (Some f) x o y = w_is (Some f) o x y ∙ v_is (Some f) o x y
    go None x None y = w_is None None x y ∙ v_is None None x y
    go None x (Some n) y = state n x y (v.blocks n) refl (v_is None (Some n) x y)

-- the blocks that a file set is to be read by are some
set_some : (v : View) (a : LongAd) → file_set v a ≡ holes [] → ⊥
unfolding file_set
set_some v a e = go (address_fault v a) (v.place a.reference a.block) e
  where
    go : (f : Option NodeFault) (o : Option ℕ) → file_set_at a f (option_map (λ n. (n, v.blocks n)) o) ≡ holes [] → ⊥
    go (Some f) o q = cc
    go None None q = cc
    go None (Some n) q = state (v.blocks n) q
      where
        state : (s : State) → file_set_in a n s ≡ holes [] → ⊥
        state Unknown r = cc
        state (Known bytes) r = valid (is_valid bytes a.block 256) r
          where
            valid : (b : Bool) → cond b (found (long_ad_at bytes 400)) (faulty FileSet) ≡ holes [] → ⊥
            valid true z = cc
            valid false z = cc
        state Conflict r = cc

-- ---- the layout and the places
-- they are those that are known
record Laid (P : Profile) (T : Blocks) (V : Volume) (N : ℕ) (f : Found) : Type 0 where
  layout : layout_by P (complete V N) N ≡ found f.layout
  sparing : IsLawfulSparing V N f.layout
  placed : space (complete V N) f.layout ≡ found f.space

laid : (P : Profile) (T : Blocks) (V : Volume) (N : ℕ) (f : Found) → IsVolume V N → Agrees T V N → HasLawfulStructures P V N → FoundBy P T N f → Laid P T V N f
laid P T V N f hv a h by = record { layout = whole; sparing = sparing; placed = by_space (space_of_lawful_by P T V N f.layout hv whole sparing a) }
  where
    C : Blocks
    C = complete V N

    by_layout : IsAnswerOf T (valid_anchors V N) (anchor_places N) (IsSequenceGroup V N) (layout_by P T N) (layout_by P C N) → layout_by P C N ≡ found f.layout
    by_layout (the_same q k) = sym q ∙ by.layout_is
    by_layout (unread_answer listed q x) = absurd (let z : found f.layout ≡ holes listed = sym by.layout_is ∙ q in let no : ⊥ = cc in no)

    whole : layout_by P C N ≡ found f.layout
    whole = by_layout (layout_of_lawful_by P T V N hv h.layout a)

    sparing : IsLawfulSparing V N f.layout
    sparing = subst (IsLawfulSparing V N) (found_same h.layout_is f.layout (sym h.finds ∙ whole)) h.sparing

    by_space : IsAnswerOf T [] [] (IsSparingGroup f.layout.partitions) (space T f.layout) (space C f.layout) → space C f.layout ≡ found f.space
    by_space (the_same q k) = sym q ∙ by.space_is
    by_space (unread_answer listed q x) = absurd (let z : found f.space ≡ holes listed = sym by.space_is ∙ q in let no : ⊥ = cc in no)

volume_is : (P : Profile) (C : Blocks) (N : ℕ) (f : Found) → layout_by P C N ≡ found f.layout → space C f.layout ≡ found f.space → file_set (view C f.space) f.layout.file_set ≡ found f.root → volume_by P C N ≡ found f
unfolding volume_by
volume_is P C N f l s r = ap (λ x. and_then x (placed C)) l ∙ ap (λ x. and_then x (rooted C f.layout)) s ∙ ap (λ x. and_then x (λ root. found (record { layout = f.layout; space = f.space; root = root }))) r

-- where its structures are lawful, and what is known of its tree decides it, each volume that agrees is lawful
pub all_lawful_by : (P : Profile) (T : Blocks) (N : ℕ) (f : Found) → AreAllLawful P T N → volume_by P T N ≡ found f
    → ((route : Route) (w : Walked) → walked (view T f.space) f.root route ≡ Some w → DecidedAt (view T f.space) w)
    → AreDistinct (view T f.space) f.root → ¬ HasMoreRoutes (view T f.space) f.root 65536 → AreAllLawfulBy P T N
all_lawful_by P T N f sound opens decided distinct few V hv a = lawful_by P V N (record { is_volume = lawful; tree = lawful_kept (view T f.space) (view C f.space) r.opened.blocks part r.is_whole f.root decided distinct few })
  where
    C : Blocks
    C = complete V N

    h : HasLawfulStructures P V N
    h = sound V hv a

    by : FoundBy P T N f
    by = found_by P T N f opens

    x : Laid P T V N f
    x = laid P T V N f hv a h by

    part : IsPartOf (view T f.space) (view C f.space)
    part = places_are_blocks_by P T V N f.layout f.space hv x.layout x.placed a

    lawful : IsLawfulVolumeBy P V N
    lawful = record { volume_is = hv; found_is = f; finds = volume_is P C N f x.layout x.placed (set_kept (view T f.space) (view C f.space) part f.layout.file_set f.root by.root_is); layout = h.layout; sparing = x.sparing }

    r : ReadAs P V N f
    r = open_as P V N lawful

-- ---- a volume that does not open yet
member : (xs : List ℕ) → (xs ≡ [] → ⊥) → (n : ℕ) × Contains xs n
member [] h = absurd (h refl)
member (x ∷ xs) h = (x, contained (x ∷ xs) x (inl refl))

no_group : (T : Blocks) (av ps : List ℕ) (G : List ℕ → Type 0) (listed : List ℕ) → listed ≡ [] → ((g : List ℕ) → G g → g ≡ [] → ⊥) → ListsGroup T av ps G listed → ⊥
no_group T av ps G listed none some x = let n : (n : ℕ) × Contains x.group n = member x.group (some x.group x.is_group) in included [] n.0 (subst (λ z. Contains z n.0) none (x.holds n.0 n.1))

some_copies : (last k : ℕ) (m : PartitionMap) (g : List ℕ) → IsBoundedMap last m → IsTableGroup m g → g ≡ [] → ⊥
some_copies last k type1 g b t e = t
some_copies last k (sparable packet size []) g b t e = absurd (let l : 1 ≤ 0 = b.one in let z : ⊥ = omega (arith, l) in z)
some_copies last k (sparable packet size (p ∷ ps)) g b t e = absurd (let z : copies (p ∷ ps) t.0 ≡ [] = sym t.2 ∙ e in let no : ⊥ = cc in no)

-- where no block would have to be read, no volume agrees
pub none_to_read : (P : Profile) (T : Blocks) (N : ℕ) → AreAllLawful P T N → volume_by P T N ≡ holes [] → AreAllLawfulBy P T N
unfolding volume_by
none_to_read P T N sound e V hv a = absurd (by_layout (layout_of_lawful_by P T V N hv h.layout a))
  where
    C : Blocks
    C = complete V N

    h : HasLawfulStructures P V N
    h = sound V hv a

    l : Layout
    l = h.layout_is

    nothing : (listed : List ℕ) → ◌≡◌ {A = Answer Found} (holes listed) (holes []) → listed ≡ []
    nothing listed q = cc

    some_sequence : (g : List ℕ) → IsSequenceGroup V N g → g ≡ [] → ⊥
    some_sequence g (inl q) z = h.layout.anchored (sym q ∙ z)
    some_sequence g (inr q) z = absurd (let y : (q.extents.main.block + q.place) ∷ (q.extents.reserve.block + q.place) ∷ [] ≡ [] = sym q.is ∙ z in let no : ⊥ = cc in no)

    some_table : (g : List ℕ) → IsSparingGroup l.partitions g → g ≡ [] → ⊥
    some_table g (p, c, t) z = some_copies N 0 p.kind g ((layout_is_bounded_by P C N l h.finds).of_each p c).bounded_map t z

    rooted_at : Space → LongAd → Answer Found
    rooted_at s root = found (record { layout = l; space = s; root = root })

    by_root : (s : Space) → (x : Answer LongAd) → file_set (view T s) l.file_set ≡ x → and_then x (rooted_at s) ≡ holes [] → ⊥
    by_root s (found root) q z = cc
    by_root s (holes ns) q z = set_some (view T s) l.file_set (q ∙ ap holes (nothing ns z))
    by_root s (faulty f) q z = cc

    by_space : layout_by P T N ≡ found l → IsAnswerOf T [] [] (IsSparingGroup l.partitions) (space T l) (space C l) → ⊥
    by_space q (the_same r k) = by_root h.sparing.placed.0 (file_set (view T h.sparing.placed.0) l.file_set) refl
        (sym (ap (λ x. and_then x (placed T)) q ∙ ap (λ x. and_then x (rooted T l)) (r ∙ h.sparing.placed.1)) ∙ e)
    by_space q (unread_answer listed r x) = no_group T [] [] (IsSparingGroup l.partitions) listed
        (nothing listed (sym (ap (λ x. and_then x (placed T)) q ∙ ap (λ x. and_then x (rooted T l)) r) ∙ e)) some_table x

    by_layout : IsAnswerOf T (valid_anchors V N) (anchor_places N) (IsSequenceGroup V N) (layout_by P T N) (layout_by P C N) → ⊥
    by_layout (the_same q k) = by_space (q ∙ h.finds) (space_of_lawful_by P T V N l hv h.finds h.sparing a)
    by_layout (unread_answer listed q x) = no_group T (valid_anchors V N) (anchor_places N) (IsSequenceGroup V N) listed (nothing listed (sym (ap (λ x. and_then x (placed T)) q) ∙ e)) some_sequence x
