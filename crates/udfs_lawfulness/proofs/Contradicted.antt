-- What contradicts lawful structures: no volume that has them agrees.
use Rattle.std.proofs.Common.{◌≡◌, sym, ◌∙◌, ap, subst, ℕ, ◌/◌, ◌<◌, ◌&&◌, true, List, [], arith, Option, Some, None}
use Rattle.udfs_lattice.specs.Volumes.{Blocks, Volume, complete}
use Rattle.udfs_volume.specs.declared.faults.VolumeFault.{VolumeFault}
use Rattle.udfs_volume.specs.declared.profiles.Profile.{Profile}
use Rattle.udfs_volume.specs.Answers.{Answer, found, holes, faulty}
use Rattle.udfs_volume.specs.Differences.{copies_differ, differ_at, differ_by, differ_in, reaches}
use Rattle.udfs_volume.specs.Laws.{IsAnswerOf, IsSequenceGroup, the_same, valid_anchors}
use Rattle.udfs_volume.specs.Laws.IsAnswerOf.{unread as unread_answer}
use Rattle.udfs_volume.specs.Layout.{Layout, layout_by}
use Rattle.udfs_volume.specs.Sequence.{anchor_places, are_extents_by, shared, shorter}
use Rattle.udfs_volume.proofs.ApartAnchors.{anchors_agree}
use Rattle.udfs_volume.proofs.ApartCopies.{copies_agree}
use Rattle.udfs_volume.proofs.Known.{true_false}
use Rattle.udfs_volume.proofs.LayoutLaw.{anchor_of_lawful, are_extents_of}
use Rattle.udfs_volume.proofs.PublicLaws.{layout_is_bounded_by, layout_of_lawful_by}
use Rattle.udfs_volume.proofs.ReserveLaw.{main_of_lawful}
use Rattle.udfs_space.specs.Laws.{IsLawfulSparing, IsSparingGroup}
use Rattle.udfs_space.specs.Sparing.{space}
use Rattle.udfs_space.proofs.PublicLaws.{space_of_lawful_by}
use Rattle.udfs_lawfulness.specs.Structures.{AgreesWithNoLawful, ArePairApart, IsContradicted, IsReason, of_layout, of_space}
use Rattle.udfs_lawfulness.specs.declared.answers.Reason.{Reason}
use Rattle.udfs_lawfulness.specs.declared.answers.Reason.TheVariants.{Anchors, Descriptors, Tables, NoTable, Fault}
use Rattle.udfs_lawfulness.proofs.Found.{some_at}
use Rattle.udfs_lawfulness.proofs.Spared.{none_apart, none_untagged}

-- a pair that is apart makes the copies differ
pub pairs_differ : (P : Profile) (T : Blocks) (N main reserve : ℕ) (r : ArePairApart T N main reserve) → are_extents_by P N r.extents ≡ true → copies_differ P T N ≡ true
pairs_differ P T N main reserve r b =
    let e = r.extents in
    let a = r.apart in
    let d : differ_in T (shared e) ≡ true = some_at (λ k. reaches T e k && differ_at T e k) 0 (shorter e / 2048) a.place (omega arith) (let l : a.place < shorter e / 2048 = a.inside in omega (arith, l)) (λ i. a.reached i && a.differ i) in
    ap (differ_by P T N) r.anchor_is ∙ (λ i. b i && d i)

-- the layout that is found is that of a volume with lawful structures
layout_same : (l m : Layout) (T : Blocks) (V : Volume) (N : ℕ) (x y : Answer Layout) → x ≡ found l → y ≡ found m
    → IsAnswerOf T (valid_anchors V N) (anchor_places N) (IsSequenceGroup V N) x y → m ≡ l
layout_same l m T V N x y e h (the_same q known) = let p : found m ≡ found l = sym h ∙ sym q ∙ e in ap the_layout p
  where
    the_layout : Answer Layout → Layout
    the_layout (found k) = k
    the_layout (holes listed) = l
    the_layout (faulty fault) = l
layout_same l m T V N x y e h (unread_answer listed q lists) = absurd (let z : ⊥ = cc in z)

no_fault : {A : Type 0} (T : Blocks) (anchors ps : List ℕ) (G : List ℕ → Type 0) (x y : Answer A) (z : A) (f : VolumeFault) → x ≡ faulty f → y ≡ found z → IsAnswerOf T anchors ps G x y → ⊥
no_fault T anchors ps G x y z f e h (the_same q known) = let p : faulty f ≡ found z = sym e ∙ q ∙ h in cc
no_fault T anchors ps G x y z f e h (unread_answer listed q lists) = let p : faulty f ≡ holes listed = sym e ∙ q in cc

pub none_agrees : (P : Profile) (T : Blocks) (N : ℕ) (why : Reason) → IsReason P T N why → AgreesWithNoLawful P T N
none_agrees P T N why reason V hv lawful agrees = by why reason
  where
    C : Blocks
    C = complete V N

    same : (l : Layout) → layout_by P T N ≡ found l → lawful.layout_is ≡ l
    same l q = layout_same l lawful.layout_is T V N (layout_by P T N) (layout_by P C N) q lawful.finds (layout_of_lawful_by P T V N hv lawful.layout agrees)

    sparing : (l : Layout) → layout_by P T N ≡ found l → IsLawfulSparing V N l
    sparing l q = subst (IsLawfulSparing V N) (same l q) lawful.sparing

    by : (w : Reason) → IsReason P T N w → ⊥
    by (Anchors one other) r = let none = anchors_agree P T V N lawful.layout agrees in let z : ◌≡◌ {A = Option (ℕ × ℕ)} None (Some (one, other)) = sym none ∙ r in cc
    by (Descriptors main reserve) r = true_false (copies_differ P T N)
        (pairs_differ P T N main reserve r (are_extents_of P V N r.extents lawful.layout.laid_out.0 (anchor_of_lawful P T V N hv.from lawful.layout agrees r.extents r.anchor_is) (main_of_lawful P V N hv.from lawful.layout)))
        (copies_agree P T V N hv lawful.layout agrees)
    by (Tables one other) r = none_apart T V N (r.partition).kind one other hv agrees ((layout_is_bounded_by P T N r.layout_is r.finds).of_each r.partition r.is_there).bounded_map
        ((sparing r.layout_is r.finds).tables r.partition r.is_there) r.is_so
    by (NoTable place) r = none_untagged T V N (r.partition).kind place agrees ((sparing r.layout_is r.finds).tables r.partition r.is_there) r.is_so
    by (Fault fault) (of_layout q) = no_fault T (valid_anchors V N) (anchor_places N) (IsSequenceGroup V N) (layout_by P T N) (layout_by P C N) lawful.layout_is fault q lawful.finds
        (layout_of_lawful_by P T V N hv lawful.layout agrees)
    by (Fault fault) (of_space l q f) = let lw : IsLawfulSparing V N l = sparing l q in
        let whole : layout_by P C N ≡ found l = lawful.finds ∙ ap found (same l q) in
        no_fault T [] [] (IsSparingGroup l.partitions) (space T l) (space C l) lw.placed.0 fault f lw.placed.1 (space_of_lawful_by P T V N l hv whole lw agrees)

pub contradicted : (P : Profile) (T : Blocks) (N : ℕ) (why : Reason) → IsReason P T N why → IsContradicted P T N why
contradicted P T N why r = record { reason = r; none = none_agrees P T N why r }
