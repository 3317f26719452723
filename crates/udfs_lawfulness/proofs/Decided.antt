-- What is decided of a volume.
use Rattle.std.proofs.Common.{◌≡◌, ◌≢◌, refl, sym, ◌∙◌, ap, subst, ℕ, ◌<◌, Bool, true, false, List, [], ◌∷◌, ◌++◌, cond, ◌&&◌, arith, map, Some, slice_get}
use Rattle.std.specs.Prelude.{filter, not, slice_index_or, suc, zero, IfOk, Result, Ok, Err}
use Rattle.udfs_lattice.specs.Volumes.{Blocks, ascending, not_known}
use Rattle.udfs_tag.specs.declared.layouts.LongAd.{LongAd}
use Rattle.udfs_volume.specs.Answers.{found, holes, faulty}
use Rattle.udfs_volume.specs.declared.faults.VolumeFault.{VolumeFault}
use Rattle.udfs_volume.specs.declared.profiles.Profile.{Profile}
use Rattle.udfs_volume.specs.Seen.{IsRising}
use Rattle.udfs_volume.proofs.PublicLaws.{ascending_rises}
use Rattle.udfs_space.specs.Places.{View, view}
use Rattle.udfs_file.specs.declared.faults.NodeFault.{NodeFault}
use Rattle.udfs_walk.specs.Bare.{full_node, lists_at, with_lists}
use Rattle.udfs_walk.specs.NodeFields.{NodeFields}
use Rattle.udfs_walk.specs.Nodes.{node}
use Rattle.udfs_walk.specs.Rereads.{reread}
use Rattle.udfs_walk.specs.Routes.{HasMoreRoutes}
use Rattle.udfs_walk.specs.TornFields.{TornFields}
use Rattle.udfs_walk.specs.Walks.{AreNodes}
use Rattle.udfs_walk.specs.declared.standings.Standing.{Standing}
use Rattle.udfs_walk.specs.declared.standings.Standing.TheVariants as standing
use Rattle.udfs_walk.proofs.PublicLaws.{no_more_routes, only_walk}
use Rattle.udfs_walk.specs.Cells.{HasNoFault}
use Rattle.udfs_walk.proofs.Listed.{get_map, map_get}
use Rattle.udfs_salvage.specs.Found.{Found, volume_by}
use Rattle.udfs_salvage.proofs.Founds.{found_same}
use Rattle.udfs_lawfulness.specs.Asking.{asks, is_data, is_torn, tree_asked}
use Rattle.udfs_lawfulness.specs.Filled.{is_mapped}
use Rattle.udfs_lawfulness.specs.Lawfulness.{HasNodes, HasStanding, IsDecided, IsRefuted, IsWhy, of_tree, to_open}
use Rattle.udfs_lawfulness.specs.Left.{AreLeft, GivesListed}
use Rattle.udfs_lawfulness.specs.Spelling.{AreFaultless, ArePathsApart, IsFaultyAt, IsFaultyFor, IsTwice, is_faulty}
use Rattle.udfs_lawfulness.specs.Structures.{IsContradicted, asked}
use Rattle.udfs_lawfulness.specs.declared.answers.Lawfulness.{Lawfulness}
use Rattle.udfs_lawfulness.specs.declared.answers.Lawfulness.TheVariants.{Lawful, Unlawful, Open}
use Rattle.udfs_lawfulness.specs.declared.answers.Reason.{Reason}
use Rattle.udfs_lawfulness.specs.declared.answers.Why.{Why}
use Rattle.udfs_lawfulness.specs.declared.answers.Why.TheVariants.{Structures, Volume as Unopened, TooManyPaths, Fault, Loop, SameName}
use Rattle.udfs_lawfulness.proofs.Known.{ascending_none}
use Rattle.udfs_lawfulness.proofs.LawfulVolumes.{no_lawful_agrees}
use Rattle.udfs_lawfulness.proofs.LawfulKept.{all_lawful_by, none_to_read}
use Rattle.udfs_lawfulness.proofs.Refuted.{loop_none, names_none, opened_none, standing_none}
use Rattle.udfs_lawfulness.proofs.TreeNodes.{append_none, decided_at, names_differ}
use Rattle.udfs_salvage.proofs.TreeReports.{too_many}

-- ---- nodes without their blocks and holes
-- what is asked does not depend on them
torn_full : (lists : TornFields) (s : Standing) → is_torn (with_lists lists s) ≡ is_torn s
torn_full lists standing.Whole = refl
torn_full lists (standing.Torn torn) = refl
torn_full lists standing.Loop = refl
torn_full lists (standing.Fault f) = refl

asks_full : (v : View) (n : NodeFields) → asks v (full_node v n) ≡ asks v n
asks_full v n = ap (λ b. b && not (is_data n.kind && is_mapped v n.icb)) (torn_full (lists_at v n.icb) n.standing)

asking_full : (v : View) (nodes : List NodeFields) → filter (asks v) (map (full_node v) nodes) ≡ map (full_node v) (filter (asks v) nodes)
asking_full v [] = refl
asking_full v (n ∷ ns) = ap (λ b. cond b (full_node v n ∷ filter (asks v) (map (full_node v) ns)) (filter (asks v) (map (full_node v) ns))) (asks_full v n) ∙ go (asks v n) (asking_full v ns)
  where
    go : (b : Bool) → filter (asks v) (map (full_node v) ns) ≡ map (full_node v) (filter (asks v) ns)
        → cond b (full_node v n ∷ filter (asks v) (map (full_node v) ns)) (filter (asks v) (map (full_node v) ns)) ≡ map (full_node v) (cond b (n ∷ filter (asks v) ns) (filter (asks v) ns))
    go true e = ap (λ z. full_node v n ∷ z) e
    go false e = e

pub asked_full : (v : View) (nodes kept : List NodeFields) → kept ≡ filter (asks v) nodes → reread (map (full_node v) kept) ≡ tree_asked v (map (full_node v) nodes)
asked_full v nodes kept e = ap reread (ap (map (full_node v)) e ∙ sym (asking_full v nodes))

faulty_full : (lists : TornFields) (s : Standing) → is_faulty (with_lists lists s) ≡ is_faulty s
faulty_full lists standing.Whole = refl
faulty_full lists (standing.Torn torn) = refl
faulty_full lists standing.Loop = refl
faulty_full lists (standing.Fault f) = refl

faultless : (s : Standing) → is_faulty s ≡ false → (s ≢ standing.Loop) × ((f : NodeFault) → s ≢ standing.Fault f)
faultless s e = (
  (λ q. let z : is_faulty s ≡ true = ap is_faulty q in let w : true ≡ false = sym z ∙ e in let no : ⊥ = cc in no),
  (λ f q. let z : is_faulty s ≡ true = ap is_faulty q in let w : true ≡ false = sym z ∙ e in let no : ⊥ = cc in no),
)

clean_full : (v : View) (nodes : List NodeFields) → AreFaultless nodes → (i : ℕ) (n : NodeFields) → slice_get (map (full_node v) nodes) i ≡ Some n → HasNoFault n
clean_full v nodes clean i n e = let m : (m : NodeFields) × (slice_get nodes i ≡ Some m) × (n ≡ full_node v m) = map_get (full_node v) nodes i n e in
    subst HasNoFault (sym m.2) (faultless (full_node v m.0).standing (faulty_full (lists_at v (m.0).icb) (m.0).standing ∙ clean i m.0 m.1))

apart_full : (v : View) (nodes : List NodeFields) → ArePathsApart nodes → ArePathsApart (map (full_node v) nodes)
apart_full v nodes apart i j m n p q same =
    let x : (x : NodeFields) × (slice_get nodes i ≡ Some x) × (m ≡ full_node v x) = map_get (full_node v) nodes i m p in
    let y : (y : NodeFields) × (slice_get nodes j ≡ Some y) × (n ≡ full_node v y) = map_get (full_node v) nodes j n q in
    apart i j x.0 y.0 x.1 y.1 (ap (λ (z : NodeFields). z.path) (sym x.2) ∙ same ∙ ap (λ (z : NodeFields). z.path) y.2)

-- the item that was taken out of a list
pub taken_is : (nodes : List NodeFields) (at : ℕ) (n taken : NodeFields) → slice_get nodes at ≡ Some n → taken ≡ slice_index_or nodes at taken → taken ≡ n
taken_is [] at n taken e q = absurd (let z : ⊥ = cc in z)
taken_is (x ∷ xs) zero n taken e q = q ∙ (let z : x ≡ n = cc in z)
taken_is (x ∷ xs) (suc at) n taken e q = taken_is xs at n taken e q

-- ---- what contradicts it
pub faulty_refutes : (P : Profile) (T : Blocks) (N : ℕ) (f : Found) (v : View) (nodes : List NodeFields) (at : ℕ) (taken : NodeFields) (why : Why) → volume_by P T N ≡ found f → v ≡ view T f.space
    → AreNodes v f.root (map (full_node v) nodes) → IsFaultyAt nodes at → taken ≡ slice_index_or nodes at taken → IsFaultyFor taken why → IsRefuted P T N why
faulty_refutes P T N f v nodes at taken why opens is are x q by = go why by
  where
    at_is : slice_get nodes at ≡ Some taken
    at_is = x.node_is ∙ ap Some (sym (taken_is nodes at x.node taken x.node_is q))

    full_is : slice_get (map (full_node v) nodes) at ≡ Some (full_node v taken)
    full_is = get_map (full_node v) nodes at taken at_is

    nodes_of : (Holds : View → List NodeFields → Type 0) → Holds v (map (full_node v) nodes) → HasNodes P T N Holds
    nodes_of Holds h = record {
      opened = f;
      opens = opens;
      nodes = map (full_node v) nodes;
      nodes_are = subst (λ z. AreNodes z f.root (map (full_node v) nodes)) is are;
      holds = subst (λ z. Holds z (map (full_node v) nodes)) is h;
    }

    go : (y : Why) → IsFaultyFor taken y → IsRefuted P T N y
    go (Structures r) b = absurd b
    go (Unopened fault) b = absurd b
    go TooManyPaths b = absurd b
    go (Fault path fault) b = let w : IsWhy P T N (Fault path fault) = nodes_of (λ u. HasStanding path (standing.Fault fault)) (at, full_node v taken, full_is, b.0, ap (with_lists (lists_at v taken.icb)) b.1) in
        record { reason = w; none = standing_none P T N path fault w }
    go (Loop path) b = let w : IsWhy P T N (Loop path) = nodes_of (λ u. HasStanding path standing.Loop) (at, full_node v taken, full_is, b.0, ap (with_lists (lists_at v taken.icb)) b.1) in
        record { reason = w; none = loop_none P T N path w }
    go (SameName path) b = absurd b

pub twice_refutes : (P : Profile) (T : Blocks) (N : ℕ) (f : Found) (v : View) (nodes : List NodeFields) (at : ℕ) (taken : NodeFields) → volume_by P T N ≡ found f → v ≡ view T f.space
    → AreNodes v f.root (map (full_node v) nodes) → IsTwice nodes at → taken ≡ slice_index_or nodes at taken → IsRefuted P T N (SameName taken.path)
twice_refutes P T N f v nodes at taken opens is are x q = record { reason = why; none = names_none P T N taken.path why }
  where
    same : taken ≡ x.other
    same = taken_is nodes at x.other taken x.other_is q

    why : IsWhy P T N (SameName taken.path)
    why = record {
      opened = f;
      opens = opens;
      nodes = map (full_node v) nodes;
      nodes_are = subst (λ z. AreNodes z f.root (map (full_node v) nodes)) is are;
      holds = (
        x.first,
        at,
        full_node v x.one,
        full_node v x.other,
        x.before,
        get_map (full_node v) nodes x.first x.one x.one_is,
        get_map (full_node v) nodes at x.other x.other_is,
        x.same ∙ ap (λ (z : NodeFields). z.path) (sym same),
        ap (λ (z : NodeFields). z.path) (sym same),
      );
    }

pub many_refute : (P : Profile) (T : Blocks) (N : ℕ) (f : Found) → volume_by P T N ≡ found f → HasMoreRoutes (view T f.space) f.root 65536 → IsRefuted P T N TooManyPaths
many_refute P T N f opens more = record { reason = (f, opens, more); none = too_many P T N (f, opens, more) }

pub fault_refutes : (P : Profile) (T : Blocks) (N : ℕ) (fault : VolumeFault) → volume_by P T N ≡ faulty fault → IsRefuted P T N (Unopened fault)
fault_refutes P T N fault e = record { reason = e; none = opened_none P T N fault e }

pub structures_refute : (P : Profile) (T : Blocks) (N : ℕ) (r : Reason) → IsContradicted P T N r → IsRefuted P T N (Structures r)
structures_refute P T N r x = record { reason = x.reason; none = no_lawful_agrees P T N x.none }

-- ---- nothing contradicts it
nodes_once : (v : View) (root : LongAd) (xs ys : List NodeFields) → AreNodes v root xs → AreNodes v root ys → xs ≡ ys
nodes_once v root xs ys a b = a.is ∙ ap (map (node v)) (only_walk v root a.walks b.walks a.walk b.walk) ∙ sym b.is

no_why : (P : Profile) (T : Blocks) (N : ℕ) (f : Found) (unread : List ℕ) (nodes : List NodeFields) → AreLeft P T N unread → volume_by P T N ≡ found f → AreNodes (view T f.space) f.root nodes
    → ((i : ℕ) (n : NodeFields) → slice_get nodes i ≡ Some n → HasNoFault n) → ArePathsApart nodes → (why : Why) → IsWhy P T N why → ⊥
no_why P T N f unread nodes left opens are clean apart why w = go why w
  where
    f_same : (g : Found) → volume_by P T N ≡ found g → g ≡ f
    f_same g e = found_same g f (sym e ∙ opens)

    same : {Holds : View → List NodeFields → Type 0} (x : HasNodes P T N Holds) → x.nodes ≡ nodes
    same x = nodes_once (view T f.space) f.root x.nodes nodes (subst (λ (z : Found). AreNodes (view T z.space) z.root x.nodes) (f_same x.opened x.opens) x.nodes_are) are

    go : (y : Why) → IsWhy P T N y → ⊥
    go (Structures r) x = left.no_reason r x
    go (Unopened fault) x = absurd (let z : found f ≡ faulty fault = sym opens ∙ x in let no : ⊥ = cc in no)
    go TooManyPaths (g, e, more) = no_more_routes (view T f.space) f.root are.walks 65536 are.walk are.few (subst (λ (z : Found). HasMoreRoutes (view T z.space) z.root 65536) (f_same g e) more)
    go (Fault path fault) x = let h = x.holds in (clean h.0 h.1 (ap (λ z. slice_get z h.0) (sym (same x)) ∙ h.2)).1 fault h.4
    go (Loop path) x = let h = x.holds in (clean h.0 h.1 (ap (λ z. slice_get z h.0) (sym (same x)) ∙ h.2)).0 h.4
    go (SameName path) x = let h = x.holds in
        let one : h.0 ≡ h.1 = apart h.0 h.1 h.2 h.3 (ap (λ z. slice_get z h.0) (sym (same x)) ∙ h.5) (ap (λ z. slice_get z h.1) (sym (same x)) ∙ h.6) (h.7 ∙ sym h.8) in
        let less : h.0 < h.1 = h.4 in omega (arith, one, less)

-- ---- what is decided
-- the blocks that decide the structures rise
pub left_rises : (P : Profile) (T : Blocks) (N : ℕ) (listed : List ℕ) → AreLeft P T N listed → IsRising listed
left_rises P T N listed left = subst IsRising (sym left.listed_are) (ascending_rises (not_known T (asked P T N)))

-- what holds of what is returned, and what follows from it
pub over : {A E : Type 0} (r : Result A E) (Holds Also : A → Type 0) → ((x : A) → Holds x → Also x) → IfOk r Holds → IfOk r Also
over (Ok x) Holds Also f h = f x h
over (Err e) Holds Also f h = h

-- by the tree of a volume without a fault
pub tree_decides : (P : Profile) (T : Blocks) (N : ℕ) (f : Found) (v : View) (nodes : List NodeFields) (more unread : List ℕ) (answer : Lawfulness) → AreLeft P T N unread → volume_by P T N ≡ found f → v ≡ view T f.space
    → AreNodes v f.root (map (full_node v) nodes) → AreFaultless nodes → ArePathsApart nodes → more ≡ tree_asked v (map (full_node v) nodes) → GivesListed (ascending (more ++ unread)) answer → IsDecided P T N answer
tree_decides P T N f v nodes more unread answer left opens is are clean apart asked_is given = go answer given
  where
    full : List NodeFields
    full = map (full_node v) nodes

    are_full : AreNodes (view T f.space) f.root full
    are_full = subst (λ z. AreNodes z f.root full) is are

    asked_here : more ≡ tree_asked (view T f.space) full
    asked_here = subst (λ z. more ≡ tree_asked z full) is asked_is

    none_asked : ascending (more ++ unread) ≡ [] → (more ≡ []) × (unread ≡ [])
    none_asked e = append_none more unread (ascending_none (more ++ unread) e)

    go : (y : Lawfulness) → GivesListed (ascending (more ++ unread)) y → IsDecided P T N y
    go Lawful e = all_lawful_by P T N f (left.sound (none_asked e).1) opens
        (decided_at (view T f.space) f.root full are_full (clean_full v nodes clean) (sym asked_here ∙ (none_asked e).0))
        (names_differ (view T f.space) f.root full are_full (apart_full v nodes apart))
        (no_more_routes (view T f.space) f.root are_full.walks 65536 are_full.walk are_full.few)
    go (Unlawful why) e = absurd e
    go (Open listed) e = record {
      below = more;
      below_are = of_tree (record { opened = f; opens = opens; nodes = full; nodes_are = are_full; holds = asked_here });
      listed_are = e.0 ∙ ap (λ z. ascending (more ++ z)) left.listed_are;
      some = λ q. e.1 (sym e.0 ∙ q);
      no_why = no_why P T N f unread full left opens are_full (clean_full v nodes clean) (apart_full v nodes apart);
    }

-- and where the volume does not open yet
pub holes_decide : (P : Profile) (T : Blocks) (N : ℕ) (more unread : List ℕ) (answer : Lawfulness) → AreLeft P T N unread → volume_by P T N ≡ holes more → GivesListed (ascending (more ++ unread)) answer → IsDecided P T N answer
holes_decide P T N more unread answer left opens given = go answer given
  where
    none_asked : ascending (more ++ unread) ≡ [] → (more ≡ []) × (unread ≡ [])
    none_asked e = append_none more unread (ascending_none (more ++ unread) e)

    no : (why : Why) → IsWhy P T N why → ⊥
    no (Structures r) x = left.no_reason r x
    no (Unopened fault) x = absurd (let z : holes more ≡ faulty fault = sym opens ∙ x in let n : ⊥ = cc in n)
    no TooManyPaths (g, e, many) = absurd (let z : holes more ≡ found g = sym opens ∙ e in let n : ⊥ = cc in n)
    no (Fault path fault) x = absurd (let z : holes more ≡ found x.opened = sym opens ∙ x.opens in let n : ⊥ = cc in n)
    no (Loop path) x = absurd (let z : holes more ≡ found x.opened = sym opens ∙ x.opens in let n : ⊥ = cc in n)
    no (SameName path) x = absurd (let z : holes more ≡ found x.opened = sym opens ∙ x.opens in let n : ⊥ = cc in n)

    go : (y : Lawfulness) → GivesListed (ascending (more ++ unread)) y → IsDecided P T N y
    go Lawful e = none_to_read P T N (left.sound (none_asked e).1) (opens ∙ ap holes (none_asked e).0)
    go (Unlawful why) e = absurd e
    go (Open listed) e = record { below = more; below_are = to_open opens; listed_are = e.0 ∙ ap (λ z. ascending (more ++ z)) left.listed_are; some = λ q. e.1 (sym e.0 ∙ q); no_why = no }
