-- What the list of nodes says of each end of a route.
use Rattle.std.proofs.Common.{◌≡◌, refl, sym, ◌∙◌, ap, subst, ℕ, ◌<◌, Bool, true, false, not, List, [], ◌∷◌, ◌++◌, cond, ◌&&◌, arith, Option, Some, None, slice_get, length}
use Rattle.std.specs.Prelude.{filter, flat_map, slice_index_or, suc, zero, IsSome}
use Rattle.std.proofs.lemmas.List.Concat.{flat_map-cons}
use Rattle.udfs_lattice.specs.Volumes.{ascending}
use Rattle.udfs_lattice.proofs.Inclusion.{included}
use Rattle.udfs_tag.specs.declared.layouts.LongAd.{LongAd}
use Rattle.udfs_volume.specs.declared.profiles.Profile.{Profile}
use Rattle.udfs_space.specs.Places.{View}
use Rattle.udfs_file.specs.Bodies.{Body, cells, faulty_body, body}
use Rattle.udfs_file.specs.Entries.{EntryFields}
use Rattle.udfs_file.specs.Fronts.{directory_by, entries_by, fault_in}
use Rattle.udfs_file.specs.declared.cells.Cell.{Cell}
use Rattle.udfs_file.specs.declared.directories.DirEntry.{DirEntry}
use Rattle.udfs_file.specs.declared.faults.Kind.{Kind}
use Rattle.udfs_file.specs.declared.faults.Kind.TheVariants.{Directory, File, Link, Other, Unread}
use Rattle.udfs_file.specs.declared.faults.NodeFault.{NodeFault}
use Rattle.udfs_walk.specs.Kinds.{kind_by}
use Rattle.udfs_walk.specs.NodeFields.{NodeFields}
use Rattle.udfs_walk.specs.Nodes.{node, node_at}
use Rattle.udfs_walk.specs.Rereads.{missing_of}
use Rattle.udfs_walk.specs.Routes.{Route, Walked, at_root, below, entries_below, is_deep, is_loop, walk_from, walked}
use Rattle.udfs_walk.specs.Standings.{body_standing, cells_standing, depth_or, kind_standing, missing_blocks, runs_from, standing_or_fault, torn_or_whole}
use Rattle.udfs_walk.specs.Targets.{Target, bad, unread, entry, target}
use Rattle.udfs_walk.specs.TornFields.{TornFields}
use Rattle.udfs_walk.specs.Walks.{AreNodes}
use Rattle.udfs_walk.specs.declared.standings.Standing.{Standing}
use Rattle.udfs_walk.specs.declared.standings.Standing.TheVariants.{Whole, Torn, Loop, Fault}
use Rattle.udfs_walk.specs.Cells.{HasNoFault}
use Rattle.udfs_walk.specs.TreeLaws.{HasPathsOnce}
use Rattle.udfs_walk.specs.Lawful.{AreDistinct}
use Rattle.udfs_walk.proofs.Listed.{Placed, get_map, get_zip, path_is, placed}
use Rattle.udfs_walk.proofs.WholeRoutes.{cancel, includes_get, step_on}
use Rattle.udfs_lawfulness.specs.Asking.{asks, is_data, is_torn, tree_asked}
use Rattle.udfs_lawfulness.specs.Filled.{is_mapped}
use Rattle.udfs_lawfulness.proofs.Known.{ascending_none}
use Rattle.udfs_lawfulness.proofs.TreeKept.{DecidedAt, is_whole, is_file}

-- ---- what is torn lacks a block
torn_of : (ns : List ℕ) (runs : List (ℕ × ℕ)) (torn : TornFields) → torn_or_whole ns runs ≡ Torn torn → torn.missing ≡ [] → ⊥
torn_of [] runs torn e z = cc
torn_of (n ∷ ns) runs torn e z = cc

cells_torn : (cs : List Cell) (torn : TornFields) → cells_standing cs ≡ Torn torn → torn.missing ≡ [] → ⊥
unfolding cells_standing
cells_torn cs torn e z = torn_of (ascending (missing_blocks cs)) (runs_from 0 cs) torn e z

kind_torn : (P : Profile) (k : Kind) (deep : Bool) (cs : List Cell) (torn : TornFields) → kind_standing P k deep cs ≡ Torn torn → torn.missing ≡ [] → ⊥
kind_torn P File deep cs torn e z = cells_torn cs torn e z
kind_torn P Link deep cs torn e z = cells_torn cs torn e z
kind_torn P (Other t) deep cs torn e z = cells_torn cs torn e z
kind_torn P Unread deep cs torn e z = cells_torn cs torn e z
kind_torn P Directory deep cs torn e z = no_fault (fault_in (directory_by P cs).rest) e
  where
    not_deep : (b : Bool) (es : List DirEntry) → depth_or b es (cells_standing cs) ≡ Torn torn → ⊥
    not_deep true [] q = cells_torn cs torn q z
    not_deep true (x ∷ es) q = cc
    not_deep false es q = cells_torn cs torn q z

    no_fault : (o : Option NodeFault) → standing_or_fault o (depth_or deep (entries_by P cs) (cells_standing cs)) ≡ Torn torn → ⊥
    no_fault None q = not_deep deep (entries_by P cs) q
    no_fault (Some f) q = cc

-- a torn node: its entry is not read, or it is no loop; and it lacks a block
record IsTornAt (v : View) (w : Walked) : Type 0 where
  some : (torn : TornFields) → (node v w).standing ≡ Torn torn → torn.missing ≡ [] → ⊥
  file : (torn : TornFields) → (node v w).standing ≡ Torn torn → is_data (node v w).kind ≡ true → (e : EntryFields) × (target v w.address ≡ entry e) × (is_loop w ≡ false) × (is_data e.kind ≡ true)
  icb : (node v w).icb ≡ w.address

data_kind : (P : Profile) (k : Kind) → is_data (kind_by P k) ≡ true → is_data k ≡ true
data_kind P File e = refl
data_kind P Link e = refl
data_kind P (Other t) e = refl
data_kind P Directory e = e
data_kind P Unread e = e

torn_at : (v : View) (w : Walked) → IsTornAt v w
unfolding node
torn_at v w = record { some = λ torn. some (target v w.address) torn; file = λ torn. file (target v w.address) refl torn; icb = icb (target v w.address) }
  where
    icb : (t : Target) → (node_at v w t).icb ≡ w.address
    icb (bad f) = refl
    icb (unread n) = refl
    icb (entry e) = refl

    by_body : (e : EntryFields) (b : Body) (torn : TornFields) → body_standing v.profile e.kind (is_deep w) b ≡ Torn torn → torn.missing ≡ [] → ⊥
    by_body e (cells cs) torn q z = kind_torn v.profile e.kind (is_deep w) cs torn q z
    by_body e (faulty_body f) torn q z = cc

    by_loop : (e : EntryFields) (l : Bool) (torn : TornFields) → cond l Loop (body_standing v.profile e.kind (is_deep w) (body v w.address.reference w.address.block e)) ≡ Torn torn → torn.missing ≡ [] → ⊥
    by_loop e true torn q z = cc
    by_loop e false torn q z = by_body e (body v w.address.reference w.address.block e) torn q z

    some : (t : Target) (torn : TornFields) → (node_at v w t).standing ≡ Torn torn → torn.missing ≡ [] → ⊥
    some (bad f) torn q z = cc
    some (unread n) torn q z = cc
    some (entry e) torn q z = by_loop e (is_loop w) torn q z

    no_loop : (e : EntryFields) (l : Bool) (torn : TornFields) → cond l Loop (body_standing v.profile e.kind (is_deep w) (body v w.address.reference w.address.block e)) ≡ Torn torn → l ≡ false
    no_loop e true torn q = absurd (let z : ⊥ = cc in z)
    no_loop e false torn q = refl

    file : (t : Target) → target v w.address ≡ t → (torn : TornFields) → (node_at v w t).standing ≡ Torn torn → is_data (node_at v w t).kind ≡ true
        → (e : EntryFields) × (target v w.address ≡ entry e) × (is_loop w ≡ false) × (is_data e.kind ≡ true)
    file (bad f) t torn q d = absurd (let z : ⊥ = cc in z)
    file (unread n) t torn q d = absurd (let z : ⊥ = cc in z)
    file (entry e) t torn q d = (e, t, no_loop e (is_loop w) torn q, data_kind v.profile e.kind d)

-- ---- what is asked of one node
pub append_none : (xs ys : List ℕ) → xs ++ ys ≡ [] → (xs ≡ []) × (ys ≡ [])
append_none [] ys e = (refl, e)
append_none (x ∷ xs) ys e = absurd (let z : ⊥ = cc in z)

asked_none : (f : NodeFields → Bool) (nodes : List NodeFields) → flat_map (λ (n : NodeFields). missing_of n.standing) (filter f nodes) ≡ []
    → (i : ℕ) (n : NodeFields) → slice_get nodes i ≡ Some n → f n ≡ true → missing_of n.standing ≡ []
asked_none f [] e i n q t = absurd (let z : ⊥ = cc in z)
asked_none f (m ∷ ms) e i n q t = go (f m) refl i q (asked_none f ms)
  where
    missed : NodeFields → List ℕ
    missed x = missing_of x.standing

    parts : f m ≡ true → (missed m ≡ []) × (flat_map missed (filter f ms) ≡ [])
    parts b = append_none (missed m) (flat_map missed (filter f ms)) (sym (flat_map-cons missed m (filter f ms)) ∙ sym (ap (λ c. flat_map missed (cond c (m ∷ filter f ms) (filter f ms))) b) ∙ e)

    rest : (b : Bool) → f m ≡ b → flat_map missed (filter f ms) ≡ []
    rest true b = (parts b).1
    rest false b = sym (ap (λ c. flat_map missed (cond c (m ∷ filter f ms) (filter f ms))) b) ∙ e

    go : (b : Bool) → f m ≡ b → (i : ℕ) → slice_get (m ∷ ms) i ≡ Some n
        → (flat_map missed (filter f ms) ≡ [] → (i : ℕ) (n : NodeFields) → slice_get ms i ≡ Some n → f n ≡ true → missing_of n.standing ≡ []) → missing_of n.standing ≡ []
    go b p zero q ih = let same : m ≡ n = cc in subst (λ x. missing_of x.standing ≡ []) same (parts (ap f same ∙ t)).0
    go b p (suc k) q ih = ih (rest b p) k n q t

two_true : (a b : Bool) → not (a && b) ≡ false → (a ≡ true) × (b ≡ true)
two_true true true e = (refl, refl)
two_true true false e = absurd (let z : ⊥ = cc in z)
two_true false b e = absurd (let z : ⊥ = cc in z)

-- where no node has a fault or is a loop, and none asks for a block, each is decided
pub decided_at : (v : View) (root : LongAd) (nodes : List NodeFields) → AreNodes v root nodes → ((i : ℕ) (n : NodeFields) → slice_get nodes i ≡ Some n → HasNoFault n) → tree_asked v nodes ≡ []
    → (route : Route) (w : Walked) → walked v root route ≡ Some w → DecidedAt v w
decided_at v root nodes are clean none route w e = go (node v w).standing refl
  where
    at : Placed v root nodes are w
    at = placed v root nodes are route w e

    x : IsTornAt v w
    x = torn_at v w

    torn_is : (torn : TornFields) → (node v w).standing ≡ Torn torn → (b : Bool) → not (is_data (node v w).kind && is_mapped v (node v w).icb) ≡ b → DecidedAt v w
    torn_is torn s true b = absurd (x.some torn s (sym (ap missing_of s) ∙ asked_none (asks v) nodes (ascending_none (flat_map (λ (n : NodeFields). missing_of n.standing) (filter (asks v) nodes)) none) at.index (node v w) at.listed
        (ap (λ z. is_torn z && not (is_data (node v w).kind && is_mapped v (node v w).icb)) s ∙ b)))
    torn_is torn s false b = let t : (is_data (node v w).kind ≡ true) × (is_mapped v (node v w).icb ≡ true) = two_true (is_data (node v w).kind) (is_mapped v (node v w).icb) b in
        let f = x.file torn s t.0 in is_file f.0 f.1 f.2 f.3 (sym (ap (is_mapped v) x.icb) ∙ t.1)

    go : (s : Standing) → (node v w).standing ≡ s → DecidedAt v w
    go Whole s = is_whole s
    go (Torn torn) s = torn_is torn s (not (is_data (node v w).kind && is_mapped v (node v w).icb)) refl
    go Loop s = absurd ((clean at.index (node v w) at.listed).0 s)
    go (Fault f) s = absurd ((clean at.index (node v w) at.listed).1 f s)

-- ---- names
walk_on : (v : View) (route more : Route) (w end : Walked) → walk_from v w route ≡ Some end → walk_from v w (route ++ more) ≡ walk_from v end more
walk_on v [] more w end e = let same : w ≡ end = cc in ap (λ z. walk_from v z more) same
walk_on v (j ∷ js) more w end e = go (slice_get (entries_below v w) j) refl (λ d. walk_on v js more (below w d) end)
  where
    go : (o : Option DirEntry) → slice_get (entries_below v w) j ≡ o → ((d : DirEntry) → walk_from v (below w d) js ≡ Some end → walk_from v (below w d) (js ++ more) ≡ walk_from v end more)
        → walk_from v w (j ∷ js ++ more) ≡ walk_from v end more
    go None q ih = absurd (let z : None ≡ Some end = sym (ap (λ o. elim o as (λ _. Option Walked) [ None ↦ None | Some d ↦ walk_from v (below w d) js ]) q) ∙ e in let no : ⊥ = cc in no)
    go (Some d) q ih = step_on v w j (js ++ more) d q ∙ ih d (sym (step_on v w j js d q) ∙ e)

get_index : (xs : List DirEntry) (j : ℕ) (d : DirEntry) → j < length xs → slice_get xs j ≡ Some (slice_index_or xs j d)
get_index [] j d h = absurd (let z : ⊥ = omega (arith, h) in z)
get_index (x ∷ xs) zero d h = refl
get_index (x ∷ xs) (suc j) d h = get_index xs j d (omega (arith, h))

-- the place of a route and its end in the lists
record RouteAt (v : View) (root : LongAd) (nodes : List NodeFields) (are : AreNodes v root nodes) (route : Route) (end : Walked) : Type 0 where
  index : ℕ
  routed : slice_get are.walk.routes index ≡ Some route
  listed : slice_get nodes index ≡ Some (node v end)

is_some_of : {A : Type 0} (o : Option A) (x : A) → o ≡ Some x → IsSome o
is_some_of None x e = absurd (let z : None ≡ Some x = e in let no : ⊥ = cc in no)
is_some_of (Some y) x e = refl

route_at : (v : View) (root : LongAd) (nodes : List NodeFields) (are : AreNodes v root nodes) (route : Route) (end : Walked) → walked v root route ≡ Some end → RouteAt v root nodes are route end
route_at v root nodes are route end e = record { index = i.0; routed = i.1; listed = ap (λ z. slice_get z i.0) are.is ∙ get_map (node v) are.walks i.0 end (x.1 ∙ sym x.2 ∙ e) }
  where
    i : (k : ℕ) × (slice_get are.walk.routes k ≡ Some route)
    i = includes_get are.walk.routes route (included are.walk.routes route (are.walk.all route (is_some_of (walked v root route) end e)))

    x : (w : Walked) × (slice_get are.walks i.0 ≡ Some w) × (walked v root route ≡ Some w)
    x = get_zip (λ route w. walked v root route ≡ Some w) are.walk.routes are.walks i.0 route are.walk.each i.1

step_to : (v : View) (root : LongAd) (route : Route) (w : Walked) (j : ℕ) (d : DirEntry) → walked v root route ≡ Some w → slice_get (entries_below v w) j ≡ Some d → walked v root (route ++ j ∷ []) ≡ Some (below w d)
unfolding walked
step_to v root route w j d e g = walk_on v route (j ∷ []) (at_root root) w e ∙ step_on v w j [] d g

-- where no two nodes have one path, the names in each directory differ
pub names_differ : (v : View) (root : LongAd) (nodes : List NodeFields) → AreNodes v root nodes → HasPathsOnce nodes → AreDistinct v root
names_differ v root nodes are once route w e j k d l m same = apart j k l one
  where
    apart : (a b : ℕ) → a < b → a ≡ b → ⊥
    apart a b h q = omega (arith, h, q)

    xs : List DirEntry
    xs = entries_below v w

    x : ℕ → DirEntry
    x i = slice_index_or xs i d

    at : (i : ℕ) → i < length xs → RouteAt v root nodes are (route ++ i ∷ []) (below w (x i))
    at i h = route_at v root nodes are (route ++ i ∷ []) (below w (x i)) (step_to v root route w i (x i) e (get_index xs i d h))

    p : RouteAt v root nodes are (route ++ j ∷ []) (below w (x j))
    p = at j (omega (arith, l, m))

    q : RouteAt v root nodes are (route ++ k ∷ []) (below w (x k))
    q = at k m

    paths : (node v (below w (x j))).path ≡ (node v (below w (x k))).path
    paths = path_is v (below w (x j)) ∙ ap (λ name. w.path ++ name ∷ []) same ∙ sym (path_is v (below w (x k)))

    index_is : p.index ≡ q.index
    index_is = once p.index q.index (node v (below w (x j))) (node v (below w (x k))) p.listed q.listed paths

    routes_are : Some (route ++ j ∷ []) ≡ Some (route ++ k ∷ [])
    routes_are = sym p.routed ∙ ap (slice_get are.walk.routes) index_is ∙ q.routed

    one : j ≡ k
    one = let s : Some (route ++ j ∷ []) ≡ Some (route ++ k ∷ []) = routes_are in let r : route ++ j ∷ [] ≡ route ++ k ∷ [] = cc in let t : j ∷ [] ≡ k ∷ [] = cancel route (j ∷ []) (k ∷ []) r in cc
