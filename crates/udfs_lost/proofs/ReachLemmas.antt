-- What names lead to from a folder of a lawful volume is a node of its lost tree.
use Rattle.std.proofs.Common.{◌≡◌, ◌≢◌, refl, sym, ◌∙◌, ap, subst, inl, inr, ℕ, Bool, true, false, not, cond, ◌||◌, List, [], ◌∷◌, ◌++◌, map, Option, Some, None, slice_get, nat_le, is_none}
use Rattle.std.specs.Prelude.{zero, suc, Contains, IsSome, filter_map, ◌==◌}
use Rattle.std.specs.List.{AllZip, cons_option}
use Rattle.udfs_lattice.proofs.Inclusion.{Includes, included, contained}
use Rattle.udfs_tag.specs.Faults.{first_fault}
use Rattle.udfs_tag.specs.declared.layouts.LongAd.{LongAd}
use Rattle.udfs_volume.specs.declared.profiles.Profile.{Profile}
use Rattle.udfs_space.specs.Places.{View, block_at}
use Rattle.udfs_file.specs.Addresses.{address_fault, is_no_reference}
use Rattle.udfs_file.specs.Bodies.{Body, body, cells, faulty_body}
use Rattle.udfs_file.specs.Entries.{EntryFields}
use Rattle.udfs_file.specs.Fronts.{directory_by, entries_by, fault_in}
use Rattle.udfs_file.specs.declared.directories.DirEntry.{DirEntry}
use Rattle.udfs_file.specs.declared.faults.Kind.{Kind}
use Rattle.udfs_file.specs.declared.faults.Kind.TheVariants.{Directory, File, Link, Other, Unread}
use Rattle.udfs_file.specs.declared.faults.NodeFault.{NodeFault}
use Rattle.udfs_file.specs.declared.faults.NodeFault.TheVariants.{Reference, Range, Depth}
use Rattle.udfs_walk.specs.NodeFields.{NodeFields}
use Rattle.udfs_walk.specs.Nodes.{node, node_at}
use Rattle.udfs_walk.specs.Routes.{Route, Walked, at_root, below, entries_below, is_deep, is_loop, kind_entries, target_entries, walk_from, walked}
use Rattle.udfs_walk.specs.Standings.{body_standing, cells_standing, depth_or, standing_or_fault}
use Rattle.udfs_walk.specs.Targets.{Icb, Target, bad, unread, entry, icb_of, target, target_at}
use Rattle.udfs_walk.specs.UnnamedEntries.{address_of}
use Rattle.udfs_walk.specs.Walks.{AreNodes}
use Rattle.udfs_walk.specs.declared.standings.Standing.TheVariants.{Loop, Fault}
use Rattle.udfs_walk.specs.Cells.{HasNoFault}
use Rattle.udfs_lost.specs.Entries.{entries_at}
use Rattle.udfs_lost.specs.Naming.{LeadsBy, LeadsTo, named_by, names_at}
use Rattle.udfs_lost.proofs.Members.{get_in}

-- ---- lists
-- what was given for an element
record IsGiven {A B : Type 0} (f : A → Option B) (xs : List A) (y : B) : Type 0 where
  place : ℕ
  from : A
  at : slice_get xs place ≡ Some from
  gives : f from ≡ Some y

in_given : {A B : Type 0} (f : A → Option B) (xs : List A) (y : B) → Includes (filter_map f xs) y → IsGiven f xs y
in_given f [] y i = absurd i
in_given {A} {B} f (x ∷ xs) y i = go (f x) refl i (in_given f xs y)
  where
    later : IsGiven f xs y → IsGiven f (x ∷ xs) y
    later t = record { place = suc t.place; from = t.from; at = t.at; gives = t.gives }

    go : (o : Option B) → f x ≡ o → Includes (cons_option o (filter_map f xs)) y → (Includes (filter_map f xs) y → IsGiven f xs y) → IsGiven f (x ∷ xs) y
    go None e j more = later (more j)
    go (Some z) e (inl q) more = record { place = 0; from = x; at = refl; gives = e ∙ ap Some q }
    go (Some z) e (inr j) more = later (more j)

map_at : {A B : Type 0} (f : A → B) (xs : List A) (i : ℕ) (x : A) → slice_get xs i ≡ Some x → slice_get (map f xs) i ≡ Some (f x)
map_at f [] i x e = absurd (let z : ⊥ = cc in z)
map_at f (y ∷ ys) zero x e = let s : y ≡ x = cc in ap (λ z. Some (f z)) s
map_at f (y ∷ ys) (suc i) x e = map_at f ys i x e

-- ---- routes
step_at : (v : View) (first : Walked) (route : Route) (w : Walked) (j : ℕ) (d : DirEntry) → walk_from v first route ≡ Some w → slice_get (entries_below v w) j ≡ Some d
    → walk_from v first (route ++ j ∷ []) ≡ Some (below w d)
step_at v first [] w j d e at = let s : first ≡ w = cc in
    ap (λ z. elim (slice_get (entries_below v z) j) as (λ _. Option Walked) [ None ↦ None | Some x ↦ Some (below z x) ]) s
    ∙ ap (λ o. elim o as (λ _. Option Walked) [ None ↦ None | Some x ↦ Some (below w x) ]) at
step_at v first (k ∷ ks) w j d e at = go (slice_get (entries_below v first) k) e (λ x q. step_at v (below first x) ks w j d q at)
  where
    go : (o : Option DirEntry) → (elim o as (λ _. Option Walked) [ None ↦ None | Some x ↦ walk_from v (below first x) ks ]) ≡ Some w
        → ((x : DirEntry) → walk_from v (below first x) ks ≡ Some w → walk_from v (below first x) (ks ++ j ∷ []) ≡ Some (below w d))
        → (elim o as (λ _. Option Walked) [ None ↦ None | Some x ↦ walk_from v (below first x) (ks ++ j ∷ []) ]) ≡ Some (below w d)
    go None q ih = absurd (let z : ⊥ = cc in z)
    go (Some x) q ih = ih x q

some_is : (o : Option Walked) (w : Walked) → o ≡ Some w → IsSome o
some_is None w e = absurd (let z : ⊥ = cc in z)
some_is (Some x) w e = refl

zip_at : (v : View) (root : LongAd) (routes : List Route) (walks : List Walked) (route : Route) (w : Walked) → AllZip (λ r w. walked v root r ≡ Some w) routes walks → Includes routes route → walked v root route ≡ Some w
    → (i : ℕ) × (slice_get walks i ≡ Some w)
zip_at v root [] walks route w h i e = absurd i
zip_at v root (r ∷ rs) [] route w h i e = absurd h
zip_at v root (r ∷ rs) (x ∷ xs) route w h (inl q) e = (0, sym h.0 ∙ ap (walked v root) q ∙ e)
zip_at v root (r ∷ rs) (x ∷ xs) route w h (inr i) e = let t : (k : ℕ) × (slice_get xs k ≡ Some w) = zip_at v root rs xs route w h.1 i e in (suc t.0, t.1)

-- the node at the end of a route is listed
listed : (v : View) (root : LongAd) (nodes : List NodeFields) → AreNodes v root nodes → (route : Route) (w : Walked) → walked v root route ≡ Some w → (i : ℕ) × (slice_get nodes i ≡ Some (node v w))
listed v root nodes are route w e = (t.0, ap (λ z. slice_get z t.0) are.is ∙ map_at (node v) are.walks t.0 w t.1)
  where
    t : (i : ℕ) × (slice_get are.walks i ≡ Some w)
    t = zip_at v root are.walk.routes are.walks route w are.walk.each (included are.walk.routes route (are.walk.all route (some_is (walked v root route) w e))) e

-- ---- what an address and its information control block lead to
sound_of : (v : View) (a : LongAd) → address_fault v a ≡ None → address_fault v (address_of (icb_of a)) ≡ None
sound_of v a e = go (is_no_reference v a) refl (is_none (v.place a.reference a.block)) refl
  where
    parts : (p q : Bool) → is_no_reference v a ≡ p → is_none (v.place a.reference a.block) ≡ q → first_fault ((p, Reference) ∷ (q, Range) ∷ []) ≡ None
    parts p q f g = (λ i. first_fault ((sym f i, Reference) ∷ (sym g i, Range) ∷ [])) ∙ e

    no_partition : (k l m : Bool) → ((k || l) || m) ≡ false → m ≡ false
    no_partition true l m f = absurd (let z : ⊥ = cc in z)
    no_partition false true m f = absurd (let z : ⊥ = cc in z)
    no_partition false false m f = f

    go : (p : Bool) → is_no_reference v a ≡ p → (q : Bool) → is_none (v.place a.reference a.block) ≡ q → address_fault v (address_of (icb_of a)) ≡ None
    go true f q g = absurd (let z : Some Reference ≡ None = parts true q f g in let w : ⊥ = cc in w)
    go false f true g = absurd (let z : Some Range ≡ None = parts false true f g in let w : ⊥ = cc in w)
    go false f false g = λ i. first_fault ((no_partition (not (a.kind == 0)) (a.length == 0) (nat_le v.partitions a.reference) f i, Reference) ∷ (g i, Range) ∷ [])

-- where it leads to no fault, both lead to the same
same_place : (v : View) (a : LongAd) (t : Target) → target v a ≡ t → ((f : NodeFault) → t ≢ bad f) → target v (address_of (icb_of a)) ≡ t
unfolding target
same_place v a t e h = go (address_fault v a) refl
  where
    go : (o : Option NodeFault) → address_fault v a ≡ o → target v (address_of (icb_of a)) ≡ t
    go (Some f) q = absurd (h f (sym e ∙ ap (λ o. target_at o a.block (block_at v a.reference a.block)) q))
    go None q = ap (λ o. target_at o a.block (block_at v a.reference a.block)) (sound_of v a q ∙ sym q) ∙ e

same_target : (v : View) (a : LongAd) (x : EntryFields) → target v a ≡ entry x → target v (address_of (icb_of a)) ≡ entry x
same_target v a x e = same_place v a (entry x) e (λ f q. let z : ⊥ = cc in z)

same_unread : (v : View) (a : LongAd) (n : ℕ) → target v a ≡ unread n → target v (address_of (icb_of a)) ≡ unread n
same_unread v a n e = same_place v a (unread n) e (λ f q. let z : ⊥ = cc in z)

-- ---- a directory without a fault goes on to what it lists
deep_faults : (p : Profile) (k : Kind) (b : Body) (d : DirEntry) → Includes (kind_entries p k b) d → ((f : NodeFault) → body_standing p k true b ≢ Fault f) → ⊥
deep_faults p Directory (faulty_body f) d i h = i
deep_faults p Directory (cells cs) d i h = go (fault_in (directory_by p cs).rest) refl (entries_by p cs) refl i
  where
    go : (o : Option NodeFault) → fault_in (directory_by p cs).rest ≡ o → (es : List DirEntry) → entries_by p cs ≡ es → Includes es d → ⊥
    go (Some f) e es q j = h f (ap (λ z. standing_or_fault z (depth_or true (entries_by p cs) (cells_standing cs))) e)
    go None e [] q j = j
    go None e (y ∷ ys) q j = h Depth (λ z. standing_or_fault (e z) (depth_or true (q z) (cells_standing cs)))
deep_faults p File b d i h = i
deep_faults p Link b d i h = i
deep_faults p (Other t) b d i h = i
deep_faults p Unread b d i h = i

opened : (v : View) (w : Walked) (d : DirEntry) → HasNoFault (node v w) → Includes (entries_at v (icb_of w.address)) d → entries_below v w ≡ entries_at v (icb_of w.address)
unfolding node entries_below entries_at
opened v w d clear i = by_target (target v w.address) refl
  where
    stands : (t : Target) → target v w.address ≡ t → (node v w).standing ≡ (node_at v w t).standing
    stands t e = ap (λ z. (node_at v w z).standing) e

    known : (x : EntryFields) → target v w.address ≡ entry x → entries_at v (icb_of w.address) ≡ kind_entries v.profile x.kind (body v w.address.reference w.address.block x)
    known x e = ap (target_entries v (address_of (icb_of w.address))) (same_target v w.address x e)

    by_flags : (x : EntryFields) → target v w.address ≡ entry x → (l k : Bool) → is_loop w ≡ l → is_deep w ≡ k → entries_below v w ≡ entries_at v (icb_of w.address)
    by_flags x e true k p q = absurd (clear.0 (stands (entry x) e ∙ ap (λ z. cond z Loop (body_standing v.profile x.kind (is_deep w) (body v w.address.reference w.address.block x))) p))
    by_flags x e false true p q = absurd (deep_faults v.profile x.kind (body v w.address.reference w.address.block x) d (subst (λ z. Includes z d) (known x e) i)
        (λ f g. clear.1 f (stands (entry x) e ∙ (λ z. cond (p z) Loop (body_standing v.profile x.kind (q z) (body v w.address.reference w.address.block x))) ∙ g)))
    by_flags x e false false p q = (λ z. cond (p z || q z) [] (target_entries v w.address (e z))) ∙ sym (known x e)

    by_target : (t : Target) → target v w.address ≡ t → entries_below v w ≡ entries_at v (icb_of w.address)
    by_target (bad f) e = absurd (clear.1 f (stands (bad f) e))
    by_target (unread n) e = absurd (subst (λ z. Includes z d) (ap (target_entries v (address_of (icb_of w.address))) (same_unread v w.address n e)) i)
    by_target (entry x) e = by_flags x e (is_loop w) (is_deep w) refl refl

named_one : (v : View) (d : DirEntry) (h : Icb) → named_by v d ≡ Some h → icb_of d.icb ≡ h
named_one v d h e = go (is_none (address_fault v d.icb)) e
  where
    go : (b : Bool) → cond b (Some (icb_of d.icb)) None ≡ Some h → icb_of d.icb ≡ h
    go true q = cc
    go false q = absurd (let z : ⊥ = cc in z)

-- ---- what names lead to
record IsReached (v : View) (root : LongAd) (g : Icb) : Type 0 where
  route : Route
  end : Walked
  walks : walked v root route ≡ Some end
  at : icb_of end.address ≡ g

reach : (v : View) (root : LongAd) (nodes : List NodeFields) → AreNodes v root nodes → ((i : ℕ) (n : NodeFields) → slice_get nodes i ≡ Some n → HasNoFault n) → (way : List Icb) (g : Icb) (route : Route) (w : Walked)
    → walked v root route ≡ Some w → LeadsBy v (icb_of w.address) way g → IsReached v root g
unfolding walked
reach v root nodes are clear [] g route w e l = record { route = route; end = w; walks = e; at = l }
reach v root nodes are clear (h ∷ way) g route w e l = reach v root nodes are clear way g (route ++ x.place ∷ []) (below w x.from)
    (step_at v (at_root root) route w x.place x.from e (ap (λ z. slice_get z x.place) goes ∙ x.at)) (subst (λ z. LeadsBy v z way g) (sym (named_one v x.from h x.gives)) l.1)
  where
    x : IsGiven (named_by v) (entries_at v (icb_of w.address)) h
    x = in_given (named_by v) (entries_at v (icb_of w.address)) h (included (names_at v (icb_of w.address)) h l.0)

    n : (i : ℕ) × (slice_get nodes i ≡ Some (node v w))
    n = listed v root nodes are route w e

    goes : entries_below v w ≡ entries_at v (icb_of w.address)
    goes = opened v w x.from (clear n.0 (node v w) n.1) (get_in (entries_at v (icb_of w.address)) x.place x.from x.at)

node_icb : (v : View) (w : Walked) → (node v w).icb ≡ w.address
unfolding node
node_icb v w = go (target v w.address)
  where
    go : (t : Target) → (node_at v w t).icb ≡ w.address
    go (bad f) = refl
    go (unread n) = refl
    go (entry x) = refl

-- where no node has a fault, what names lead to is a node
pub reached : (v : View) (icb : Icb) (nodes : List NodeFields) → AreNodes v (address_of icb) nodes → ((i : ℕ) (n : NodeFields) → slice_get nodes i ≡ Some n → HasNoFault n) → (g : Icb) → LeadsTo v icb g
    → (n : NodeFields) × Contains nodes n × (icb_of n.icb ≡ g)
unfolding walked
reached v icb nodes are clear g (way, l) = (node v r.end, contained nodes (node v r.end) (get_in nodes t.0 (node v r.end) t.1), ap icb_of (node_icb v r.end) ∙ r.at)
  where
    r : IsReached v (address_of icb) g
    r = reach v (address_of icb) nodes are clear way g [] (at_root (address_of icb)) refl l

    t : (i : ℕ) × (slice_get nodes i ≡ Some (node v r.end))
    t = listed v (address_of icb) nodes are r.route r.end r.walks
