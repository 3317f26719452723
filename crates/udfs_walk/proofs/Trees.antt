-- All that stands at the ends of routes, by the names that are left.
--     tree view w       what stands at w and below it, in the order of words
use Rattle.std.proofs.Common.{◌≡◌, refl, sym, ◌∙◌, ap, subst, inl, inr, ◌⊎◌, ℕ, ◌+◌, ◌-◌, ◌<◌, ◌≤◌, Bool, true, false, List, [], ◌∷◌, ◌++◌, length, map, cond, ◌||◌, arith, Option, Some, None, slice_get, nat_le, length-append}
use Rattle.std.specs.Prelude.{zero, suc, IsSome, flat_map}
use Rattle.std.specs.List.{AllZip}
use Rattle.std.proofs.lemmas.Bool.{leb-true, leb-false, le-leb}
use Rattle.udfs_lattice.proofs.Inclusion.{Includes, included, contained}
use Rattle.udfs_tag.specs.declared.layouts.LongAd.{LongAd}
use Rattle.udfs_space.specs.Places.{View}
use Rattle.udfs_file.specs.declared.directories.DirEntry.{DirEntry}
use Rattle.udfs_walk.specs.Targets.{target}
use Rattle.udfs_walk.specs.Routes.{Walked, at_root, below, is_loop, target_entries, entries_below, Route, walk_from, walked, IsBefore, IsWalk, HasMoreRoutes}
use Rattle.udfs_walk.proofs.RouteOrder.{AreOrdered, ordered, in_order, includes_left, includes_right, includes_either, ordered_append, includes_map, map_includes, ordered_map, same_routes, fewer_routes}

-- what stands at a place and below it, as far as so many names lead
pub down : ℕ → View → Walked → List Walked
down zero v w = w ∷ []
down (suc k) v w = w ∷ flat_map (λ e. down k v (below w e)) (entries_below v w)

-- 64 names are the most
unfoldable pub tree : View → Walked → List Walked
tree v w = down (64 - length w.path) v w

-- ---- one step
or_true : (a : Bool) → (a || true) ≡ true
or_true true = refl
or_true false = refl

-- nothing stands below 64 names
pub none_deep : (v : View) (w : Walked) → nat_le 64 (length w.path) ≡ true → entries_below v w ≡ []
unfolding entries_below
none_deep v w e = ap (λ b. cond (is_loop w || b) [] (target_entries v w.address (target v w.address))) e
    ∙ ap (λ b. cond b [] (target_entries v w.address (target v w.address))) (or_true (is_loop w))

one_more : (w : Walked) (e : DirEntry) → length (below w e).path ≡ length w.path + 1
one_more w e = length-append w.path (e.name ∷ [])

-- the place itself, and then all below each of its entries
pub tree-is : (v : View) (w : Walked) → tree v w ≡ w ∷ flat_map (λ e. tree v (below w e)) (entries_below v w)
unfolding tree down
tree-is v w = go (nat_le 64 (length w.path)) refl
  where
    go : (b : Bool) → nat_le 64 (length w.path) ≡ b → down (64 - length w.path) v w ≡ w ∷ flat_map (λ e. down (64 - length (below w e).path) v (below w e)) (entries_below v w)
    go true q =
        let h : 64 ≤ length w.path = leb-true 64 (length w.path) q in
        let z : 64 - length w.path ≡ 0 = omega (arith, h) in
        ap (λ k. down k v w) z ∙ sym (ap (λ es. w ∷ flat_map (λ e. down (64 - length (below w e).path) v (below w e)) es) (none_deep v w q))
    go false q =
        let h : length w.path < 64 = leb-false 64 (length w.path) q in
        let z : 64 - length w.path ≡ suc (63 - length w.path) = omega (arith, h) in
        let k : (e : DirEntry) → 63 - length w.path ≡ 64 - length (below w e).path = λ e. let m : length (below w e).path ≡ length w.path + 1 = one_more w e in omega (arith, h, m) in
        ap (λ k. down k v w) z ∙ (λ i. w ∷ flat_map (λ e. down (k e i) v (below w e)) (entries_below v w))

-- ---- routes
-- the routes that begin with an entry, where the first has this number
pub from_entries : ℕ → (DirEntry → List Route) → List DirEntry → List Route
from_entries j f [] = []
from_entries j f (e ∷ es) = map (λ r. j ∷ r) (f e) ++ from_entries (j + 1) f es

pub routes : ℕ → View → Walked → List Route
routes zero v w = [] ∷ []
routes (suc k) v w = [] ∷ from_entries 0 (λ e. routes k v (below w e)) (entries_below v w)

-- ---- each route leads to what stands at its place
step_on : (v : View) (w : Walked) (j : ℕ) (js : Route) (e : DirEntry) → slice_get (entries_below v w) j ≡ Some e → walk_from v w (j ∷ js) ≡ walk_from v (below w e) js
step_on v w j js e h = ap (λ o. elim o as (λ _. Option Walked) [ None ↦ None | Some d ↦ walk_from v (below w d) js ]) h

-- one step of a route
record Step (v : View) (w : Walked) (j : ℕ) (js : Route) (end : Walked) : Type 0 where
  entry : DirEntry
  at : slice_get (entries_below v w) j ≡ Some entry
  then : walk_from v (below w entry) js ≡ Some end

step_inv : (v : View) (w : Walked) (j : ℕ) (js : Route) (end : Walked) → walk_from v w (j ∷ js) ≡ Some end → Step v w j js end
step_inv v w j js end h = go (slice_get (entries_below v w) j) refl h
  where
    go : (o : Option DirEntry) → slice_get (entries_below v w) j ≡ o → (elim o as (λ _. Option Walked) [ None ↦ None | Some d ↦ walk_from v (below w d) js ]) ≡ Some end → Step v w j js end
    go None q s = absurd (let z : ⊥ = cc in z)
    go (Some d) q s = record { entry = d; at = q; then = s }

abbrev LeadTo : View → Walked → List Route → List Walked → Type 0
LeadTo v w rs ws = AllZip (λ r end. walk_from v w r ≡ Some end) rs ws

lead_append : (v : View) (w : Walked) (rs ss : List Route) (ws xs : List Walked) → LeadTo v w rs ws → LeadTo v w ss xs → LeadTo v w (rs ++ ss) (ws ++ xs)
lead_append v w [] ss [] xs p q = q
lead_append v w [] ss (y ∷ ws) xs p q = absurd p
lead_append v w (r ∷ rs) ss [] xs p q = absurd p
lead_append v w (r ∷ rs) ss (y ∷ ws) xs p q = (p.0, lead_append v w rs ss ws xs p.1 q)

lead_map : (v : View) (w : Walked) (j : ℕ) (e : DirEntry) (rs : List Route) (ws : List Walked) → slice_get (entries_below v w) j ≡ Some e
    → LeadTo v (below w e) rs ws → LeadTo v w (map (λ r. j ∷ r) rs) ws
lead_map v w j e [] [] h p = tt
lead_map v w j e [] (y ∷ ws) h p = absurd p
lead_map v w j e (r ∷ rs) [] h p = absurd p
lead_map v w j e (r ∷ rs) (y ∷ ws) h p = (step_on v w j r e h ∙ p.0, lead_map v w j e rs ws h p.1)

lead_entries : (k : ℕ) (v : View) (w : Walked) (j : ℕ) (es : List DirEntry) → ((i : ℕ) (e : DirEntry) → slice_get es i ≡ Some e → slice_get (entries_below v w) (j + i) ≡ Some e)
    → ((e : DirEntry) → LeadTo v (below w e) (routes k v (below w e)) (down k v (below w e)))
    → LeadTo v w (from_entries j (λ e. routes k v (below w e)) es) (flat_map (λ e. down k v (below w e)) es)
unfolding from_entries
lead_entries k v w j [] at ih = tt
lead_entries k v w j (e ∷ es) at ih = lead_append v w _ _ _ _
    (lead_map v w j e (routes k v (below w e)) (down k v (below w e)) (subst (λ n. slice_get (entries_below v w) n ≡ Some e) (let z : j + 0 ≡ j = omega arith in z) (at 0 e refl)) (ih e))
    (lead_entries k v w (j + 1) es (λ i d h. subst (λ n. slice_get (entries_below v w) n ≡ Some d) (let z : j + suc i ≡ j + 1 + i = omega arith in z) (at (suc i) d h)) ih)

lead_down : (k : ℕ) (v : View) (w : Walked) → LeadTo v w (routes k v w) (down k v w)
unfolding routes down
lead_down zero v w = (refl, tt)
lead_down (suc k) v w = (refl, lead_entries k v w 0 (entries_below v w) (λ i e h. subst (λ n. slice_get (entries_below v w) n ≡ Some e) (let z : i ≡ 0 + i = omega arith in z) h) (λ e. lead_down k v (below w e)))

-- ---- they stand in order
first_entry : (j : ℕ) (f : DirEntry → List Route) (es : List DirEntry) (s : Route) → Includes (from_entries j f es) s → (i : ℕ) × (t : Route) × (s ≡ i ∷ t) × (j ≤ i)
unfolding from_entries
first_entry j f [] s h = absurd h
first_entry j f (e ∷ es) s h = go (includes_either (map (λ r. j ∷ r) (f e)) (from_entries (j + 1) f es) s h) (λ i. first_entry (j + 1) f es s i)
  where
    go : Includes (map (λ r. j ∷ r) (f e)) s ⊎ Includes (from_entries (j + 1) f es) s
        → (Includes (from_entries (j + 1) f es) s → (i : ℕ) × (t : Route) × (s ≡ i ∷ t) × (j + 1 ≤ i)) → (i : ℕ) × (t : Route) × (s ≡ i ∷ t) × (j ≤ i)
    go (inl i) ih = let x = includes_map j (f e) s i in (j, x.0, x.1, omega arith)
    go (inr i) ih = let x = ih i in (x.0, x.1, x.2, let h = x.3 in omega (arith, h))

ordered_entries : (j : ℕ) (f : DirEntry → List Route) (es : List DirEntry) → ((e : DirEntry) → AreOrdered (f e)) → AreOrdered (from_entries j f es)
unfolding from_entries
ordered_entries j f [] h = tt
ordered_entries j f (e ∷ es) h = ordered_append (map (λ r. j ∷ r) (f e)) (from_entries (j + 1) f es) (ordered_map j (f e) (h e)) (ordered_entries (j + 1) f es h)
    (λ x y p q. go x y (includes_map j (f e) x p) (first_entry (j + 1) f es y q))
  where
    go : (x y : Route) → (t : Route) × (x ≡ j ∷ t) × Includes (f e) t → (i : ℕ) × (t : Route) × (y ≡ i ∷ t) × (j + 1 ≤ i) → IsBefore x y
    go x y p q = subst (λ z. IsBefore z y) (sym p.1) (subst (IsBefore (j ∷ p.0)) (sym q.2) (inl (let h = q.3 in omega (arith, h))))

ordered_routes : (k : ℕ) (v : View) (w : Walked) → AreOrdered (routes k v w)
unfolding routes
ordered_routes zero v w = (λ s i. absurd i, tt)
ordered_routes (suc k) v w = (λ s i. go s (first_entry 0 (λ e. routes k v (below w e)) (entries_below v w) s i), ordered_entries 0 (λ e. routes k v (below w e)) (entries_below v w) (λ e. ordered_routes k v (below w e)))
  where
    go : (s : Route) → (i : ℕ) × (t : Route) × (s ≡ i ∷ t) × (0 ≤ i) → IsBefore [] s
    go s x = subst (IsBefore []) (sym x.2) tt

-- ---- they are all
in_entries : (j : ℕ) (f : DirEntry → List Route) (es : List DirEntry) (i : ℕ) (e : DirEntry) (r : Route) → slice_get es i ≡ Some e → Includes (f e) r → Includes (from_entries j f es) ((j + i) ∷ r)
unfolding from_entries
in_entries j f [] i e r h p = absurd (let z : ⊥ = cc in z)
in_entries j f (d ∷ es) zero e r h p = let q : d ≡ e = cc in
    includes_left (map (λ r. j ∷ r) (f d)) (from_entries (j + 1) f es) ((j + 0) ∷ r)
    (subst (λ n. Includes (map (λ r. j ∷ r) (f d)) (n ∷ r)) (let z : j ≡ j + 0 = omega arith in z) (map_includes j (f d) r (subst (λ x. Includes (f x) r) (sym q) p)))
in_entries j f (d ∷ es) (suc i) e r h p = includes_right (map (λ r. j ∷ r) (f d)) (from_entries (j + 1) f es) ((j + suc i) ∷ r)
    (subst (λ n. Includes (from_entries (j + 1) f es) (n ∷ r)) (let z : j + 1 + i ≡ j + suc i = omega arith in z) (in_entries (j + 1) f es i e r h p))

all_routes : (k : ℕ) (v : View) (w : Walked) (r : Route) (end : Walked) → 64 ≤ k + length w.path → walk_from v w r ≡ Some end → Includes (routes k v w) r
unfolding routes
all_routes zero v w [] end h e = inl refl
all_routes (suc k) v w [] end h e = inl refl
all_routes zero v w (j ∷ js) end h e = absurd (
    let s = step_inv v w j js end e in
    let none : None ≡ Some s.entry = ap (λ es. slice_get es j) (sym (none_deep v w (le-leb 64 (length w.path) (omega (arith, h))))) ∙ s.at in
    let z : ⊥ = cc in z)
all_routes (suc k) v w (j ∷ js) end h e =
    let s = step_inv v w j js end e in
    let m : length (below w s.entry).path ≡ length w.path + 1 = one_more w s.entry in
    inr (subst (λ n. Includes (from_entries 0 (λ e. routes k v (below w e)) (entries_below v w)) (n ∷ js)) (let z : 0 + j ≡ j = omega arith in z)
    (in_entries 0 (λ e. routes k v (below w e)) (entries_below v w) j s.entry js s.at (all_routes k v (below w s.entry) js end (omega (arith, h, m)) s.then)))

-- ---- the walk
some_of : {A : Type 0} (o : Option A) → IsSome o → (x : A) × (o ≡ Some x)
some_of None h = absurd (let z : ⊥ = cc in z)
some_of (Some x) h = (x, refl)

is_some_of : {A : Type 0} (o : Option A) (x : A) → o ≡ Some x → IsSome o
is_some_of None x e = absurd (let z : ⊥ = cc in z)
is_some_of (Some y) x e = refl

pub tree_walk : (v : View) (root : LongAd) → IsWalk v root (tree v (at_root root))
unfolding tree walked
tree_walk v root = record {
  routes = routes 64 v (at_root root);
  in_order = in_order (routes 64 v (at_root root)) (ordered_routes 64 v (at_root root));
  all = λ r h. let x = some_of (walk_from v (at_root root) r) h in contained (routes 64 v (at_root root)) r (all_routes 64 v (at_root root) r x.0 (omega arith) x.1);
  each = lead_down 64 v (at_root root);
}

lead_one : (v : View) (w : Walked) (rs : List Route) (ws : List Walked) → LeadTo v w rs ws → (r : Route) → Includes rs r → IsSome (walk_from v w r)
lead_one v w [] ws p r i = absurd i
lead_one v w (s ∷ rs) [] p r i = absurd p
lead_one v w (s ∷ rs) (y ∷ ws) p r (inl e) = subst (λ z. IsSome (walk_from v w z)) e (is_some_of (walk_from v w s) y p.0)
lead_one v w (s ∷ rs) (y ∷ ws) p r (inr i) = lead_one v w rs ws p.1 r i

lead_length : (v : View) (w : Walked) (rs : List Route) (ws : List Walked) → LeadTo v w rs ws → length rs ≡ length ws
lead_length v w [] [] p = refl
lead_length v w [] (y ∷ ws) p = absurd p
lead_length v w (r ∷ rs) [] p = absurd p
lead_length v w (r ∷ rs) (y ∷ ws) p = ap suc (lead_length v w rs ws p.1)

pub tree_more : (v : View) (root : LongAd) (count : ℕ) → count < length (tree v (at_root root)) → HasMoreRoutes v root count
unfolding tree walked
tree_more v root count h = record {
  routes = routes 64 v (at_root root);
  in_order = in_order (routes 64 v (at_root root)) (ordered_routes 64 v (at_root root));
  lead = λ r i. lead_one v (at_root root) (routes 64 v (at_root root)) (down 64 v (at_root root)) (lead_down 64 v (at_root root)) r (included (routes 64 v (at_root root)) r i);
  more = let e : length (routes 64 v (at_root root)) ≡ length (down 64 v (at_root root)) = lead_length v (at_root root) (routes 64 v (at_root root)) (down 64 v (at_root root)) (lead_down 64 v (at_root root)) in
      subst (λ n. count < n) (sym e) h;
}

-- ---- only one walk
same_ends : (v : View) (w : Walked) (rs : List Route) (ws xs : List Walked) → LeadTo v w rs ws → LeadTo v w rs xs → ws ≡ xs
same_ends v w [] [] [] p q = refl
same_ends v w [] [] (x ∷ xs) p q = absurd q
same_ends v w [] (y ∷ ws) xs p q = absurd p
same_ends v w (r ∷ rs) [] xs p q = absurd p
same_ends v w (r ∷ rs) (y ∷ ws) [] p q = absurd q
same_ends v w (r ∷ rs) (y ∷ ws) (x ∷ xs) p q =
    let e : y ≡ x = (let t : Some y ≡ Some x = sym p.0 ∙ q.0 in cc) in
    let more : ws ≡ xs = same_ends v w rs ws xs p.1 q.1 in (λ i. e i ∷ more i)

pub only_walk : (v : View) (root : LongAd) (ws xs : List Walked) → IsWalk v root ws → IsWalk v root xs → ws ≡ xs
unfolding walked
only_walk v root ws xs p q =
    let e : p.routes ≡ q.routes = same_routes p.routes q.routes (ordered p.routes p.in_order) (ordered q.routes q.in_order)
    (λ n i. included q.routes n (q.all n (lead_one v (at_root root) p.routes ws p.each n i))) (λ n i. included p.routes n (p.all n (lead_one v (at_root root) q.routes xs q.each n i))) in
    same_ends v (at_root root) q.routes ws xs (subst (λ rs. LeadTo v (at_root root) rs ws) e p.each) q.each

pub not_more : (v : View) (root : LongAd) (ws : List Walked) (count : ℕ) → IsWalk v root ws → length ws ≤ count → HasMoreRoutes v root count → ⊥
unfolding walked
not_more v root ws count p h m =
    let few : length m.routes ≤ length p.routes = fewer_routes p.routes m.routes (ordered m.routes m.in_order) (ordered p.routes p.in_order) (λ n i. included p.routes n (p.all n (m.lead n (contained m.routes n i)))) in
    let same : length p.routes ≡ length ws = lead_length v (at_root root) p.routes ws p.each in
    let more = m.more in
    omega (arith, few, same, h, more)
