-- Nodes in a list of all nodes: each stands at the end of one route.
use Rattle.std.proofs.Common.{◌≡◌, refl, sym, ◌∙◌, ap, subst, ℕ, List, [], ◌∷◌, map, Option, Some, None, slice_get}
use Rattle.std.specs.Prelude.{zero, suc, IsSome}
use Rattle.std.specs.List.{AllZip}
use Rattle.udfs_lattice.proofs.Inclusion.{included}
use Rattle.udfs_tag.specs.declared.layouts.LongAd.{LongAd}
use Rattle.udfs_space.specs.Places.{View}
use Rattle.udfs_walk.specs.NodeFields.{NodeFields}
use Rattle.udfs_walk.specs.Nodes.{node_at, node}
use Rattle.udfs_walk.specs.Routes.{Route, Walked, walked}
use Rattle.udfs_walk.specs.Targets.{Target, bad, unread, entry, target}
use Rattle.udfs_walk.specs.Walks.{AreNodes}
use Rattle.udfs_walk.proofs.WholeRoutes.{includes_get}

pub map_get : {A B : Type 0} (f : A → B) (xs : List A) (k : ℕ) (y : B) → slice_get (map f xs) k ≡ Some y → (x : A) × (slice_get xs k ≡ Some x) × (y ≡ f x)
map_get f [] k y e = absurd (let z : ⊥ = cc in z)
map_get f (x ∷ xs) zero y e = (x, refl, cc)
map_get f (x ∷ xs) (suc k) y e = map_get f xs k y e

pub get_map : {A B : Type 0} (f : A → B) (xs : List A) (k : ℕ) (x : A) → slice_get xs k ≡ Some x → slice_get (map f xs) k ≡ Some (f x)
get_map f [] k x e = absurd (let z : ⊥ = cc in z)
get_map f (y ∷ xs) zero x e = (let q : y ≡ x = cc in ap (λ z. Some (f z)) q)
get_map f (y ∷ xs) (suc k) x e = get_map f xs k x e

pub zip_get : {A B : Type 0} (P : A → B → Type 0) (xs : List A) (ys : List B) (k : ℕ) (y : B) → AllZip P xs ys → slice_get ys k ≡ Some y → (x : A) × (slice_get xs k ≡ Some x) × P x y
zip_get P [] [] k y h e = absurd (let z : ⊥ = cc in z)
zip_get P [] (z ∷ ys) k y h e = absurd h
zip_get P (x ∷ xs) [] k y h e = absurd h
zip_get P (x ∷ xs) (z ∷ ys) zero y h e = (x, refl, subst (P x) (let q : z ≡ y = cc in q) h.0)
zip_get P (x ∷ xs) (z ∷ ys) (suc k) y h e = zip_get P xs ys k y h.1 e

pub get_zip : {A B : Type 0} (P : A → B → Type 0) (xs : List A) (ys : List B) (k : ℕ) (x : A) → AllZip P xs ys → slice_get xs k ≡ Some x → (y : B) × (slice_get ys k ≡ Some y) × P x y
get_zip P [] [] k x h e = absurd (let z : ⊥ = cc in z)
get_zip P [] (z ∷ ys) k x h e = absurd h
get_zip P (w ∷ xs) [] k x h e = absurd h
get_zip P (w ∷ xs) (z ∷ ys) zero x h e = (z, refl, subst (λ u. P u z) (let q : w ≡ x = cc in q) h.0)
get_zip P (w ∷ xs) (z ∷ ys) (suc k) x h e = get_zip P xs ys k x h.1 e

-- the path of a node is the names read on the way
pub path_is : (v : View) (w : Walked) → (node v w).path ≡ w.path
unfolding node
path_is v w = go (target v w.address)
  where
    go : (t : Target) → (node_at v w t).path ≡ w.path
    go (bad f) = refl
    go (unread n) = refl
    go (entry e) = refl

-- the route to a node of the list
pub record Stands (v : View) (root : LongAd) (nodes : List NodeFields) (all : AreNodes v root nodes) (index : ℕ) (n : NodeFields) : Type 0 where
  pub route : Route
  pub end : Walked
  pub routed : slice_get all.walk.routes index ≡ Some route
  pub at : slice_get all.walks index ≡ Some end
  pub walks : walked v root route ≡ Some end
  pub is : n ≡ node v end

pub stands : (v : View) (root : LongAd) (nodes : List NodeFields) (all : AreNodes v root nodes) (index : ℕ) (n : NodeFields) → slice_get nodes index ≡ Some n → Stands v root nodes all index n
stands v root nodes all index n e = record { route = r.0; end = x.0; routed = r.1; at = x.1; walks = r.2; is = x.2 }
  where
    x : (w : Walked) × (slice_get all.walks index ≡ Some w) × (n ≡ node v w)
    x = map_get (node v) all.walks index n (ap (λ z. slice_get z index) (sym all.is) ∙ e)

    r : (route : Route) × (slice_get all.walk.routes index ≡ Some route) × (walked v root route ≡ Some x.0)
    r = zip_get (λ route w. walked v root route ≡ Some w) all.walk.routes all.walks index x.0 all.walk.each x.1

-- the place of a route's end in the list
pub record Placed (v : View) (root : LongAd) (nodes : List NodeFields) (all : AreNodes v root nodes) (end : Walked) : Type 0 where
  pub index : ℕ
  pub at : slice_get all.walks index ≡ Some end
  pub listed : slice_get nodes index ≡ Some (node v end)

is_some_of : {A : Type 0} (o : Option A) (x : A) → o ≡ Some x → IsSome o
is_some_of None x e = absurd (let z : ⊥ = cc in z)
is_some_of (Some y) x e = refl

pub placed : (v : View) (root : LongAd) (nodes : List NodeFields) (all : AreNodes v root nodes) (route : Route) (end : Walked) → walked v root route ≡ Some end → Placed v root nodes all end
placed v root nodes all route end e = record { index = i.0; at = at; listed = ap (λ z. slice_get z i.0) all.is ∙ get_map (node v) all.walks i.0 end at }
  where
    i : (k : ℕ) × (slice_get all.walk.routes k ≡ Some route)
    i = includes_get all.walk.routes route (included all.walk.routes route (all.walk.all route (is_some_of (walked v root route) end e)))

    x : (w : Walked) × (slice_get all.walks i.0 ≡ Some w) × (walked v root route ≡ Some w)
    x = get_zip (λ route w. walked v root route ≡ Some w) all.walk.routes all.walks i.0 route all.walk.each i.1

    at : slice_get all.walks i.0 ≡ Some end
    at = x.1 ∙ sym x.2 ∙ e
