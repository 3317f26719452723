-- The trees of several roots, and the routes from all of them together.
use Rattle.std.proofs.Common.{◌≡◌, refl, sym, ◌∙◌, ap, subst, ℕ, ◌+◌, ◌-◌, ◌<◌, ◌≤◌, List, [], ◌∷◌, ◌++◌, length, map, take, arith, get_or, Err}
use Rattle.std.specs.Prelude.{zero, suc, sum_by, IsErrAnd, MatchResult, Result}
use Rattle.std.specs.List.{AllZip}
use Rattle.std.proofs.lemmas.List.{append-nil, length-map, map-append, take_more, take_all}
use Rattle.std.proofs.lemmas.List.Concat.{flat_map-append}
use Rattle.std.proofs.lemmas.List.Sums.{sum_by-cons, sum_by_push}
use Rattle.std.proofs.lemmas.Result.{err_from_is_err_and}
use Rattle.udfs_lattice.proofs.Inclusion.{included}
use Rattle.udfs_space.specs.Places.{View}
use Rattle.udfs_walk.specs.Bare.{full_node}
use Rattle.udfs_walk.specs.Counting.{KeepsCount, icb_key}
use Rattle.udfs_walk.specs.Forests.{AreRoutesFrom, HaveMoreRoutes, IsForest, IsForestRefused, IsTree, IsUnsettledForest, IsUnsettledTree, keys_in}
use Rattle.udfs_walk.specs.GivingUp.{IfTold}
use Rattle.udfs_walk.specs.NodeFields.{NodeFields}
use Rattle.udfs_walk.specs.Routes.{HasMoreRoutes, Route}
use Rattle.udfs_walk.specs.Targets.{Icb}
use Rattle.udfs_walk.specs.UnnamedEntries.{address_of}
use Rattle.udfs_walk.specs.Unsettled.{AreUnsettled, settled}
use Rattle.udfs_walk.specs.Walks.{IsNodesRefused}
use Rattle.udfs_walk.specs.declared.answers.NodesGaveUp.{NodesGaveUp}
use Rattle.udfs_walk.specs.declared.answers.NodesGaveUp.TheVariants.{TooManyPaths, OutOfMemory, Unread}
use Rattle.udfs_walk.specs.declared.memos.Memo.{Memo}
use Rattle.udfs_walk.proofs.CountLemmas.{counted_both}
use Rattle.udfs_walk.proofs.PublicLaws.{more_routes}
use Rattle.udfs_walk.proofs.SettleLemmas.{are_settled, settled_keys}

-- how many nodes there are in all
abbrev count_in : List (List NodeFields) → ℕ
count_in trees = sum_by length trees

-- ---- one tree more
zip_snoc : {A B : Type 0} (R : A → B → Type 0) (xs : List A) (ys : List B) (x : A) (y : B) → AllZip R xs ys → R x y → AllZip R (xs ++ x ∷ []) (ys ++ y ∷ [])
zip_snoc R [] [] x y h r = (r, tt)
zip_snoc R [] (z ∷ ys) x y h r = absurd h
zip_snoc R (w ∷ xs) [] x y h r = absurd h
zip_snoc R (w ∷ xs) (z ∷ ys) x y h r = (h.0, zip_snoc R xs ys x y h.1 r)

no_trees : (v : View) (roots : List Icb) (trees : List (List NodeFields)) → trees ≡ [] → AllZip (IsUnsettledTree v) (take 0 roots) trees
no_trees v [] trees e = subst (AllZip (IsUnsettledTree v) []) (sym e) tt
no_trees v (root ∷ roots) trees e = subst (AllZip (IsUnsettledTree v) []) (sym e) tt

-- the trees of the first roots, and the room that they leave
pub record AreGrowing (v : View) (roots : List Icb) (i : ℕ) (room : ℕ) (trees : List (List NodeFields)) : Type 0 where
  pub each : AllZip (IsUnsettledTree v) (take i roots) trees
  pub count : room + count_in trees ≡ 65536

pub growing_none : (v : View) (roots : List Icb) (trees : List (List NodeFields)) → trees ≡ [] → AreGrowing v roots 0 65536 trees
growing_none v roots trees e = record { each = no_trees v roots trees e; count = (let z : count_in trees ≡ 0 = ap count_in e in omega (arith, z)) }

pub growing_more : (v : View) (roots : List Icb) (i room less : ℕ) (trees more : List (List NodeFields)) (d : Icb) (t : List NodeFields) → i < length roots → IsUnsettledTree v (get_or roots i d) t
    → length t ≤ room → less ≡ room - length t → more ≡ trees ++ t ∷ [] → AreGrowing v roots i room trees → AreGrowing v roots (i + 1) less more
growing_more v roots i room less trees more d t h is fits l m g = record {
  each = subst (λ z. AllZip (IsUnsettledTree v) z more) (sym (take_more roots i d h))
      (subst (AllZip (IsUnsettledTree v) (take i roots ++ get_or roots i d ∷ [])) (sym m) (zip_snoc (IsUnsettledTree v) (take i roots) trees (get_or roots i d) t g.each is));
  count = (let a : count_in more ≡ count_in trees + length t = ap count_in m ∙ sum_by_push length trees t in let b : room + count_in trees ≡ 65536 = g.count in omega (arith, a, b, fits, l));
}

pub growing_done : (v : View) (roots : List Icb) (i room : ℕ) (trees : List (List NodeFields)) → length roots ≤ i → AreGrowing v roots i room trees → IsUnsettledForest v roots trees
growing_done v roots i room trees h g = record {
  each = subst (λ z. AllZip (IsUnsettledTree v) z trees) (take_all i roots h) g.each;
  few = (let b : room + count_in trees ≡ 65536 = g.count in omega (arith, b));
}

-- ---- routes from all roots
no_routes : (v : View) (root : Icb) → AreRoutesFrom v root []
no_routes v root = record { in_order = tt; lead = λ r c. absurd (included [] r c) }

-- at least as many routes lead on as there are nodes
record HasRoutes (v : View) (root : Icb) (count : ℕ) : Type 0 where
  routes : List Route
  from : AreRoutesFrom v root routes
  many : count ≤ length routes

routes_of : (v : View) (root : Icb) (nodes : List NodeFields) → AreUnsettled v (address_of root) nodes → HasRoutes v root (length nodes)
routes_of v root nodes are = go (length are.walks) refl
  where
    same : length nodes ≡ length are.walks
    same = ap length are.is ∙ length-map are.walks _

    go : (n : ℕ) → length are.walks ≡ n → HasRoutes v root (length nodes)
    go zero e = record { routes = []; from = no_routes v root; many = omega (arith, e, same) }
    go (suc n) e = let x : HasMoreRoutes v (address_of root) n = more_routes v (address_of root) are.walks n are.walk (omega (arith, e)) in
        record { routes = x.routes; from = record { in_order = x.in_order; lead = x.lead }; many = (let m : n < length x.routes = x.more in omega (arith, m, e, same)) }

-- routes from each of the roots, this many together
record HaveRoutes (v : View) (roots : List Icb) (count : ℕ) : Type 0 where
  routes : List (List Route)
  each : AllZip (AreRoutesFrom v) roots routes
  many : count ≤ sum_by length routes

some_routes : (v : View) (roots : List Icb) → HaveRoutes v roots 0
some_routes v [] = record { routes = []; each = tt; many = omega arith }
some_routes v (root ∷ roots) = let x : HaveRoutes v roots 0 = some_routes v roots in record { routes = [] ∷ x.routes; each = (no_routes v root, x.each); many = omega arith }

with_routes : (v : View) (root : Icb) (roots : List Icb) (count more : ℕ) → HasRoutes v root count → HaveRoutes v roots more → HaveRoutes v (root ∷ roots) (count + more)
with_routes v root roots count more x y = record {
  routes = x.routes ∷ y.routes;
  each = (x.from, y.each);
  many = (let a : sum_by length (x.routes ∷ y.routes) ≡ length x.routes + sum_by length y.routes = sum_by-cons length x.routes y.routes in let b : count ≤ length x.routes = x.many in let c : more ≤ sum_by length y.routes = y.many in omega (arith, a, b, c));
}

-- those of the trees so far, and of the next root
up_to : (v : View) (roots : List Icb) (i : ℕ) (d : Icb) (trees : List (List NodeFields)) (count : ℕ) → i < length roots → AllZip (IsUnsettledTree v) (take i roots) trees → HasRoutes v (get_or roots i d) count
    → HaveRoutes v roots (count_in trees + count)
up_to v [] i d trees count h z x = absurd (let w : ⊥ = omega (arith, h) in w)
up_to v (root ∷ roots) zero d [] count h z x = subst (HaveRoutes v (root ∷ roots)) (let e : count + 0 ≡ count_in [] + count = omega arith in e) (with_routes v root roots count 0 x (some_routes v roots))
up_to v (root ∷ roots) zero d (t ∷ trees) count h z x = absurd z
up_to v (root ∷ roots) (suc i) d [] count h z x = absurd z
up_to v (root ∷ roots) (suc i) d (t ∷ trees) count h z x = subst (HaveRoutes v (root ∷ roots))
    (let a : count_in (t ∷ trees) ≡ length t + count_in trees = sum_by-cons length t trees in
    let e : length t + (count_in trees + count) ≡ count_in (t ∷ trees) + count = omega (arith, a) in e)
    (with_routes v root roots (length t) (count_in trees + count) (routes_of v root t z.0) (up_to v roots i d trees count (omega (arith, h)) z.1 x))

refused_with : (v : View) (roots : List Icb) (i room : ℕ) (d : Icb) (trees : List (List NodeFields)) (count : ℕ) → i < length roots → AreGrowing v roots i room trees → room < count → HasRoutes v (get_or roots i d) count
    → HaveMoreRoutes v roots 65536
refused_with v roots i room d trees count h g over x = let y : HaveRoutes v roots (count_in trees + count) = up_to v roots i d trees count h g.each x in
    record { routes = y.routes; each = y.each; more = (let a : room + count_in trees ≡ 65536 = g.count in let b : count_in trees + count ≤ sum_by length y.routes = y.many in omega (arith, a, b, over)) }

-- there is no room for the nodes of the next root
pub no_room : (v : View) (roots : List Icb) (i room : ℕ) (d : Icb) (trees : List (List NodeFields)) (nodes : List NodeFields) → i < length roots → AreGrowing v roots i room trees
    → IsUnsettledTree v (get_or roots i d) nodes → room < length nodes → HaveMoreRoutes v roots 65536
no_room v roots i room d trees nodes h g are over = refused_with v roots i room d trees (length nodes) h g over (routes_of v (get_or roots i d) nodes are)

-- the walk from the next root was refused
pub tree_refused : {A : Type 0} (v : View) (roots : List Icb) (i room : ℕ) (d : Icb) (trees : List (List NodeFields)) (P : A → Type 0) (r : Result A NodesGaveUp) (error : NodesGaveUp) → IsErrAnd r (λ e. e ≡ error)
    → i < length roots → AreGrowing v roots i room trees → IfTold (IsNodesRefused v (address_of (get_or roots i d))) error → MatchResult r P (IfTold (IsForestRefused v roots))
tree_refused v roots i room d trees P r error h lt g told = let x = err_from_is_err_and r h in subst (λ r. MatchResult r P (IfTold (IsForestRefused v roots))) (sym (x.1 ∙ ap Err x.2)) (go error told)
  where
    go : (e : NodesGaveUp) → IfTold (IsNodesRefused v (address_of (get_or roots i d))) e → IfTold (IsForestRefused v roots) e
    go TooManyPaths x = refused_with v roots i room d trees (length x.routes) lt g
        (let a : room + count_in trees ≡ 65536 = g.count in let b : 65536 < length x.routes = x.more in omega (arith, a, b))
        (record { routes = x.routes; from = record { in_order = x.in_order; lead = x.lead }; many = omega arith })
    go OutOfMemory x = tt
    go Unread x = tt

-- ---- the trees, settled
fused : {A B C : Type 0} (f : A → B) (g : B → C) (xs : List A) → map g (map f xs) ≡ map (λ x. g (f x)) xs
fused f g [] = refl
fused f g (x ∷ xs) = ap (λ ys. g (f x) ∷ ys) (fused f g xs)

settled_each : (v : View) (roots : List Icb) (trees : List (List NodeFields)) → AllZip (IsUnsettledTree v) roots trees
    → AllZip (IsTree v) roots (map (λ (t : List NodeFields). map (full_node v) (map (settled v) t)) trees)
settled_each v [] [] z = tt
settled_each v [] (t ∷ trees) z = absurd z
settled_each v (root ∷ roots) [] z = absurd z
settled_each v (root ∷ roots) (t ∷ trees) z = (are_settled v (address_of root) t (map (settled v) t) z.0 refl, settled_each v roots trees z.1)

as_many : (v : View) (trees : List (List NodeFields)) → count_in (map (λ (t : List NodeFields). map (full_node v) (map (settled v) t)) trees) ≡ count_in trees
as_many v [] = refl
as_many v (t ∷ trees) =
    let a : count_in (map (full_node v) (map (settled v) t) ∷ map (λ (t : List NodeFields). map (full_node v) (map (settled v) t)) trees)
    ≡ length (map (full_node v) (map (settled v) t)) + count_in (map (λ (t : List NodeFields). map (full_node v) (map (settled v) t)) trees)
    = sum_by-cons length (map (full_node v) (map (settled v) t)) (map (λ (t : List NodeFields). map (full_node v) (map (settled v) t)) trees) in
    let b : length (map (full_node v) (map (settled v) t)) ≡ length t = length-map (map (settled v) t) (full_node v) ∙ length-map t (settled v) in
    let c : count_in (t ∷ trees) ≡ length t + count_in trees = sum_by-cons length t trees in
    let d : count_in (map (λ (t : List NodeFields). map (full_node v) (map (settled v) t)) trees) ≡ count_in trees = as_many v trees in
    let e : count_in (map (full_node v) (map (settled v) t) ∷ map (λ (t : List NodeFields). map (full_node v) (map (settled v) t)) trees) ≡ count_in (t ∷ trees) = omega (arith, a, b, c, d) in e

-- whatever holds the nodes of a tree
module _ {T : Type 0} (items : T → List NodeFields) where
  pub forest_settled : (v : View) (roots : List Icb) (found trees : List T) → IsUnsettledForest v roots (map items found) → map items trees ≡ map (λ t. map (settled v) (items t)) found
      → IsForest v roots (map (λ t. map (full_node v) (items t)) trees)
  forest_settled v roots found trees u e =
      let is : map (λ (t : List NodeFields). map (full_node v) (map (settled v) t)) (map items found) ≡ map (λ t. map (full_node v) (items t)) trees
      = sym (fused (map (settled v)) (map (full_node v)) (map items found)) ∙ ap (map (map (full_node v))) (fused items (map (settled v)) found ∙ sym e) ∙ fused items (map (full_node v)) trees in
      record {
        each = subst (AllZip (IsTree v) roots) is (settled_each v roots (map items found) u.each);
        few = (let a : count_in (map (λ (t : List NodeFields). map (full_node v) (map (settled v) t)) (map items found)) ≡ count_in (map items found) = as_many v (map items found) in
            let b : count_in (map (λ (t : List NodeFields). map (full_node v) (map (settled v) t)) (map items found)) ≡ count_in (map (λ t. map (full_node v) (items t)) trees) = ap count_in is in
            let c : count_in (map items found) ≤ 65536 = u.few in omega (arith, a, b, c));
      }

  -- those that were settled, and one more
  pub trees_more : (v : View) (found : List T) (t : T) (before after : List (List NodeFields)) (tree : List NodeFields) → before ≡ map (λ x. map (settled v) (items x)) found → tree ≡ map (settled v) (items t)
      → after ≡ before ++ tree ∷ [] → after ≡ map (λ x. map (settled v) (items x)) (found ++ t ∷ [])
  trees_more v found t before after tree b is a = a ∙ (λ i. b i ++ is i ∷ []) ∙ sym (map-append (λ x. map (settled v) (items x)) found (t ∷ []))

  -- their information control blocks stay
  keys_stay : (v : View) (found : List T) → keys_in (map (λ t. map (settled v) (items t)) found) ≡ keys_in (map items found)
  keys_stay v [] = refl
  keys_stay v (t ∷ found) = λ i. settled_keys v (items t) i ++ keys_stay v found i

  pub forest_keys : (v : View) (found trees : List T) → map items trees ≡ map (λ t. map (settled v) (items t)) found → keys_in (map items trees) ≡ keys_in (map items found)
  forest_keys v found trees e = ap keys_in e ∙ keys_stay v found

-- ---- the information control blocks of one tree more
keys_more : (trees more : List (List NodeFields)) (t : List NodeFields) → more ≡ trees ++ t ∷ [] → keys_in more ≡ keys_in trees ++ map icb_key t
keys_more trees more t e = ap keys_in e ∙ flat_map-append (map icb_key) trees (t ∷ []) ∙ ap (λ ks. keys_in trees ++ ks) (append-nil (map icb_key t))

pub counted_tree : (trees more : List (List NodeFields)) (t : List NodeFields) (first old new : Memo) (begun before after : ℕ) → more ≡ trees ++ t ∷ []
    → KeepsCount (keys_in trees) first begun old before → KeepsCount (map icb_key t) old before new after → KeepsCount (keys_in more) first begun new after
counted_tree trees more t first old new begun before after e p q = counted_both (keys_in trees) (map icb_key t) (keys_in more) first old new begun before after (keys_more trees more t e) p q

-- the same where the tree was settled meanwhile
pub counted_settled : (v : View) (trees more : List (List NodeFields)) (found t : List NodeFields) (first old new : Memo) (begun before after : ℕ) → more ≡ trees ++ t ∷ [] → t ≡ map (settled v) found
    → KeepsCount (keys_in trees) first begun old before → KeepsCount (map icb_key found) old before new after → KeepsCount (keys_in more) first begun new after
counted_settled v trees more found t first old new begun before after e is p q = counted_tree trees more t first old new begun before after e p
    (subst (λ ks. KeepsCount ks old before new after) (sym (ap (map icb_key) is ∙ settled_keys v found)) q)
