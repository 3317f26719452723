-- Nodes in their order, each with those behind it; and the last name of a path.
use Rattle.std.proofs.Common.{◌≡◌, ◌∙◌, refl, sym, ap, subst, arith, ℕ, ◌+◌, ◌-◌, ◌<◌, List, [], ◌∷◌, length, map, drop, take, get_or, Some}
use Rattle.std.specs.Prelude.{zero, suc, flat_map, slice_get}
use Rattle.std.proofs.lemmas.List.{length-map}
use Rattle.std.proofs.Math.Seq.{take-length}
use Rattle.udfs_space.specs.Places.{View}
use Rattle.udfs_walk.specs.Bare.{full_node}
use Rattle.udfs_walk.specs.NodeBodies.{has_tail}
use Rattle.udfs_walk.specs.NodeFields.{NodeFields}
use Rattle.udfs_overview.specs.SafeNames.{safe_name}
use Rattle.udfs_page.proofs.InsideLemmas.{inside_same}
use Rattle.udfs_page.specs.Trees.{first_depth, node_html, node_in, nodes_html, own_name, with_rest}

-- each node is there with those behind it
with_rest_length : (ns : List NodeFields) → length (with_rest ns) ≡ length ns
with_rest_length [] = refl
with_rest_length (n ∷ ns) = ap suc (with_rest_length ns)

with_rest_at : (ns : List NodeFields) (i : ℕ) (n : NodeFields) (d : NodeFields × List NodeFields) → i < length ns → n ≡ get_or ns i n → (n, drop (i + 1) ns) ≡ get_or (with_rest ns) i d
with_rest_at [] i n d h e = absurd (let z : ⊥ = omega (arith, h) in z)
with_rest_at (m ∷ ms) zero n d h e = ap (λ k. (k, ms)) e
with_rest_at (m ∷ ms) (suc i) n d h e =
    let k : suc i + 1 ≡ suc (i + 1) = omega arith in
    ap (λ j. (n, drop j (m ∷ ms))) k ∙ with_rest_at ms i n d (omega (arith, h)) e

-- what a node lacks does not change its depth
full_depth : (v : View) (ns : List NodeFields) → first_depth ns ≡ first_depth (map (full_node v) ns)
full_depth v [] = refl
full_depth v (n ∷ ns) = refl

full_at : (v : View) (ns : List NodeFields) (i : ℕ) (n : NodeFields) → i < length ns → n ≡ get_or ns i n → full_node v n ≡ get_or (map (full_node v) ns) i (full_node v n)
full_at v [] i n h e = absurd (let z : ⊥ = omega (arith, h) in z)
full_at v (m ∷ ms) zero n h e = ap (full_node v) e
full_at v (m ∷ ms) (suc i) n h e = full_at v ms i n (omega (arith, h)) e

drop_full : (v : View) (k : ℕ) (ns : List NodeFields) → map (full_node v) (drop k ns) ≡ drop k (map (full_node v) ns)
drop_full v zero ns = refl
drop_full v (suc k) [] = refl
drop_full v (suc k) (n ∷ ns) = drop_full v k ns

-- the nodes so far
abbrev pub nodes_so_far : View → List NodeFields → ℕ → List ℕ
nodes_so_far v ns i = flat_map (node_in v) (take i (with_rest (map (full_node v) ns)))

-- there is one at each place of a node
pub rest_within : (v : View) (ns : List NodeFields) (i : ℕ) → i < length ns → i < length (with_rest (map (full_node v) ns))
rest_within v ns i h =
    let size : length (with_rest (map (full_node v) ns)) ≡ length ns = with_rest_length (map (full_node v) ns) ∙ length-map ns (full_node v) in
    omega (arith, h, size)

-- and it is that node, with those behind it
pub node_at : (v : View) (ns : List NodeFields) (i : ℕ) (n : NodeFields) (d : NodeFields × List NodeFields) → i < length ns → n ≡ get_or ns i n
    → (full_node v n, drop (i + 1) (map (full_node v) ns)) ≡ get_or (with_rest (map (full_node v) ns)) i d
node_at v ns i n d h is =
    let fulls = map (full_node v) ns in
    let size : length fulls ≡ length ns = length-map ns (full_node v) in
    with_rest_at fulls i (full_node v n) d (omega (arith, h, size)) (full_at v ns i n h is)

-- its text is the same by those behind it without what they lack
pub node_same : (v : View) (ns : List NodeFields) (i : ℕ) (n : NodeFields) (rest : List NodeFields) → rest ≡ drop (i + 1) ns
    → node_in v (full_node v n, rest) ≡ node_in v (full_node v n, drop (i + 1) (map (full_node v) ns))
node_same v ns i n rest is =
    (λ j. node_html (has_tail v n.icb) (full_node v n) (full_depth v rest j) (inside_same v (length n.path) rest j))
    ∙ ap (λ l. node_in v (full_node v n, l)) (ap (map (full_node v)) is ∙ drop_full v (i + 1) ns)

-- all nodes
pub all_nodes : (v : View) (ns : List NodeFields) → nodes_so_far v ns (length ns) ≡ nodes_html v (map (full_node v) ns)
unfolding nodes_html
all_nodes v ns =
    let fulls = map (full_node v) ns in
    let size : length (with_rest fulls) ≡ length ns = with_rest_length fulls ∙ length-map ns (full_node v) in
    ap (flat_map (node_in v)) (ap (λ k. take k (with_rest fulls)) (sym size) ∙ take-length (with_rest fulls))

-- the last name of a path is its own
pub own_last : (path : List (List ℕ)) (name : List ℕ) → slice_get path (length path - 1) ≡ Some name → own_name path ≡ safe_name name
own_last [] name e = absurd (let z : ⊥ = cc in z)
own_last (x ∷ []) name e = let same : x ≡ name = cc in ap safe_name same
own_last (x ∷ y ∷ ys) name e =
    let k : length (x ∷ y ∷ ys) - 1 ≡ suc (length (y ∷ ys) - 1) = omega arith in
    own_last (y ∷ ys) name (subst (λ j. slice_get (x ∷ y ∷ ys) j ≡ Some name) k e)
