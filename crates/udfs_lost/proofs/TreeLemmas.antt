-- The trees of lost folders, of the nodes that are found from all of them together.
use Rattle.std.proofs.Common.{◌≡◌, refl, sym, ◌∙◌, ap, subst, ◌+◌, ◌<◌, ◌≤◌, List, [], ◌∷◌, ◌++◌, length, map, take, arith, get_or}
use Rattle.std.specs.Prelude.{sum_by}
use Rattle.std.specs.List.{AllZip}
use Rattle.std.specs.declared.alloc.Global.{Global}
use Rattle.std.specs.declared.vec.Vec.{Vec}
use Rattle.std.proofs.lemmas.List.{length-append, length-map, map-append, take_more, take_all}
use Rattle.std.proofs.lemmas.List.Sums.{sum_by-cons}
use Rattle.udfs_space.specs.Places.{View}
use Rattle.udfs_walk.specs.Bare.{full_node}
use Rattle.udfs_walk.specs.Forests.{IsForest, IsForestRefused, IsTree}
use Rattle.udfs_walk.specs.NodeFields.{NodeFields}
use Rattle.udfs_walk.specs.Targets.{Icb}
use Rattle.udfs_walk.specs.declared.answers.NodesError.{NodesError}
use Rattle.udfs_walk.specs.declared.answers.NodesError.TheVariants.{TooManyPaths, OutOfMemory}
use Rattle.udfs_lost.specs.LostTrees.{AreLostTrees, AreOf, IsLostTree, IsTreesRefused, count_nodes}
use Rattle.udfs_lost.specs.declared.trees.LostTree.{LostTree}

-- ---- the trees so far
-- the first of the folders, and the first of the nodes
pub record AreFirst (folders : List Icb) (forest left : List (Vec NodeFields Global)) (trees : List LostTree) : Type 0 where
  pub folders_are : map (λ (t : LostTree). t.folder) trees ≡ take (length trees) folders
  pub nodes_are : map (λ (t : LostTree). t.nodes) trees ++ left ≡ forest

no_trees : (folders : List Icb) → [] ≡ take 0 folders
no_trees [] = refl
no_trees (f ∷ folders) = refl

pub first_none : (folders : List Icb) (forest left : List (Vec NodeFields Global)) (trees : List LostTree) → trees ≡ [] → left ≡ forest → AreFirst folders forest left trees
first_none folders forest left trees e l = record {
  folders_are = ap (map (λ (t : LostTree). t.folder)) e ∙ no_trees folders ∙ ap (λ (ts : List LostTree). take (length ts) folders) (sym e);
  nodes_are = (λ i. map (λ (t : LostTree). t.nodes) (e i) ++ l i);
}

pub first_more : (folders : List Icb) (forest left less : List (Vec NodeFields Global)) (trees more : List LostTree) (d f : Icb) (nodes : Vec NodeFields Global) → length trees < length folders → f ≡ get_or folders (length trees) d
    → left ≡ nodes ∷ less → more ≡ trees ++ record { folder = f; nodes = nodes } ∷ [] → AreFirst folders forest left trees → AreFirst folders forest less more
first_more folders forest left less trees more d f nodes h is l m a = record {
  folders_are = ap (map (λ (t : LostTree). t.folder)) m ∙ map-append (λ (t : LostTree). t.folder) trees _ ∙ (λ i. a.folders_are i ++ is i ∷ []) ∙ sym (take_more folders (length trees) d h)
      ∙ ap (λ n. take n folders) (sym (ap length m ∙ length-append trees _));
  nodes_are = ap (λ (ts : List LostTree). map (λ (t : LostTree). t.nodes) ts ++ less) m ∙ ap (λ ns. ns ++ less) (map-append (λ (t : LostTree). t.nodes) trees _)
      ∙ moved (map (λ (t : LostTree). t.nodes) trees) nodes less ∙ ap (λ ns. map (λ (t : LostTree). t.nodes) trees ++ ns) (sym l) ∙ a.nodes_are;
}
  where
    moved : (xs : List (Vec NodeFields Global)) (x : Vec NodeFields Global) (ys : List (Vec NodeFields Global)) → (xs ++ x ∷ []) ++ ys ≡ xs ++ x ∷ ys
    moved [] x ys = refl
    moved (z ∷ xs) x ys = ap (λ zs. z ∷ zs) (moved xs x ys)

-- as long as nodes are left, a folder is left
pub folder_left : (folders : List Icb) (forest left less : List (Vec NodeFields Global)) (trees : List LostTree) (nodes : Vec NodeFields Global) → length forest ≡ length folders → left ≡ nodes ∷ less
    → AreFirst folders forest left trees → length trees < length folders
folder_left folders forest left less trees nodes e l a =
    let all : length (map (λ (t : LostTree). t.nodes) trees) + length left ≡ length forest = sym (length-append (map (λ (t : LostTree). t.nodes) trees) left) ∙ ap length a.nodes_are in
    let same : length (map (λ (t : LostTree). t.nodes) trees) ≡ length trees = length-map trees (λ (t : LostTree). t.nodes) in
    let some : length left ≡ length (nodes ∷ less) = ap length l in
    omega (arith, e, all, same, some)

pub first_all : (folders : List Icb) (forest left : List (Vec NodeFields Global)) (trees : List LostTree) → length forest ≡ length folders → left ≡ [] → AreFirst folders forest left trees → AreOf folders forest trees
first_all folders forest left trees e l a =
    let is : map (λ (t : LostTree). t.nodes) trees ≡ forest = sym (nothing_on (map (λ (t : LostTree). t.nodes) trees)) ∙ ap (λ ns. map (λ (t : LostTree). t.nodes) trees ++ ns) (sym l) ∙ a.nodes_are in
    let many : length folders ≤ length trees = (let n : length trees ≡ length forest = sym (length-map trees (λ (t : LostTree). t.nodes)) ∙ ap length is in omega (arith, n, e)) in
    record { folders_are = a.folders_are ∙ take_all (length trees) folders many; nodes_are = is }
  where
    nothing_on : (xs : List (Vec NodeFields Global)) → xs ++ [] ≡ xs
    nothing_on [] = refl
    nothing_on (x ∷ xs) = ap (λ zs. x ∷ zs) (nothing_on xs)

-- ---- they are the lost trees
as_long : {A B : Type 0} (R : A → B → Type 0) (xs : List A) (ys : List B) → AllZip R xs ys → length ys ≡ length xs
as_long R [] [] z = refl
as_long R [] (y ∷ ys) z = absurd z
as_long R (x ∷ xs) [] z = absurd z
as_long R (x ∷ xs) (y ∷ ys) z = let e : length ys ≡ length xs = as_long R xs ys z.1 in omega (arith, e)

pub one_each : (v : View) (folders : List Icb) (forest : List (Vec NodeFields Global)) → IsForest v folders (map (λ (t : Vec NodeFields Global). map (full_node v) t.items) forest) → length forest ≡ length folders
one_each v folders forest z = sym (length-map forest (λ (t : Vec NodeFields Global). map (full_node v) t.items)) ∙ as_long (IsTree v) folders (map (λ (t : Vec NodeFields Global). map (full_node v) t.items) forest) z.each

each_tree : (v : View) (trees : List LostTree) → AllZip (IsTree v) (map (λ (t : LostTree). t.folder) trees) (map (λ (t : Vec NodeFields Global). map (full_node v) t.items) (map (λ (t : LostTree). t.nodes) trees))
    → AllZip (IsLostTree v) (map (λ (t : LostTree). t.folder) trees) trees
each_tree v [] z = tt
each_tree v (t ∷ trees) z = (record { folder = refl; nodes = z.0 }, each_tree v trees z.1)

as_many : (v : View) (trees : List LostTree) → sum_by length (map (λ (t : Vec NodeFields Global). map (full_node v) t.items) (map (λ (t : LostTree). t.nodes) trees)) ≡ count_nodes trees
as_many v [] = refl
as_many v (t ∷ trees) =
    let rest : List (List NodeFields) = map (λ (t : Vec NodeFields Global). map (full_node v) t.items) (map (λ (t : LostTree). t.nodes) trees) in
    let a : sum_by length (map (full_node v) t.nodes.items ∷ rest) ≡ length (map (full_node v) t.nodes.items) + sum_by length rest = sum_by-cons length (map (full_node v) t.nodes.items) rest in
    let b : length (map (full_node v) t.nodes.items) ≡ length t.nodes.items = length-map t.nodes.items (full_node v) in
    let c : sum_by length rest ≡ count_nodes trees = as_many v trees in
    let d : count_nodes (t ∷ trees) ≡ length t.nodes.items + count_nodes trees = sum_by-cons (λ (x : LostTree). length x.nodes.items) t trees in
    let e : sum_by length (map (full_node v) t.nodes.items ∷ rest) ≡ count_nodes (t ∷ trees) = omega (arith, a, b, c, d) in e

pub are_lost : (v : View) (folders : List Icb) (forest : List (Vec NodeFields Global)) (trees : List LostTree) → IsForest v folders (map (λ (t : Vec NodeFields Global). map (full_node v) t.items) forest) → AreOf folders forest trees
    → AreLostTrees v folders trees
are_lost v folders forest trees z a =
    let own : IsForest v (map (λ (t : LostTree). t.folder) trees) (map (λ (t : Vec NodeFields Global). map (full_node v) t.items) (map (λ (t : LostTree). t.nodes) trees))
    = subst (λ (p : List Icb × List (Vec NodeFields Global)). IsForest v p.0 (map (λ (t : Vec NodeFields Global). map (full_node v) t.items) p.1)) (λ i. (sym a.folders_are i, sym a.nodes_are i)) z in
    record {
      each = subst (λ fs. AllZip (IsLostTree v) fs trees) a.folders_are (each_tree v trees own.each);
      few = (let n : sum_by length (map (λ (t : Vec NodeFields Global). map (full_node v) t.items) (map (λ (t : LostTree). t.nodes) trees)) ≡ count_nodes trees = as_many v trees in
          let few : sum_by length (map (λ (t : Vec NodeFields Global). map (full_node v) t.items) (map (λ (t : LostTree). t.nodes) trees)) ≤ 65536 = own.few in omega (arith, n, few));
    }

-- too many paths for all roots are too many for the folders
pub forest_refused : (v : View) (folders : List Icb) (error : NodesError) → IsForestRefused v folders error → IsTreesRefused v folders error
forest_refused v folders TooManyPaths x = x
forest_refused v folders OutOfMemory x = tt
