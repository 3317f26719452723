-- Nodes that were gone through, and their keys: the place of the folder, and the last name.
use Rattle.std.proofs.Common.{◌≡◌, refl, sym, ◌∙◌, ap, inl, inr, ◌⊎◌, ℕ, ◌+◌, ◌-◌, ◌<◌, ◌≤◌, Bool, true, false, not, List, [], ◌∷◌, ◌++◌, length, arith, Some, slice_get, get_or}
use Rattle.std.specs.Prelude.{slice_index, suc, zero}
use Rattle.std.proofs.lemmas.Option.{slice_get_within}
use Rattle.udfs_walk.specs.NodeFields.{NodeFields}
use Rattle.udfs_lawfulness.specs.Spelling.{AreFolders, ArePathsApart, IsFolder, IsTwice}
use Rattle.udfs_lawfulness.proofs.Fronts.{last_inside, one_front}

-- no two of the first ones have one path
abbrev pub AreFirstApart : List NodeFields → ℕ → Type 0
AreFirstApart nodes at = (i j : ℕ) (m n : NodeFields) → i < at → j < at → slice_get nodes i ≡ Some m → slice_get nodes j ≡ Some n → m.path ≡ n.path → i ≡ j

pub one_apart : (nodes : List NodeFields) → AreFirstApart nodes 1
one_apart nodes i j m n l k p q s = omega (arith, l, k)

pub none_apart : (nodes : List NodeFields) → AreFirstApart nodes 0
none_apart nodes i j m n l k p q s = absurd (let z : ⊥ = omega (arith, l) in z)

pub here_or_before : (at i : ℕ) → i < at + 1 → (i ≡ at) ⊎ (i < at)
here_or_before at i l = grind arith

one_node : (nodes : List NodeFields) (i j : ℕ) (m n : NodeFields) → i ≡ j → slice_get nodes i ≡ Some m → slice_get nodes j ≡ Some n → m ≡ n
one_node nodes i j m n e p q = let t : Some m ≡ Some n = sym p ∙ ap (slice_get nodes) e ∙ q in cc

pub more_apart : (nodes : List NodeFields) (at : ℕ) → AreFirstApart nodes at → (IsTwice nodes at → ⊥) → AreFirstApart nodes (at + 1)
more_apart nodes at apart none i j x y l k p q s = go (here_or_before at i l) (here_or_before at j k)
  where
    other : (h g : ℕ) (z n : NodeFields) → h < at → g ≡ at → slice_get nodes h ≡ Some z → slice_get nodes g ≡ Some n → z.path ≡ n.path → ⊥
    other h g z n m e r t same = let here : slice_get nodes at ≡ Some n = ap (slice_get nodes) (sym e) ∙ t in
        none (record { inside = slice_get_within nodes at n here; first = h; before = m; one = z; other = n; one_is = r; other_is = here; same = same })

    go : (i ≡ at) ⊎ (i < at) → (j ≡ at) ⊎ (j < at) → i ≡ j
    go (inl a) (inl b) = a ∙ sym b
    go (inl a) (inr b) = absurd (other j i y x b a q p (sym s))
    go (inr a) (inl b) = absurd (other i j x y a b p q s)
    go (inr a) (inr b) = apart i j x y a b p q s

pub all_apart : (nodes : List NodeFields) (at : ℕ) → length nodes ≤ at → AreFirstApart nodes at → ArePathsApart nodes
all_apart nodes at h apart i j m n p q s =
    let a : i < length nodes = slice_get_within nodes i m p in
    let b : j < length nodes = slice_get_within nodes j n q in
    apart i j m n (omega (arith, a, h)) (omega (arith, b, h)) p q s

-- ---- keys
-- the key of the node at this place, which is not the first one
pub record IsKey (nodes : List NodeFields) (folders : List ℕ) (at folder : ℕ) (units : List ℕ) : Type 0 where
  pub inside : at < length nodes
  pub behind : 0 < at
  pub node : NodeFields
  pub node_is : slice_get nodes at ≡ Some node
  pub folder_is : folder ≡ slice_index folders at
  pub units_are : units ≡ get_or node.path (length node.path - 1) []

-- a node has one key
pub same_keys : (nodes : List NodeFields) (folders : List ℕ) (i at folder other : ℕ) (units more : List ℕ) → i ≡ at → IsKey nodes folders at folder units → IsKey nodes folders i other more → (folder ≡ other) × (units ≡ more)
same_keys nodes folders i at folder other units more e h k = (
  h.folder_is ∙ ap (slice_index folders) (sym e) ∙ sym k.folder_is,
  h.units_are ∙ ap (λ (z : NodeFields). get_or z.path (length z.path - 1) []) (sym (one_node nodes i at k.node h.node e k.node_is h.node_is)) ∙ sym k.units_are,
)

-- nodes of one key have one path
pub one_key : (nodes : List NodeFields) (folders : List ℕ) (i at folder : ℕ) (units : List ℕ) → AreFolders nodes folders → i < at → IsKey nodes folders i folder units → IsKey nodes folders at folder units → IsTwice nodes at
one_key nodes folders i at folder units are lt k h =
    let f : IsFolder nodes i (slice_index folders i) = are.each i k.behind k.inside in
    let g : IsFolder nodes at (slice_index folders at) = are.each at h.behind h.inside in
    let e : slice_index folders i ≡ slice_index folders at = sym k.folder_is ∙ h.folder_is in
    let above : f.one ≡ g.one = one_node nodes (slice_index folders i) (slice_index folders at) f.one g.one e f.one_is g.one_is in
    let m : k.node ≡ f.other = one_node nodes i i k.node f.other refl k.node_is f.other_is in
    let n : h.node ≡ g.other = one_node nodes at at h.node g.other refl h.node_is g.other_is in
    let last_m : units ≡ (f.inside).0 = k.units_are ∙ ap (λ (z : NodeFields). get_or z.path (length z.path - 1) []) m ∙ last_inside (f.other).path (f.one).path f.inside in
    let last_n : units ≡ (g.inside).0 = h.units_are ∙ ap (λ (z : NodeFields). get_or z.path (length z.path - 1) []) n ∙ last_inside (g.other).path (g.one).path g.inside in
    record {
      inside = h.inside;
      first = i;
      before = lt;
      one = f.other;
      other = g.other;
      one_is = f.other_is;
      other_is = g.other_is;
      same = (f.inside).1 ∙ ap (λ (z : NodeFields). z.path ++ (f.inside).0 ∷ []) above ∙ ap (λ u. (g.one).path ++ u ∷ []) (sym last_m ∙ last_n) ∙ sym (g.inside).1;
    }

-- a node whose path an earlier one has, which is not the first, has its key
pub same_key : (nodes : List NodeFields) (folders : List ℕ) (at folder : ℕ) (units : List ℕ) → AreFolders nodes folders → AreFirstApart nodes at → IsKey nodes folders at folder units
    → (t : IsTwice nodes at) → (0 < t.first) × IsKey nodes folders t.first folder units
same_key nodes folders at folder units are apart h t =
    let g : IsFolder nodes at (slice_index folders at) = are.each at h.behind h.inside in
    let before : t.first < at = t.before in
    let within : t.first < length nodes = slice_get_within nodes t.first t.one t.one_is in
    let n : t.other ≡ g.other = one_node nodes at at t.other g.other refl t.other_is g.other_is in
    let path : (t.one).path ≡ (g.one).path ++ (g.inside).0 ∷ [] = t.same ∙ ap (λ (z : NodeFields). z.path) n ∙ (g.inside).1 in
    let behind : 0 < t.first = not_root t.first t.one t.one_is ((g.one).path) ((g.inside).0) path in
    let f : IsFolder nodes t.first (slice_index folders t.first) = are.each t.first behind within in
    let m : t.one ≡ f.other = one_node nodes t.first t.first t.one f.other refl t.one_is f.other_is in
    let above : (f.one).path ≡ (g.one).path = one_front (f.one).path (g.one).path (f.inside).0 (g.inside).0 (sym (f.inside).1 ∙ sym (ap (λ (z : NodeFields). z.path) m) ∙ path) in
    let low : slice_index folders t.first < t.first = f.before in
    let low_too : slice_index folders at < at = g.before in
    let e : slice_index folders t.first ≡ slice_index folders at = apart (slice_index folders t.first) (slice_index folders at) f.one g.one (omega (arith, low, before)) low_too f.one_is g.one_is above in
    let same : (t.one).path ≡ (h.node).path = t.same ∙ ap (λ (z : NodeFields). z.path) (one_node nodes at at t.other h.node refl t.other_is h.node_is) in (
      behind,
      record {
        inside = within;
        behind = behind;
        node = t.one;
        node_is = t.one_is;
        folder_is = h.folder_is ∙ sym e;
        units_are = h.units_are ∙ ap (λ z. get_or z (length z - 1) []) (sym same);
      },
    )
  where
    not_root : (first : ℕ) (one : NodeFields) → slice_get nodes first ≡ Some one → (p : List (List ℕ)) (name : List ℕ) → one.path ≡ p ++ name ∷ [] → 0 < first
    not_root zero one is p name e = absurd (empty p name (sym (are.root one is) ∙ e))
      where
        empty : (p : List (List ℕ)) (name : List ℕ) → [] ≡ p ++ name ∷ [] → ⊥
        empty [] name z = cc
        empty (x ∷ xs) name z = cc
    not_root (suc first) one is p name e = omega arith

pub not_false : (b : Bool) → false ≡ not b → b ≡ true
not_false true e = refl
not_false false e = absurd (let z : ⊥ = cc in z)

pub not_true : (b : Bool) → true ≡ not b → b ≡ true → ⊥
not_true true e h = cc
not_true false e h = cc
