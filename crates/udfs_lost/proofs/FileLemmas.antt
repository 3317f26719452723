-- The information control blocks that nodes of lost trees name.
use Rattle.std.proofs.Common.{◌≡◌, refl, sym, ◌∙◌, ap, subst, ℕ, ◌+◌, ◌<◌, Bool, true, false, ◌&&◌, ◌||◌, List, [], ◌∷◌, length, take, get_or, Some, None, is_none}
use Rattle.std.specs.List.{list_any}
use Rattle.std.proofs.lemmas.List.Folds.{list_any-append, list_any_more}
use Rattle.udfs_space.specs.Places.{View}
use Rattle.udfs_file.specs.Addresses.{address_fault}
use Rattle.udfs_file.specs.declared.faults.NodeFault.{NodeFault}
use Rattle.udfs_walk.specs.NodeFields.{NodeFields}
use Rattle.udfs_walk.specs.Targets.{Icb, icb_of, is_icb}
use Rattle.udfs_walk.specs.UnnamedEntries.{names}
use Rattle.udfs_lost.specs.LostFiles.{is_named_in}
use Rattle.udfs_lost.specs.Met.{with_icb}
use Rattle.udfs_lost.specs.declared.trees.LostTree.{LostTree}
use Rattle.udfs_lost.proofs.MetLemmas.{same_icb, with_met}

or_none : (b : Bool) → (b || false) ≡ b
or_none true = refl
or_none false = refl

-- one more was met
pub any_with : (met : List Icb) (a x : Icb) → list_any (is_icb x) (with_icb met a) ≡ (list_any (is_icb x) met || is_icb x a)
any_with met a x = go (list_any (is_icb a) met) refl
  where
    known : list_any (is_icb a) met ≡ true → (b : Bool) → is_icb x a ≡ b → list_any (is_icb x) met ≡ (list_any (is_icb x) met || b)
    known p true q = let e : list_any (is_icb x) met ≡ true = subst (λ z. list_any (is_icb z) met ≡ true) (sym (same_icb x a q)) p in e ∙ ap (λ z. z || true) (sym e)
    known p false q = sym (or_none (list_any (is_icb x) met))

    go : (b : Bool) → list_any (is_icb a) met ≡ b → list_any (is_icb x) (with_icb met a) ≡ (list_any (is_icb x) met || is_icb x a)
    go true p = ap (list_any (is_icb x)) (with_met met a true p) ∙ known p (is_icb x a) refl
    go false p = ap (list_any (is_icb x)) (with_met met a false p) ∙ list_any-append (is_icb x) met (a ∷ []) ∙ ap (λ z. list_any (is_icb x) met || z) (or_none (is_icb x a))

or_assoc : (a b c : Bool) → ((a || b) || c) ≡ (a || (b || c))
or_assoc true b c = refl
or_assoc false b c = refl

names_next : (v : View) (nodes : List NodeFields) (i : ℕ) (n : NodeFields) (x : Icb) (b : Bool) → i < length nodes → n ≡ get_or nodes i n → names v x n ≡ b
    → list_any (names v x) (take (i + 1) nodes) ≡ (list_any (names v x) (take i nodes) || b)
names_next v nodes i n x b h at e = list_any_more (names v x) nodes i n h ∙ ap (λ z. list_any (names v x) (take i nodes) || z) (ap (names v x) (sym at) ∙ e)

pub names_skip : (v : View) (nodes : List NodeFields) (i : ℕ) (n : NodeFields) (f : NodeFault) (x : Icb) (old : Bool) (met : List Icb) → i < length nodes → n ≡ get_or nodes i n → Some f ≡ address_fault v n.icb
    → list_any (is_icb x) met ≡ (old || list_any (names v x) (take i nodes)) → list_any (is_icb x) met ≡ (old || list_any (names v x) (take (i + 1) nodes))
names_skip v nodes i n f x old met h at e k = k ∙ ap (λ z. old || z) (sym (names_next v nodes i n x false h at (ap (λ o. is_none o && is_icb x (icb_of n.icb)) (sym e)) ∙ or_none (list_any (names v x) (take i nodes))))

pub names_more : (v : View) (nodes : List NodeFields) (i : ℕ) (n : NodeFields) (a x : Icb) (old : Bool) (met new : List Icb) → i < length nodes → n ≡ get_or nodes i n → None ≡ address_fault v n.icb
    → a ≡ icb_of n.icb → new ≡ with_icb met a
    → list_any (is_icb x) met ≡ (old || list_any (names v x) (take i nodes)) → list_any (is_icb x) new ≡ (old || list_any (names v x) (take (i + 1) nodes))
names_more v nodes i n a x old met new h at e q w k = ap (list_any (is_icb x)) w ∙ any_with met a x ∙ ap (λ z. z || is_icb x a) k ∙ or_assoc old (list_any (names v x) (take i nodes)) (is_icb x a)
    ∙ ap (λ z. old || z) (sym (names_next v nodes i n x (is_icb x a) h at (ap (λ o. is_none o && is_icb x (icb_of n.icb)) (sym e) ∙ ap (is_icb x) (sym q))))

pub names_none : (v : View) (nodes : List NodeFields) (x : Icb) (old : Bool) → old ≡ (old || list_any (names v x) (take 0 nodes))
names_none v [] x old = sym (or_none old)
names_none v (n ∷ nodes) x old = sym (or_none old)

-- ---- trees
pub trees_none : (v : View) (trees : List LostTree) (met : List Icb) (x : Icb) → met ≡ [] → list_any (is_icb x) met ≡ is_named_in v (take 0 trees) x
trees_none v [] met x e = ap (list_any (is_icb x)) e
trees_none v (t ∷ trees) met x e = ap (list_any (is_icb x)) e

pub trees_more : (v : View) (trees : List LostTree) (i : ℕ) (t : LostTree) (x : Icb) (met new : List Icb) → i < length trees → t ≡ get_or trees i t → list_any (is_icb x) met ≡ is_named_in v (take i trees) x
    → list_any (is_icb x) new ≡ (list_any (is_icb x) met || list_any (names v x) t.nodes.items) → list_any (is_icb x) new ≡ is_named_in v (take (i + 1) trees) x
trees_more v trees i t x met new h at e n = n ∙ ap (λ z. z || list_any (names v x) t.nodes.items) e
    ∙ sym (list_any_more (λ (y : LostTree). list_any (names v x) y.nodes.items) trees i t h ∙ ap (λ (z : LostTree). is_named_in v (take i trees) x || list_any (names v x) z.nodes.items) (sym at))
