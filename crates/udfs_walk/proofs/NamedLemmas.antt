-- The ICBs that nodes name, and the entries that none names.
use Rattle.std.proofs.Common.{◌≡◌, refl, sym, ◌∙◌, ap, ℕ, ◌+◌, ◌<◌, ◌≤◌, Bool, true, false, List, [], ◌∷◌, ◌++◌, length, map, take, get_or, cond, ◌&&◌, ◌||◌, arith, Option, Some, None, is_none, nat_eq, append_assoc}
use Rattle.std.specs.Prelude.{zero, suc, filter_map, flat_map, nat_lt}
use Rattle.std.specs.List.{range_with_len, list_any}
use Rattle.std.specs.List.Sorted.{IsPermutation}
use Rattle.std.proofs.lemmas.Bool.{eqb-false, eqb-true, eq-eqb, ltb-true, ltb-false}
use Rattle.std.proofs.lemmas.List.{append-nil}
use Rattle.std.proofs.lemmas.List.Elements.{filter_map-append}
use Rattle.std.specs.List.{cons_option}
use Rattle.std.proofs.lemmas.List.Folds.{list_any-append}
use Rattle.std.proofs.lemmas.List.Sorted.{list_any-IsPermutation}
use Rattle.udfs_tag.specs.Fields.{number_of}
use Rattle.udfs_space.specs.Places.{View}
use Rattle.udfs_file.specs.Addresses.{address_fault}
use Rattle.udfs_file.specs.Entries.{EntryFields}
use Rattle.udfs_file.specs.declared.faults.NodeFault.{NodeFault}
use Rattle.udfs_walk.specs.NodeFields.{NodeFields}
use Rattle.udfs_walk.specs.NamedKeys.{AreNamed}
use Rattle.udfs_walk.specs.Targets.{Target, entry, target, Icb, icb_at, icb_of, is_icb}
use Rattle.udfs_walk.specs.UnnamedEntries.{names, address_of, unnamed_with, entry_alone, unnamed_at}
use Rattle.udfs_walk.specs.declared.answers.Unnamed.{Unnamed}

-- ---- numbers of ICBs
or_none : (a : Bool) → (a || false) ≡ a
or_none true = refl
or_none false = refl

not_same : (a b : ℕ) → (a ≡ b → ⊥) → nat_eq a b ≡ false
not_same a b h = go (nat_eq a b) refl
  where
    go : (c : Bool) → nat_eq a b ≡ c → c ≡ false
    go true e = absurd (h (eqb-true a b e))
    go false e = refl

-- two ICBs have one number only if they are one
same_key : (x y : Icb) → x.block < 4294967296 → y.block < 4294967296 → nat_eq (number_of x) (number_of y) ≡ is_icb x y
same_key x y h k = go (nat_eq x.reference y.reference) (nat_eq x.block y.block) refl refl
  where
    one : x.reference ≡ y.reference → x.block ≡ y.block → number_of x ≡ number_of y
    one e f = λ i. number_of (icb_at (e i) (f i))

    go : (a b : Bool) → nat_eq x.reference y.reference ≡ a → nat_eq x.block y.block ≡ b → nat_eq (number_of x) (number_of y) ≡ (nat_eq x.reference y.reference && nat_eq x.block y.block)
    go true true p q = eq-eqb (number_of x) (number_of y) (one (eqb-true x.reference y.reference p) (eqb-true x.block y.block q)) ∙ sym (λ i. p i && q i)
    go true false p q = not_same (number_of x) (number_of y) (λ z. let e : x.reference ≡ y.reference = eqb-true x.reference y.reference p in let f : x.block ≡ y.block → ⊥ = eqb-false x.block y.block q in f (let g : x.block ≡ y.block = omega (arith, z, e) in g)) ∙ sym (λ i. p i && q i)
    go false true p q = not_same (number_of x) (number_of y) (λ z. let f : x.block ≡ y.block = eqb-true x.block y.block q in let e : x.reference ≡ y.reference → ⊥ = eqb-false x.reference y.reference p in e (let g : x.reference ≡ y.reference = omega (arith, z, f) in g)) ∙ sym (λ i. p i && q i)
    go false false p q = not_same (number_of x) (number_of y) (λ z. let e : x.reference ≡ y.reference → ⊥ = eqb-false x.reference y.reference p in e (let g : x.reference ≡ y.reference = omega (arith, z, h, k) in g)) ∙ sym (λ i. p i && q i)

pub named_start : (v : View) → AreNamed v [] []
unfolding AreNamed
named_start v icb h = refl

take_next : {A : Type 0} (xs : List A) (i : ℕ) (x : A) → i < length xs → x ≡ get_or xs i x → take (i + 1) xs ≡ take i xs ++ x ∷ []
take_next [] i x h e = absurd (let z : ⊥ = omega (arith, h) in z)
take_next (y ∷ ys) zero x h e = ap (λ z. z ∷ []) (sym e)
take_next (y ∷ ys) (suc i) x h e = ap (λ n. take n (y ∷ ys)) (let z : suc i + 1 ≡ suc (i + 1) = omega arith in z) ∙ ap (λ l. y ∷ l) (take_next ys i x (omega (arith, h)) e)

pub named_skip : (v : View) (nodes : List NodeFields) (i : ℕ) (n : NodeFields) (keys : List ℕ) (f : NodeFault) → i < length nodes → n ≡ get_or nodes i n
    → Some f ≡ address_fault v n.icb → AreNamed v (take i nodes) keys → AreNamed v (take (i + 1) nodes) keys
unfolding AreNamed
named_skip v nodes i n keys f h g e a icb k = a icb k ∙ sym (ap (list_any (names v icb)) (take_next nodes i n h g)
    ∙ list_any-append (names v icb) (take i nodes) (n ∷ [])
    ∙ ap (λ x. list_any (names v icb) (take i nodes) || ((is_none x && is_icb icb (icb_of n.icb)) || false)) (sym e)
    ∙ or_none (list_any (names v icb) (take i nodes)))

pub named_more : (v : View) (nodes : List NodeFields) (i : ℕ) (n : NodeFields) (keys more : List ℕ) (k : ℕ) → i < length nodes → n ≡ get_or nodes i n
    → None ≡ address_fault v n.icb → k ≡ number_of (icb_of n.icb) → n.icb.block < 4294967296 → more ≡ keys ++ k ∷ []
    → AreNamed v (take i nodes) keys → AreNamed v (take (i + 1) nodes) more
unfolding AreNamed
named_more v nodes i n keys more k h g e q z m a icb l =
    ap (list_any (nat_eq (number_of icb))) (m ∙ ap (λ x. keys ++ x ∷ []) q)
    ∙ list_any-append (nat_eq (number_of icb)) keys (number_of (icb_of n.icb) ∷ [])
    ∙ (λ i. a icb l i || (same_key icb (icb_of n.icb) l z i || false))
    ∙ ap (λ x. list_any (names v icb) (take i nodes) || ((is_none x && is_icb icb (icb_of n.icb)) || false)) e
    ∙ sym (ap (list_any (names v icb)) (take_next nodes i n h g) ∙ list_any-append (names v icb) (take i nodes) (n ∷ []))

pub named_all : (v : View) (nodes : List NodeFields) (i : ℕ) (keys sorted : List ℕ) → take i nodes ≡ nodes → IsPermutation keys sorted
    → AreNamed v (take i nodes) keys → AreNamed v nodes sorted
unfolding AreNamed
named_all v nodes i keys sorted e p a icb h = sym (list_any-IsPermutation (nat_eq (number_of icb)) keys sorted p) ∙ a icb h ∙ ap (list_any (names v icb)) e

-- a number that none of these is
pub none_among : (xs : List ℕ) (k : ℕ) → ((j : ℕ) → j < length xs → get_or xs j 0 ≡ k → ⊥) → false ≡ list_any (nat_eq k) xs
none_among [] k h = refl
none_among (x ∷ xs) k h = none_among xs k (λ j p e. h (suc j) (omega (arith, p)) e)
    ∙ ap (λ b. b || list_any (nat_eq k) xs) (sym (not_same k x (λ e. h 0 (omega arith) (sym e))))

-- ---- one block
alone : (b : Bool) (o : Option Unnamed) → o ≡ None → None ≡ cond b None o
alone true o e = refl
alone false o e = sym e

pub no_entry : (v : View) (nodes : List NodeFields) (icb : Icb) (t : Target) → t ≡ target v (address_of icb) → entry_alone v icb t ≡ None → None ≡ unnamed_at v nodes icb
unfolding unnamed_at
no_entry v nodes icb t e h = alone (list_any (names v icb) nodes) (entry_alone v icb (target v (address_of icb))) (ap (entry_alone v icb) (sym e) ∙ h)

pub is_named : (v : View) (nodes : List NodeFields) (keys : List ℕ) (icb : Icb) (k : ℕ) (found : Bool) → AreNamed v nodes keys → icb.block < 4294967296 → k ≡ number_of icb
    → found ≡ list_any (nat_eq k) keys → found ≡ true → None ≡ unnamed_at v nodes icb
unfolding unnamed_at AreNamed
is_named v nodes keys icb k found a h q f t = sym (ap (λ x. cond x None (entry_alone v icb (target v (address_of icb))))
    (sym (a icb h) ∙ ap (λ x. list_any (nat_eq x) keys) (sym q) ∙ sym f ∙ t))

pub is_unnamed : (v : View) (nodes : List NodeFields) (keys : List ℕ) (icb : Icb) (k : ℕ) (found : Bool) (e : EntryFields) (u : Unnamed) → AreNamed v nodes keys → icb.block < 4294967296 → k ≡ number_of icb
    → found ≡ list_any (nat_eq k) keys → found ≡ false → entry e ≡ target v (address_of icb) → u ≡ unnamed_with v icb e → Some u ≡ unnamed_at v nodes icb
unfolding unnamed_at AreNamed
is_unnamed v nodes keys icb k found e u a h q f t g w = ap Some w ∙ ap (entry_alone v icb) g
    ∙ sym (ap (λ x. cond x None (entry_alone v icb (target v (address_of icb))))
    (sym (a icb h) ∙ ap (λ x. list_any (nat_eq x) keys) (sym q) ∙ sym f ∙ t))

-- ---- loops
range_next : (a k : ℕ) → range_with_len a (k + 1) ≡ range_with_len a k ++ (a + k) ∷ []
range_next a zero = ap (λ n. n ∷ []) (let e : a ≡ a + 0 = omega arith in e)
range_next a (suc k) = ap (range_with_len a) (let e : suc k + 1 ≡ suc (k + 1) = omega arith in e)
    ∙ ap (λ l. a ∷ l) (range_next (a + 1) k ∙ ap (λ n. range_with_len (a + 1) k ++ n ∷ []) (let e : a + 1 + k ≡ a + suc k = omega arith in e))

map_snoc : (r : ℕ) (xs : List ℕ) (k : ℕ) → map (icb_at r) (xs ++ k ∷ []) ≡ map (icb_at r) xs ++ icb_at r k ∷ []
map_snoc r [] k = refl
map_snoc r (x ∷ xs) k = ap (λ l. icb_at r x ∷ l) (map_snoc r xs k)

map_next : (r k : ℕ) → map (icb_at r) (range_with_len 0 (k + 1)) ≡ map (icb_at r) (range_with_len 0 k) ++ icb_at r k ∷ []
map_next r k = ap (map (icb_at r)) (range_next 0 k ∙ ap (λ n. range_with_len 0 k ++ n ∷ []) (let e : 0 + k ≡ k = omega arith in e)) ∙ map_snoc r (range_with_len 0 k) k

filter_next : (f : Icb → Option Unnamed) (r k : ℕ) → filter_map f (map (icb_at r) (range_with_len 0 (k + 1)))
    ≡ filter_map f (map (icb_at r) (range_with_len 0 k)) ++ filter_map f (icb_at r k ∷ [])
filter_next f r k = ap (filter_map f) (map_next r k) ∙ filter_map-append f (map (icb_at r) (range_with_len 0 k)) (icb_at r k ∷ [])

-- the blocks of a partition up to one, put behind others
pub push_some : (f : Icb → Option Unnamed) (r k : ℕ) (first old new : List Unnamed) (u : Unnamed) → old ≡ first ++ filter_map f (map (icb_at r) (range_with_len 0 k))
    → Some u ≡ f (icb_at r k) → new ≡ old ++ u ∷ [] → new ≡ first ++ filter_map f (map (icb_at r) (range_with_len 0 (k + 1)))
push_some f r k first old new u e h n = n ∙ ap (λ x. x ++ u ∷ []) e ∙ append_assoc first (filter_map f (map (icb_at r) (range_with_len 0 k))) (u ∷ [])
    ∙ ap (λ x. first ++ x) (ap (λ o. filter_map f (map (icb_at r) (range_with_len 0 k)) ++ cons_option o []) h ∙ sym (filter_next f r k))

pub push_none : (f : Icb → Option Unnamed) (r k : ℕ) (first old : List Unnamed) → old ≡ first ++ filter_map f (map (icb_at r) (range_with_len 0 k))
    → None ≡ f (icb_at r k) → old ≡ first ++ filter_map f (map (icb_at r) (range_with_len 0 (k + 1)))
push_none f r k first old e h = e ∙ ap (λ x. first ++ x) (sym (append-nil (filter_map f (map (icb_at r) (range_with_len 0 k))))
    ∙ ap (λ o. filter_map f (map (icb_at r) (range_with_len 0 k)) ++ cons_option o []) h ∙ sym (filter_next f r k))

flat_snoc : (f : ℕ → List Unnamed) (xs : List ℕ) (k : ℕ) → flat_map f (xs ++ k ∷ []) ≡ flat_map f xs ++ f k
flat_snoc f [] k = append-nil (f k)
flat_snoc f (x ∷ xs) k = ap (λ l. f x ++ l) (flat_snoc f xs k) ∙ sym (append_assoc (f x) (flat_map f xs) (f k))

-- one partition more
pub partition_next : (f : ℕ → List Unnamed) (r : ℕ) (old new : List Unnamed) → old ≡ flat_map f (range_with_len 0 r) → new ≡ old ++ f r → new ≡ flat_map f (range_with_len 0 (r + 1))
partition_next f r old new e n = n ∙ ap (λ x. x ++ f r) e
    ∙ sym (ap (flat_map f) (range_next 0 r ∙ ap (λ k. range_with_len 0 r ++ k ∷ []) (let q : 0 + r ≡ r = omega arith in q)) ∙ flat_snoc f (range_with_len 0 r) r)

pub take_whole : {A : Type 0} (xs : List A) (i : ℕ) → length xs ≤ i → take i xs ≡ xs
take_whole [] zero h = refl
take_whole [] (suc i) h = refl
take_whole (x ∷ xs) zero h = absurd (let z : ⊥ = omega (arith, h) in z)
take_whole (x ∷ xs) (suc i) h = ap (λ l. x ∷ l) (take_whole xs i (omega (arith, h)))

-- below a place all are less, and from there on all are greater
pub apart : (xs : List ℕ) (k i : ℕ) → ((j : ℕ) → j < i → get_or xs j 0 < k) → ((j : ℕ) → i ≤ j → j < length xs → k < get_or xs j 0)
    → (j : ℕ) → j < length xs → get_or xs j 0 ≡ k → ⊥
apart xs k i low high j h e = go (nat_lt j i) refl
  where
    go : (b : Bool) → nat_lt j i ≡ b → ⊥
    go true q = let l : get_or xs j 0 < k = low j (ltb-true j i q) in omega (arith, l, e)
    go false q = let l : k < get_or xs j 0 = high j (ltb-false j i q) h in omega (arith, l, e)
