-- The copies of a sparing table of a volume in which they say the same: no two known blocks of them differ.
use Rattle.std.proofs.Common.{◌≡◌, refl, sym, ◌∙◌, ap, inl, inr, ℕ, ◌+◌, ◌-◌, ◌*◌, ◌<◌, ◌==◌, ◌||◌, Bool, true, false, List, [], ◌∷◌, ◌++◌, cond, length, take, drop, arith}
use Rattle.std.specs.Prelude.{zero, suc, not, flat_map, Contains}
use Rattle.std.specs.List.{list_any, range_with_len}
use Rattle.std.specs.Str.{bytes_eq}
use Rattle.std.proofs.lemmas.List.{drop-drop, drop-take, take-append-le, take_all}
use Rattle.std.proofs.lemmas.Bool.Decides.{nat_tests}
use Rattle.std.proofs.lemmas.List.Concat.{flat_map-cons}
use Rattle.std.proofs.lemmas.Slice.Eq.{bytes_eq-Decides}
use lib.Seq.{drop-append-add}
use Rattle.udfs_lattice.specs.States.{State}
use Rattle.udfs_lattice.specs.Volumes.{Agrees, Blocks, IsVolume, Volume}
use Rattle.udfs_lattice.proofs.Inclusion.{Includes, included, here, there}
use Rattle.udfs_lattice.specs.declared.facts.Fact.TheVariants.{Unknown, Known, Conflict}
use Rattle.udfs_volume.specs.Laws.{AreBounded}
use Rattle.udfs_volume.specs.Layout.{blocks_in, sparable}
use Rattle.udfs_volume.specs.Sequence.{Bytes}
use Rattle.udfs_space.specs.Laws.{AreTheSameTables}
use Rattle.udfs_space.specs.Standard.{table_at}
use Rattle.udfs_overview.specs.Spares.{differ_in, differs, differs_from, map_disagrees, said_in}

take_both : (n m : ℕ) (xs : Bytes) → take n (take m xs) ≡ take m (take n xs)
take_both zero zero xs = refl
take_both zero (suc m) xs = refl
take_both (suc n) zero xs = refl
take_both (suc n) (suc m) [] = refl
take_both (suc n) (suc m) (x ∷ xs) = ap (λ l. x ∷ l) (take_both n m xs)

-- block k of those that stand one after the other
piece_at : (V : Volume) (k a n : ℕ) → k < n → ((j : ℕ) → j < n → length (V (a + j)) ≡ 2048)
    → take 2048 (drop (2048 * k) (flat_map V (range_with_len a n))) ≡ V (a + k)
piece_at V k a zero h w = absurd (let z : ⊥ = omega (arith, h) in z)
piece_at V zero a (suc n) h w =
    let rest = flat_map V (range_with_len (a + 1) n) in
    let here : a + 0 ≡ a = omega arith in
    let size : length (V a) ≡ 2048 = ap (λ i. length (V i)) (sym here) ∙ w 0 (omega arith) in
    ap (take 2048) (flat_map-cons V a (range_with_len (a + 1) n))
    ∙ take-append-le 2048 (V a) rest (omega (arith, size)) ∙ take_all 2048 (V a) (omega (arith, size)) ∙ ap V (sym here)
piece_at V (suc k) a (suc n) h w =
    let rest = flat_map V (range_with_len (a + 1) n) in
    let here : a + 0 ≡ a = omega arith in
    let size : length (V a) ≡ 2048 = ap (λ i. length (V i)) (sym here) ∙ w 0 (omega arith) in
    let behind : 2048 * suc k ≡ length (V a) + 2048 * k = omega (arith, size) in
    let next : (a + 1) + k ≡ a + suc k = omega arith in
    ap (λ l. take 2048 (drop (2048 * suc k) l)) (flat_map-cons V a (range_with_len (a + 1) n))
    ∙ ap (λ i. take 2048 (drop i (V a ++ rest))) behind
    ∙ ap (take 2048) (drop-append-add (V a) rest (2048 * k))
    ∙ piece_at V k (a + 1) n (omega (arith, h)) (λ j l. let e : (a + 1) + j ≡ a + (j + 1) = omega arith in ap (λ i. length (V i)) e ∙ w (j + 1) (omega (arith, l)))
    ∙ ap V next

-- its bytes within the table's size
within_size : (V : Volume) (size k a : ℕ) → k < blocks_in size → ((j : ℕ) → j < blocks_in size → length (V (a + j)) ≡ 2048)
    → take (size - 2048 * k) (V (a + k)) ≡ take 2048 (drop (2048 * k) (table_at V size a))
within_size V size k a h w =
    let all = flat_map V (range_with_len a (blocks_in size)) in
    let sum : 2048 * k + (size - 2048 * k) ≡ size = omega (arith, h) in
    ap (take (size - 2048 * k)) (sym (piece_at V k a (blocks_in size) h w))
    ∙ take_both (size - 2048 * k) 2048 (drop (2048 * k) all)
    ∙ ap (take 2048) (sym (drop-take (2048 * k) (size - 2048 * k) all))
    ∙ ap (λ i. take 2048 (drop (2048 * k) (take i all))) sum

-- are told by what the table says behind its tag
same_part : (k : ℕ) (t u : Bytes) → drop 16 t ≡ drop 16 u
    → drop (cond (k == 0) 16 0) (take 2048 (drop (2048 * k) t)) ≡ drop (cond (k == 0) 16 0) (take 2048 (drop (2048 * k) u))
same_part zero t u e = drop-take 16 2032 t ∙ ap (take 2032) e ∙ sym (drop-take 16 2032 u)
same_part (suc k) t u e =
    let later : (suc k == 0) ≡ false = grind (arith, nat_tests) in
    ap (λ b. drop (cond b 16 0) (take 2048 (drop (2048 * suc k) t))) later
    ∙ ap (take 2048) (further t ∙ ap (drop (2032 + 2048 * k)) e ∙ sym (further u))
    ∙ sym (ap (λ b. drop (cond b 16 0) (take 2048 (drop (2048 * suc k) u))) later)
  where
    further : (x : Bytes) → drop (2048 * suc k) x ≡ drop (2032 + 2048 * k) (drop 16 x)
    further x = let sum : 2048 * suc k ≡ 16 + (2032 + 2048 * k) = omega arith in ap (λ i. drop i x) sum ∙ sym (drop-drop (2032 + 2048 * k) 16 x)

-- so two copies that say the same do so in each block
same_said : (V : Volume) (size k a b : ℕ) → k < blocks_in size
    → ((j : ℕ) → j < blocks_in size → length (V (a + j)) ≡ 2048) → ((j : ℕ) → j < blocks_in size → length (V (b + j)) ≡ 2048)
    → drop 16 (table_at V size a) ≡ drop 16 (table_at V size b) → said_in size k (V (a + k)) ≡ said_in size k (V (b + k))
same_said V size k a b h wa wb e =
    ap (drop (cond (k == 0) 16 0)) (within_size V size k a h wa) ∙ same_part k (table_at V size a) (table_at V size b) e
    ∙ sym (ap (drop (cond (k == 0) 16 0)) (within_size V size k b h wb))

-- ---- what differs
not_true : (b : Bool) → not b ≡ true → b ≡ false
not_true true e = absurd (let z : ⊥ = cc in z)
not_true false e = refl

record Differ (size k : ℕ) (x y : State) : Type 0 where
  one : Bytes
  other : Bytes
  one_is : x ≡ Known one
  other_is : y ≡ Known other
  apart : bytes_eq (said_in size k one) (said_in size k other) ≡ false

both_known : (size k : ℕ) (x y : State) → differs size k x y ≡ true → Differ size k x y
both_known size k Unknown y e = absurd (let z : ⊥ = cc in z)
both_known size k (Known one) Unknown e = absurd (let z : ⊥ = cc in z)
both_known size k (Known one) (Known other) e = record { one = one; other = other; one_is = refl; other_is = refl; apart = not_true _ e }
both_known size k (Known one) Conflict e = absurd (let z : ⊥ = cc in z)
both_known size k Conflict y e = absurd (let z : ⊥ = cc in z)

-- what passes a test
pub any_found : {A : Type 0} (p : A → Bool) (xs : List A) → list_any p xs ≡ true → (x : A) × Contains xs x × (p x ≡ true)
any_found p [] e = absurd (let z : ⊥ = cc in z)
any_found {A} p (x ∷ xs) e = go (p x) refl e (any_found p xs)
  where
    go : (b : Bool) → p x ≡ b → (b || list_any p xs) ≡ true → (list_any p xs ≡ true → (y : A) × Contains xs y × (p y ≡ true)) → (y : A) × Contains (x ∷ xs) y × (p y ≡ true)
    go true q h later = (x, here x xs, q)
    go false q h later = let w = later h in (w.0, there x xs w.0 w.1, w.2)

below : (a n k : ℕ) → Includes (range_with_len a n) k → k < a + n
below a zero k i = absurd i
below a (suc n) k (inl e) = omega (arith, e)
below a (suc n) k (inr i) = let l : k < (a + 1) + n = below (a + 1) n k i in omega (arith, l)

-- of a volume whose copies say the same, no table that agrees with it knows two that do not
pub no_difference : (M : Blocks) (V : Volume) (N packet size : ℕ) (tables : List ℕ) → IsVolume V N → Agrees M V N → AreBounded N packet size tables
    → AreTheSameTables V size tables → map_disagrees M (sparable packet size tables) ≡ true → ⊥
no_difference M V N packet size tables vol agrees bounded same e =
    let n = blocks_in size in
    let at = any_found (differ_in M size tables) (range_with_len 0 n) e in
    let k = at.0 in
    let less : k < n = let l : k < 0 + n = below 0 n k (included (range_with_len 0 n) k at.1) in omega (arith, l) in
    let first = any_found (λ a. list_any (differs_from M size k a) tables) tables at.2 in
    let a = first.0 in
    let second = any_found (differs_from M size k a) tables first.2 in
    let b = second.0 in
    let d = both_known size k (M (a + k)) (M (b + k)) second.2 in
    let whole : (c : ℕ) → Contains tables c → (j : ℕ) → j < n → length (V (c + j)) ≡ 2048 =
    λ c i j l. let ends = bounded.ends c i in (vol.each (c + j) (omega (arith, l, ends))).whole in
    let said = same_said V size k a b less (whole a first.1) (whole b second.1) (same.contents a b first.1 second.1) in
    let equal : said_in size k d.one ≡ said_in size k d.other =
    ap (said_in size k) (agrees.known (a + k) d.one d.one_is) ∙ said ∙ sym (ap (said_in size k) (agrees.known (b + k) d.other d.other_is)) in
    let yes : bytes_eq (said_in size k d.one) (said_in size k d.other) ≡ true = (bytes_eq-Decides _ _).1 equal in
    let no = d.apart in
    let z : ⊥ = cc in z
