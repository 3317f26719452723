-- Rising lists, and the numbers of a range.
use Rattle.std.proofs.Common.{◌≡◌, ◌⊎◌, inl, inr, refl, sym, ap, ◌∙◌, subst, arith, ℕ, ◌+◌, ◌-◌, ◌<◌, ◌≤◌, List, [], ◌∷◌, ◌++◌, length, take, get_or, append-nil, append_assoc}
use Rattle.std.specs.Prelude.{zero, suc, Contains}
use Rattle.std.specs.List.{range_with_len}
use Rattle.std.proofs.lemmas.Bool.{cases_eq}
use Rattle.std.proofs.lemmas.List.Elements.{Contains-append_cases, Contains-append_left, Contains-append_right}
use Rattle.udfs_lattice.proofs.Inclusion.{here, there, here_or_there, in_nothing}
use Rattle.std.proofs.lemmas.List.{take_more}
use Rattle.udfs_volume.specs.Seen.{IsRising}
use Rattle.udfs_witnesses.specs.Adding.{IsNext}

-- ---- members of two lists
pub in_left : (xs ys : List ℕ) (n : ℕ) → Contains xs n → Contains (xs ++ ys) n
in_left xs ys n i = Contains-append_left xs ys n i

pub in_right : (xs ys : List ℕ) (n : ℕ) → Contains ys n → Contains (xs ++ ys) n
in_right xs ys n i = Contains-append_right xs ys n i

pub in_one : (xs ys : List ℕ) (n : ℕ) → Contains (xs ++ ys) n → Contains xs n ⊎ Contains ys n
in_one xs ys n i = Contains-append_cases xs ys n i

pub alone : (x n : ℕ) → Contains (x ∷ []) n → x ≡ n
alone x n i = go (here_or_there x [] n i)
  where
    go : (x ≡ n) ⊎ Contains [] n → x ≡ n
    go (inl e) = e
    go (inr j) = in_nothing n j

-- ---- rising lists
pub both_rise : (xs ys : List ℕ) → IsRising xs → IsRising ys → ((x y : ℕ) → Contains xs x → Contains ys y → x < y) → IsRising (xs ++ ys)
both_rise [] ys r s h = s
both_rise (x ∷ xs) ys r s h = (λ m i. go m (in_one xs ys m i), both_rise xs ys r.1 s (λ a b i j. h a b (there x xs a i) j))
  where
    go : (m : ℕ) → Contains xs m ⊎ Contains ys m → x < m
    go m (inl i) = r.0 m i
    go m (inr j) = h x m (here x xs) j

-- what stands at a place is a member
at_place : (ys : List ℕ) (k a : ℕ) → k < length ys → Contains ys (get_or ys k a)
at_place [] k a lt = absurd (omega (arith, lt))
at_place (y ∷ ys) zero a lt = here y ys
at_place (y ∷ ys) (suc k) a lt = there y ys (get_or ys k a) (at_place ys k a (omega (arith, lt)))

-- those of a rising list before a place are below the one at it
pub front_below : (xs : List ℕ) (i d : ℕ) → IsRising xs → i < length xs → (n : ℕ) → Contains (take i xs) n → n < get_or xs i d
front_below [] i d r l n c = absurd (omega (arith, l))
front_below (x ∷ xs) zero d r l n c = in_nothing n c
front_below (x ∷ xs) (suc i) d r l n c = go (front_below xs i d r.1 (omega (arith, l)) n) (here_or_there x (take i xs) n c)
  where
    go : (Contains (take i xs) n → n < get_or xs i d) → (x ≡ n) ⊎ Contains (take i xs) n → n < get_or xs i d
    go ih (inl e) = subst (λ z. z < get_or xs i d) e (r.0 (get_or xs i d) (at_place xs i d (omega (arith, l))))
    go ih (inr j) = ih j

-- ---- ranges
pub in_range : (n a m : ℕ) → Contains (range_with_len a n) m → (a ≤ m) × (m < a + n)
in_range zero a m i = in_nothing m i
in_range (suc n) a m i = go (in_range n (a + 1) m) (here_or_there a (range_with_len (a + 1) n) m i)
  where
    go : (Contains (range_with_len (a + 1) n) m → (a + 1 ≤ m) × (m < a + 1 + n)) → (a ≡ m) ⊎ Contains (range_with_len (a + 1) n) m → (a ≤ m) × (m < a + suc n)
    go ih (inl e) = (omega (arith, e), omega (arith, e))
    go ih (inr j) = let h = ih j in let low = h.0 in let high = h.1 in (omega (arith, low), omega (arith, high))

pub range_has : (n a m : ℕ) → a ≤ m → m < a + n → Contains (range_with_len a n) m
range_has zero a m l h = absurd (omega (arith, l, h))
range_has (suc n) a m l h = go (range_has n (a + 1) m) (cases_eq a m)
  where
    go : (a + 1 ≤ m → m < a + 1 + n → Contains (range_with_len (a + 1) n) m) → (a ≡ m) ⊎ (a ≡ m → ⊥) → Contains (a ∷ range_with_len (a + 1) n) m
    go ih (inl e) = subst (λ z. Contains (a ∷ range_with_len (a + 1) n) z) e (here a (range_with_len (a + 1) n))
    go ih (inr ne) = there a (range_with_len (a + 1) n) m (ih (omega (arith, l, ne)) (omega (arith, h)))

pub range_rises : (n a : ℕ) → IsRising (range_with_len a n)
range_rises zero a = tt
range_rises (suc n) a = (λ m i. let h = (in_range n (a + 1) m i).0 in omega (arith, h), range_rises n (a + 1))

-- numbers of a range that are appended one by one
pub range_on : (xs ys whole : List ℕ) (n m last : ℕ) → n < last + 1 → m ≡ n → ys ≡ xs ++ m ∷ [] → xs ++ range_with_len n (last + 1 - n) ≡ whole
    → ys ++ range_with_len (n + 1) (last + 1 - (n + 1)) ≡ whole
range_on xs ys whole n m last h e y w = ap (λ z. z ++ range_with_len (n + 1) (last + 1 - (n + 1))) (y ∙ ap (λ z. xs ++ z ∷ []) e)
    ∙ append_assoc xs (n ∷ []) (range_with_len (n + 1) (last + 1 - (n + 1)))
    ∙ ap (λ k. xs ++ range_with_len n k) (let z : suc (last + 1 - (n + 1)) ≡ last + 1 - n = omega (arith, h) in z) ∙ w

pub range_done : (xs whole : List ℕ) (n last : ℕ) → last + 1 ≤ n → xs ++ range_with_len n (last + 1 - n) ≡ whole → xs ≡ whole
range_done xs whole n last h w = sym (append-nil xs) ∙ ap (λ k. xs ++ range_with_len n k) (let z : 0 ≡ last + 1 - n = omega (arith, h) in z) ∙ w

-- ---- the front that rises
one_back : (n : ℕ) → n + 1 - 1 ≡ n
one_back n = omega arith

-- with one more number that is not below the next
pub risen_more : (xs : List ℕ) (i d next : ℕ) → i < length xs → next ≤ get_or xs i d → IsRising (take i xs) → IsNext (take i xs) next → IsRising (take (i + 1) xs) × IsNext (take (i + 1) xs) (get_or xs i d + 1)
risen_more xs i d next lt le rises (all, top) = subst (λ l. IsRising l × IsNext l (x + 1)) (sym (take_more xs i d lt)) (both_rise front (x ∷ []) rises one apart, (below, inr at))
  where
    x : ℕ
    x = get_or xs i d

    front : List ℕ
    front = take i xs

    one : IsRising (x ∷ [])
    one = (λ m c. in_nothing m c, tt)

    apart : (a b : ℕ) → Contains front a → Contains (x ∷ []) b → a < b
    apart a b c e = let l = all a c in let s = alone x b e in omega (arith, l, le, s)

    below : (n : ℕ) → Contains (front ++ x ∷ []) n → n < x + 1
    below n c = go (in_one front (x ∷ []) n c)
      where
        go : Contains front n ⊎ Contains (x ∷ []) n → n < x + 1
        go (inl j) = let l = all n j in omega (arith, l, le)
        go (inr j) = let s = alone x n j in omega (arith, s)

    at : Contains (front ++ x ∷ []) (x + 1 - 1)
    at = subst (Contains (front ++ x ∷ [])) (sym (one_back x)) (in_right front (x ∷ []) x (here x []))

-- in a list that rises no number is below the next
pub never_falls : (xs : List ℕ) (i d next : ℕ) → i < length xs → get_or xs i d < next → IsNext (take i xs) next → IsRising xs → ⊥
never_falls xs i d next lt less (all, inl none) rises = absurd (omega (arith, less, none))
never_falls xs i d next lt less (all, inr at) rises = let before = front_below xs i d rises lt (next - 1) at in absurd (omega (arith, less, before))

pub none_yet : (xs : List ℕ) → IsNext (take 0 xs) 0
none_yet xs = (λ n c. in_nothing n c, inl refl)
