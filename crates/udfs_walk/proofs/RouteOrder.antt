-- The order of words: routes in order are told by which they are.
use Rattle.std.proofs.Common.{◌≡◌, refl, sym, ◌∙◌, ap, subst, inl, inr, ◌⊎◌, ℕ, ◌≤◌, List, [], ◌∷◌, ◌++◌, length, map, arith}
use Rattle.std.specs.Prelude.{⊤, suc}
use Rattle.udfs_lattice.proofs.Inclusion.{Includes}
use Rattle.udfs_walk.specs.Routes.{Route, IsBefore, IsInOrder}

pub before_trans : (a b c : Route) → IsBefore a b → IsBefore b c → IsBefore a c
before_trans [] [] c p q = absurd p
before_trans [] (j ∷ b) [] p q = absurd q
before_trans [] (j ∷ b) (k ∷ c) p q = tt
before_trans (i ∷ a) [] c p q = absurd p
before_trans (i ∷ a) (j ∷ b) [] p q = absurd q
before_trans (i ∷ a) (j ∷ b) (k ∷ c) (inl p) (inl q) = inl (omega (arith, p, q))
before_trans (i ∷ a) (j ∷ b) (k ∷ c) (inl p) (inr q) = inl (let e = q.0 in omega (arith, p, e))
before_trans (i ∷ a) (j ∷ b) (k ∷ c) (inr p) (inl q) = inl (let e = p.0 in omega (arith, q, e))
before_trans (i ∷ a) (j ∷ b) (k ∷ c) (inr p) (inr q) = inr (p.0 ∙ q.0, before_trans a b c p.1 q.1)

pub before_none : (a : Route) → IsBefore a a → ⊥
before_none [] p = p
before_none (i ∷ a) (inl p) = omega (arith, p)
before_none (i ∷ a) (inr p) = before_none a p.1

-- a route stands before each of these
abbrev pub IsAhead : Route → List Route → Type 0
IsAhead r rs = (s : Route) → Includes rs s → IsBefore r s

-- each route stands before all behind it
abbrev pub AreOrdered : List Route → Type 0
AreOrdered [] = ⊤
AreOrdered (r ∷ rs) = IsAhead r rs × AreOrdered rs

ahead_of : (r s : Route) (rest : List Route) → IsBefore r s → IsAhead s rest → IsAhead r (s ∷ rest)
ahead_of r s rest p h t (inl e) = subst (IsBefore r) e p
ahead_of r s rest p h t (inr i) = before_trans r s t p (h t i)

pub ordered : (rs : List Route) → IsInOrder rs → AreOrdered rs
ordered [] h = tt
ordered (r ∷ []) h = (λ s i. absurd i, tt)
ordered (r ∷ s ∷ rest) h = let o : AreOrdered (s ∷ rest) = ordered (s ∷ rest) h.1 in (ahead_of r s rest h.0 o.0, o)

pub in_order : (rs : List Route) → AreOrdered rs → IsInOrder rs
in_order [] h = tt
in_order (r ∷ []) h = tt
in_order (r ∷ s ∷ rest) h = (h.0 s (inl refl), in_order (s ∷ rest) h.1)

pub includes_left : (a b : List Route) (x : Route) → Includes a x → Includes (a ++ b) x
includes_left [] b x i = absurd i
includes_left (y ∷ a) b x (inl e) = inl e
includes_left (y ∷ a) b x (inr i) = inr (includes_left a b x i)

pub includes_right : (a b : List Route) (x : Route) → Includes b x → Includes (a ++ b) x
includes_right [] b x i = i
includes_right (y ∷ a) b x i = inr (includes_right a b x i)

pub includes_either : (a b : List Route) (x : Route) → Includes (a ++ b) x → Includes a x ⊎ Includes b x
includes_either [] b x i = inr i
includes_either (y ∷ a) b x (inl e) = inl (inl e)
includes_either (y ∷ a) b x (inr i) = go (includes_either a b x i)
  where
    go : Includes a x ⊎ Includes b x → Includes (y ∷ a) x ⊎ Includes b x
    go (inl j) = inl (inr j)
    go (inr j) = inr j

pub ordered_append : (a b : List Route) → AreOrdered a → AreOrdered b → ((x y : Route) → Includes a x → Includes b y → IsBefore x y) → AreOrdered (a ++ b)
ordered_append [] b p q h = q
ordered_append (r ∷ a) b p q h = (λ s i. go s (includes_either a b s i), ordered_append a b p.1 q (λ x y i j. h x y (inr i) j))
  where
    go : (s : Route) → Includes a s ⊎ Includes b s → IsBefore r s
    go s (inl i) = p.0 s i
    go s (inr i) = h r s (inl refl) i

-- ---- the same entry first
pub includes_map : (j : ℕ) (rs : List Route) (s : Route) → Includes (map (λ r. j ∷ r) rs) s → (t : Route) × (s ≡ j ∷ t) × Includes rs t
includes_map j [] s i = absurd i
includes_map j (r ∷ rs) s (inl e) = (r, sym e, inl refl)
includes_map j (r ∷ rs) s (inr i) = let x = includes_map j rs s i in (x.0, x.1, inr x.2)

pub map_includes : (j : ℕ) (rs : List Route) (s : Route) → Includes rs s → Includes (map (λ r. j ∷ r) rs) (j ∷ s)
map_includes j [] s i = absurd i
map_includes j (r ∷ rs) s (inl e) = inl (ap (λ z. j ∷ z) e)
map_includes j (r ∷ rs) s (inr i) = inr (map_includes j rs s i)

pub ordered_map : (j : ℕ) (rs : List Route) → AreOrdered rs → AreOrdered (map (λ r. j ∷ r) rs)
ordered_map j [] h = tt
ordered_map j (r ∷ rs) h = (λ s i. go s (includes_map j rs s i), ordered_map j rs h.1)
  where
    go : (s : Route) → (t : Route) × (s ≡ j ∷ t) × Includes rs t → IsBefore (j ∷ r) s
    go s x = subst (IsBefore (j ∷ r)) (sym x.1) (inr (refl, h.0 x.0 x.2))

-- ---- two lists in order
rest_in : (x : Route) (xs ys : List Route) → AreOrdered (x ∷ xs) → ((n : Route) → Includes (x ∷ xs) n → Includes (x ∷ ys) n) → (n : Route) → Includes xs n → Includes ys n
rest_in x xs ys r h n i = go (h n (inr i))
  where
    go : Includes (x ∷ ys) n → Includes ys n
    go (inl e) = absurd (before_none n (subst (λ z. IsBefore z n) e (r.0 n i)))
    go (inr j) = j

heads : (x y : Route) (xs ys : List Route) → AreOrdered (x ∷ xs) → AreOrdered (y ∷ ys) → Includes (y ∷ ys) x → Includes (x ∷ xs) y → x ≡ y
heads x y xs ys r s (inl e) j = sym e
heads x y xs ys r s (inr i) (inl e) = e
heads x y xs ys r s (inr i) (inr j) = absurd (before_none x (before_trans x y x (r.0 y j) (s.0 x i)))

-- those with the same routes are the same
pub same_routes : (xs ys : List Route) → AreOrdered xs → AreOrdered ys → ((n : Route) → Includes xs n → Includes ys n) → ((n : Route) → Includes ys n → Includes xs n) → xs ≡ ys
same_routes [] [] r s f g = refl
same_routes [] (y ∷ ys) r s f g = absurd (g y (inl refl))
same_routes (x ∷ xs) [] r s f g = absurd (f x (inl refl))
same_routes (x ∷ xs) (y ∷ ys) r s f g = go (heads x y xs ys r s (f x (inl refl)) (g y (inl refl))) (λ r s f g. same_routes xs ys r s f g)
  where
    go : x ≡ y → (AreOrdered xs → AreOrdered ys → ((n : Route) → Includes xs n → Includes ys n) → ((n : Route) → Includes ys n → Includes xs n) → xs ≡ ys) → x ∷ xs ≡ y ∷ ys
    go e ih =
        let s' : AreOrdered (x ∷ ys) = subst (λ z. AreOrdered (z ∷ ys)) (sym e) s in
        let f' : (n : Route) → Includes (x ∷ xs) n → Includes (x ∷ ys) n = λ n i. subst (λ z. Includes (z ∷ ys) n) (sym e) (f n i) in
        let g' : (n : Route) → Includes (x ∷ ys) n → Includes (x ∷ xs) n = λ n i. g n (subst (λ z. Includes (z ∷ ys) n) e i) in
        let t : xs ≡ ys = ih r.1 s'.1 (rest_in x xs ys r f') (rest_in x ys xs s' g') in
        ap (λ z. z ∷ xs) e ∙ ap (λ l. y ∷ l) t

-- those that are among others are no more
pub fewer_routes : (ys xs : List Route) → AreOrdered xs → AreOrdered ys → ((n : Route) → Includes xs n → Includes ys n) → length xs ≤ length ys
fewer_routes ys [] r s f = omega arith
fewer_routes [] (x ∷ xs) r s f = absurd (f x (inl refl))
fewer_routes (y ∷ ys) (x ∷ xs) r s f = go (f x (inl refl))
    (λ f'. fewer_routes ys xs r.1 s.1 f') (λ f'. fewer_routes ys (x ∷ xs) r s.1 f')
  where
    later : Includes ys x → (n : Route) → Includes (x ∷ xs) n → Includes (y ∷ ys) n → Includes ys n
    later i n m (inr j) = j
    later i n (inl q) (inl e) = subst (Includes ys) q i
    later i n (inr k) (inl e) = absurd (before_none y (before_trans y x y (s.0 x i) (subst (IsBefore x) (sym e) (r.0 n k))))

    go : Includes (y ∷ ys) x → (((n : Route) → Includes xs n → Includes ys n) → length xs ≤ length ys)
        → (((n : Route) → Includes (x ∷ xs) n → Includes ys n) → suc (length xs) ≤ length ys) → suc (length xs) ≤ suc (length ys)
    go (inl e) both one = let h : length xs ≤ length ys = both (rest_in x xs ys r (λ n i. subst (λ z. Includes (z ∷ ys) n) e (f n i))) in omega (arith, h)
    go (inr i) both one = let h : suc (length xs) ≤ length ys = one (λ n m. later i n m (f n m)) in omega (arith, h)
