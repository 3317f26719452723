-- The descriptor that prevails, as a split of the blocks.
use Rattle.std.proofs.Common.{◌≡◌, refl, sym, ◌∙◌, ap, subst, inl, inr, ℕ, ◌<◌, ◌≤◌, Bool, true, false, List, [], ◌∷◌, ◌++◌, map, cond, ◌&&◌, arith, Some, nat_le}
use Rattle.std.specs.Prelude.{filter, find}
use Rattle.std.specs.List.{list_all}
use Rattle.std.proofs.lemmas.Bool.{le-leb, leb-true}
use Rattle.udfs_lattice.proofs.Inclusion.{Includes, included, contained}
use Rattle.udfs_volume.proofs.Bounds.{each_passes}
use Rattle.udfs_lawfulness.specs.Layouts.{IsPrevailing, Placed}
use Rattle.udfs_lawfulness.proofs.MapTables.{all_pass}

-- two filters are one
pub filters : {A : Type 0} (p q : A → Bool) (xs : List A) → filter p (filter q xs) ≡ filter (λ x. q x && p x) xs
filters p q [] = refl
filters p q (x ∷ xs) = by (q x) refl (filters p q xs)
  where
    by : (t : Bool) → q x ≡ t → filter p (filter q xs) ≡ filter (λ x. q x && p x) xs → filter p (cond (q x) (x ∷ filter q xs) (filter q xs)) ≡ cond (q x && p x) (x ∷ filter (λ x. q x && p x) xs) (filter (λ x. q x && p x) xs)
    by true e h = ap (λ t. filter p (cond t (x ∷ filter q xs) (filter q xs))) e ∙ (λ i. cond (p x) (x ∷ h i) (h i)) ∙ ap (λ t. cond (t && p x) (x ∷ filter (λ x. q x && p x) xs) (filter (λ x. q x && p x) xs)) (sym e)
    by false e h = ap (λ t. filter p (cond t (x ∷ filter q xs) (filter q xs))) e ∙ h ∙ ap (λ t. cond (t && p x) (x ∷ filter (λ x. q x && p x) xs) (filter (λ x. q x && p x) xs)) (sym e)

pub in_front : {A : Type 0} (xs ys : List A) (x : A) → Includes xs x → Includes (xs ++ ys) x
in_front [] ys x i = absurd i
in_front (y ∷ xs) ys x (inl e) = inl e
in_front (y ∷ xs) ys x (inr i) = inr (in_front xs ys x i)

pub in_back : {A : Type 0} (xs ys : List A) (x : A) → Includes ys x → Includes (xs ++ ys) x
in_back [] ys x i = i
in_back (y ∷ xs) ys x i = inr (in_back xs ys x i)

module _ {B : Type 0} (D : Placed → B) (test : B → Bool) where
  -- what is kept
  kept : (vs : List Placed) (x : Placed) → Includes vs x → test (D x) ≡ true → Includes (filter test (map D vs)) (D x)
  kept [] x i t = absurd i
  kept (v ∷ vs) x i t = by (test (D v)) refl i (λ j. kept vs x j t)
    where
      by : (b : Bool) → test (D v) ≡ b → Includes (v ∷ vs) x → (Includes vs x → Includes (filter test (map D vs)) (D x)) → Includes (cond (test (D v)) (D v ∷ filter test (map D vs)) (filter test (map D vs))) (D x)
      by true e (inl p) more = subst (λ c. Includes (cond c (D v ∷ filter test (map D vs)) (filter test (map D vs))) (D x)) (sym e) (inl (ap D p))
      by true e (inr j) more = subst (λ c. Includes (cond c (D v ∷ filter test (map D vs)) (filter test (map D vs))) (D x)) (sym e) (inr (more j))
      by false e (inl p) more = absurd (let z : false ≡ true = sym e ∙ ap (λ y. test (D y)) p ∙ t in let no : ⊥ = cc in no)
      by false e (inr j) more = subst (λ c. Includes (cond c (D v ∷ filter test (map D vs)) (filter test (map D vs))) (D x)) (sym e) (more j)

  -- and where it is from
  kept_from : (vs : List Placed) (o : B) → Includes (filter test (map D vs)) o → (x : Placed) × Includes vs x × (D x ≡ o) × (test (D x) ≡ true)
  kept_from [] o i = absurd i
  kept_from (v ∷ vs) o i = by (test (D v)) refl i (kept_from vs o)
    where
      by : (b : Bool) → test (D v) ≡ b → Includes (cond (test (D v)) (D v ∷ filter test (map D vs)) (filter test (map D vs))) o
          → (Includes (filter test (map D vs)) o → (x : Placed) × Includes vs x × (D x ≡ o) × (test (D x) ≡ true)) → (x : Placed) × Includes (v ∷ vs) x × (D x ≡ o) × (test (D x) ≡ true)
      by true e i more = first (subst (λ c. Includes (cond c (D v ∷ filter test (map D vs)) (filter test (map D vs))) o) e i)
        where
          first : Includes (D v ∷ filter test (map D vs)) o → (x : Placed) × Includes (v ∷ vs) x × (D x ≡ o) × (test (D x) ≡ true)
          first (inl p) = (v, inl refl, p, e)
          first (inr j) = let r : (x : Placed) × Includes vs x × (D x ≡ o) × (test (D x) ≡ true) = more j in (r.0, inr r.1, r.2, r.3)
      by false e i more = let r : (x : Placed) × Includes vs x × (D x ≡ o) × (test (D x) ≡ true) = more (subst (λ c. Includes (cond c (D v ∷ filter test (map D vs)) (filter test (map D vs))) o) e i) in (r.0, inr r.1, r.2, r.3)

  -- the first that is kept and passes
  pub record IsFirst (top : B → Bool) (vs : List Placed) (d : B) : Type 0 where
    pub w : Placed
    pub before : List Placed
    pub after : List Placed
    pub whole : vs ≡ before ++ (w ∷ after)
    pub is : D w ≡ d
    pub tested : test (D w) ≡ true
    pub passes : top (D w) ≡ true
    pub skipped : (x : Placed) → Includes before x → test (D x) ≡ true → top (D x) ≡ false

  first_to : (top : B → Bool) (vs : List Placed) (d : B) → find top (filter test (map D vs)) ≡ Some d → IsFirst top vs d
  first_to top [] d e = absurd (let z : ⊥ = cc in z)
  first_to top (v ∷ vs) d e = by (test (D v)) refl e (first_to top vs d)
    where
      later : IsFirst top vs d → (test (D v) ≡ true → top (D v) ≡ false) → IsFirst top (v ∷ vs) d
      later h s = record { w = h.w; before = v ∷ h.before; after = h.after; whole = ap (λ y. v ∷ y) h.whole; is = h.is; tested = h.tested; passes = h.passes; skipped = skip }
        where
          skip : (x : Placed) → Includes (v ∷ h.before) x → test (D x) ≡ true → top (D x) ≡ false
          skip x (inl p) t = ap (λ y. top (D y)) (sym p) ∙ s (ap (λ y. test (D y)) p ∙ t)
          skip x (inr j) t = h.skipped x j t

      by_top : (c : Bool) → top (D v) ≡ c → test (D v) ≡ true → cond c (Some (D v)) (find top (filter test (map D vs))) ≡ Some d → (find top (filter test (map D vs)) ≡ Some d → IsFirst top vs d) → IsFirst top (v ∷ vs) d
      by_top true p t e more = let q : D v ≡ d = some_is (D v) d e in record { w = v; before = []; after = vs; whole = refl; is = q; tested = t; passes = p; skipped = λ x i t'. absurd i }
        where
          some_is : (x y : B) → Some x ≡ Some y → x ≡ y
          some_is x y e = cc
      by_top false p t e more = later (more e) (λ t'. p)

      by : (b : Bool) → test (D v) ≡ b → find top (cond (test (D v)) (D v ∷ filter test (map D vs)) (filter test (map D vs))) ≡ Some d → (find top (filter test (map D vs)) ≡ Some d → IsFirst top vs d) → IsFirst top (v ∷ vs) d
      by true t e more = by_top (top (D v)) refl t (ap (λ c. find top (cond c (D v ∷ filter test (map D vs)) (filter test (map D vs)))) (sym t) ∙ e) more
      by false t e more = later (more (ap (λ c. find top (cond c (D v ∷ filter test (map D vs)) (filter test (map D vs)))) (sym t) ∙ e)) (λ t'. absurd (let z : false ≡ true = sym t ∙ t' in let no : ⊥ = cc in no))

  first_from : (top : B → Bool) (before after : List Placed) (w : Placed) → test (D w) ≡ true → top (D w) ≡ true → ((x : Placed) → Includes before x → test (D x) ≡ true → top (D x) ≡ false)
      → find top (filter test (map D (before ++ (w ∷ after)))) ≡ Some (D w)
  first_from top [] after w t p s = ap (λ c. find top (cond c (D w ∷ filter test (map D after)) (filter test (map D after)))) t ∙ ap (λ c. cond c (Some (D w)) (find top (filter test (map D after)))) p
  first_from top (v ∷ before) after w t p s = by (test (D v)) refl (first_from top before after w t p (λ x i. s x (inr i)))
    where
      rest : List B
      rest = filter test (map D (before ++ (w ∷ after)))

      by : (b : Bool) → test (D v) ≡ b → find top (filter test (map D (before ++ (w ∷ after)))) ≡ Some (D w)
          → find top (cond (test (D v)) (D v ∷ filter test (map D (before ++ (w ∷ after)))) (filter test (map D (before ++ (w ∷ after))))) ≡ Some (D w)
      by true e h = ap (λ c. find top (cond c (D v ∷ filter test (map D (before ++ (w ∷ after)))) (filter test (map D (before ++ (w ∷ after)))))) e
          ∙ ap (λ c. cond c (Some (D v)) (find top (filter test (map D (before ++ (w ∷ after)))))) (s v (inl refl) e) ∙ h
      by false e h = ap (λ c. find top (cond c (D v ∷ filter test (map D (before ++ (w ∷ after)))) (filter test (map D (before ++ (w ∷ after)))))) e ∙ h

  -- ---- of the highest number
  module _ (key : B → ℕ) (Is : Placed → ℕ → Type 0) (vs : List Placed)
      (is_of : (x : Placed) → Includes vs x → test (D x) ≡ true → Is x (key (D x)))
      (of_is : (x : Placed) (n : ℕ) → Includes vs x → Is x n → (test (D x) ≡ true) × (key (D x) ≡ n)) where
    abbrev highest : B → Bool
    highest d = list_all (λ o. nat_le (key o) (key d)) (filter test (map D vs))

    pub prevail_to : (d : B) → find highest (filter test (map D vs)) ≡ Some d → (w : Placed) × IsPrevailing Is vs w × Includes vs w × (D w ≡ d) × (test (D w) ≡ true)
    prevail_to d e = (
      f.w,
      record {
        number = key (D f.w);
        is = is_of f.w here f.tested;
        before = f.before;
        after = f.after;
        whole = f.whole;
        lower = λ x n i h. lower x n (included f.before x i) h;
        no_higher = λ x n i h. let j : Includes vs x = subst (λ y. Includes y x) (sym f.whole) (in_back f.before (f.w ∷ f.after) x (inr (included f.after x i))) in
            let t : (test (D x) ≡ true) × (key (D x) ≡ n) = of_is x n j h in subst (λ k. k ≤ key (D f.w)) t.1 (at_most x j t.0);
      },
      here,
      f.is,
      f.tested,
    )
      where
        f : IsFirst highest vs d
        f = first_to highest vs d e

        here : Includes vs f.w
        here = subst (λ y. Includes y f.w) (sym f.whole) (in_back f.before (f.w ∷ f.after) f.w (inl refl))

        at_most : (x : Placed) → Includes vs x → test (D x) ≡ true → key (D x) ≤ key (D f.w)
        at_most x i t = leb-true (key (D x)) (key (D f.w)) (each_passes (λ o. nat_le (key o) (key (D f.w))) (filter test (map D vs)) f.passes (D x) (kept vs x i t))

        lower : (x : Placed) (n : ℕ) → Includes f.before x → Is x n → n < key (D f.w)
        lower x n i h = let j : Includes vs x = subst (λ y. Includes y x) (sym f.whole) (in_front f.before (f.w ∷ f.after) x i) in
            let t : (test (D x) ≡ true) × (key (D x) ≡ n) = of_is x n j h in
            let m : key (D x) ≤ key (D f.w) = at_most x j t.0 in
            let differs : key (D x) ≡ key (D f.w) → ⊥ = λ q. let z : true ≡ false = sym f.passes ∙ ap (λ k. list_all (λ o. nat_le (key o) k) (filter test (map D vs))) (sym q) ∙ f.skipped x i t.0 in let no : ⊥ = cc in no in
            omega (arith, m, differs, t.1)

    pub prevail_from : (w : Placed) → IsPrevailing Is vs w → (find highest (filter test (map D vs)) ≡ Some (D w)) × Includes vs w
    prevail_from w h = (subst (λ y. find highest (filter test (map D y)) ≡ Some (D w)) (sym h.whole) (first_from highest h.before h.after w tested.0 passes skipped), here)
      where
        here : Includes vs w
        here = subst (λ y. Includes y w) (sym h.whole) (in_back h.before (w ∷ h.after) w (inl refl))

        tested : (test (D w) ≡ true) × (key (D w) ≡ h.number)
        tested = of_is w h.number here h.is

        by_place : (x : Placed) → Includes (h.before ++ (w ∷ h.after)) x → test (D x) ≡ true → Includes vs x → key (D x) ≤ h.number
        by_place x i t j = go h.before (λ y k. k) i
          where
            go : (front : List Placed) → ((y : Placed) → Includes front y → Includes h.before y) → Includes (front ++ (w ∷ h.after)) x → key (D x) ≤ h.number
            go [] s (inl p) = subst (λ y. key (D y) ≤ h.number) p (omega (arith, tested.1))
            go [] s (inr k) = h.no_higher x (key (D x)) (contained h.after x k) (is_of x j t)
            go (y ∷ front) s (inl p) = let l : key (D x) < h.number = h.lower x (key (D x)) (contained h.before x (subst (Includes h.before) p (s y (inl refl)))) (is_of x j t) in omega (arith, l)
            go (y ∷ front) s (inr k) = go front (λ z m. s z (inr m)) k

        passes : highest (D w) ≡ true
        passes = all_pass (λ o. nat_le (key o) (key (D w))) (filter test (map D vs)) (λ o i. let r : (x : Placed) × Includes vs x × (D x ≡ o) × (test (D x) ≡ true) = kept_from vs o i in
            let m : key (D r.0) ≤ h.number = by_place r.0 (subst (λ y. Includes y r.0) h.whole r.1) r.3 r.1 in
            subst (λ y. nat_le (key y) (key (D w)) ≡ true) r.2 (le-leb (key (D r.0)) (key (D w)) (omega (arith, m, tested.1))))

        skipped : (x : Placed) → Includes h.before x → test (D x) ≡ true → highest (D x) ≡ false
        skipped x i t = go (highest (D x)) refl
          where
            j : Includes vs x
            j = subst (λ y. Includes y x) (sym h.whole) (in_front h.before (w ∷ h.after) x i)

            go : (c : Bool) → highest (D x) ≡ c → c ≡ false
            go false e = refl
            go true e = absurd (let m : key (D w) ≤ key (D x) = leb-true (key (D w)) (key (D x)) (each_passes (λ o. nat_le (key o) (key (D x))) (filter test (map D vs)) e (D w) (kept vs w here tested.0)) in
                let l : key (D x) < h.number = h.lower x (key (D x)) (contained h.before x i) (is_of x j t) in let z : ⊥ = omega (arith, m, l, tested.1) in z)
