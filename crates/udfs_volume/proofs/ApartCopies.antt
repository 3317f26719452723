-- The known copies of the sequence of a lawful layout do not differ in what is read of them.
use Rattle.std.proofs.Common.{◌≡◌, refl, sym, ◌∙◌, ap, subst, inl, inr, ◌⊎◌, ℕ, ◌+◌, ◌-◌, ◌/◌, ◌<◌, ◌≤◌, Bool, true, false, not, ◌&&◌, ◌||◌, cond, nat_eq, ◌∷◌, drop, arith}
use Rattle.std.specs.Prelude.{zero, suc}
use Rattle.std.specs.List.{list_all, list_any, range_with_len}
use Rattle.std.specs.Str.{bytes_eq}
use Rattle.std.proofs.lemmas.Bool.{eq-eqb}
use Rattle.udfs_lattice.specs.States.{State, same_refl}
use Rattle.udfs_lattice.specs.Volumes.{Agrees, Blocks, Volume, complete}
use Rattle.udfs_lattice.specs.declared.facts.Fact.TheVariants.{Unknown, Known, Conflict}
use Rattle.udfs_tag.specs.Tags.{is_sound, identifier}
use Rattle.udfs_volume.specs.Answers.{Answer, found, holes, faulty, IsHoles}
use Rattle.udfs_volume.specs.declared.anchors.AnchorExtents.{AnchorExtents}
use Rattle.udfs_volume.specs.declared.profiles.Profile.{Profile}
use Rattle.udfs_volume.specs.Differences.{contents_differ, differ_at, differ_by, differ_in, known_differ, reaches, CopiesAgreeBy}
use Rattle.udfs_volume.specs.Laws.{IsLawfulLayoutBy, SaysTheSame, is_of_layout}
use Rattle.udfs_volume.specs.Sequence.{anchor, are_extents_by, goes_on, position, shared, shorter}
use Rattle.udfs_volume.proofs.Known.{both, true_false}
use Rattle.udfs_volume.proofs.LayoutLaw.{anchor_of_lawful, main_fits}
use Rattle.udfs_volume.proofs.Needed.{goes_needed}
use Rattle.udfs_volume.proofs.Positions.{PositionIs, same, neither, position_lem}

-- ---- the copies of one position
no_difference : (s1 s2 l i b : Bool) → s2 ≡ s1 → (s1 ≡ true → i ≡ true) → (s1 ≡ true → l ≡ true → b ≡ true)
    → not (cond s1 (s2 && (i && (not l || b))) (not s2)) ≡ false
no_difference false false l i b s id c = refl
no_difference false true l i b s id c = absurd (let z : ⊥ = cc in z)
no_difference true false l i b s id c = absurd (let z : ⊥ = cc in z)
no_difference true true l false b s id c = absurd (let q : false ≡ true = id refl in let z : ⊥ = cc in z)
no_difference true true false true b s id c = refl
no_difference true true true true true s id c = refl
no_difference true true true true false s id c = absurd (let q : false ≡ true = c refl refl in let z : ⊥ = cc in z)

same_contents : (V : Volume) (m r : ℕ) → SaysTheSame V m r → contents_differ (V m) m (V r) r ≡ false
same_contents V m r s = no_difference (is_sound (V m) m) (is_sound (V r) r) (is_of_layout (identifier (V m)))
    (nat_eq (identifier (V m)) (identifier (V r))) (bytes_eq (drop 16 (V m)) (drop 16 (V r)))
    (sym s.soundness)
    (λ p. eq-eqb (identifier (V m)) (identifier (V r)) (s.identifiers p))
    (λ p q. ap (bytes_eq (drop 16 (V m))) (sym (s.contents p q)) ∙ same_refl (drop 16 (V m)))

not_different : (T : Blocks) (V : Volume) (N : ℕ) → Agrees T V N → (m r : ℕ) → SaysTheSame V m r → known_differ (T m) m (T r) r ≡ false
not_different T V N a m r s = go (T m) refl (T r) refl
  where
    go : (x : State) → T m ≡ x → (y : State) → T r ≡ y → known_differ x m y r ≡ false
    go Unknown p y q = refl
    go Conflict p y q = refl
    go (Known one) p Unknown q = refl
    go (Known one) p Conflict q = refl
    go (Known one) p (Known other) q = ap (λ b. contents_differ b m other r) (a.known m one p) ∙ ap (λ b. contents_differ (V m) m b r) (a.known r other q)
        ∙ same_contents V m r s

-- ---- the positions that are known to be reached
all_front : (f : ℕ → Bool) (c n j : ℕ) → list_all f (range_with_len c n) ≡ true → c ≤ j → j < c + n → f j ≡ true
all_front f c zero j h l m = absurd (let z : ⊥ = omega (arith, l, m) in z)
all_front f c (suc n) j h l m = go (λ k. all_front f (c + 1) n j q.1 k (omega (arith, m))) (eq_or_later c j l)
  where
    q : (f c ≡ true) × (list_all f (range_with_len (c + 1) n) ≡ true)
    q = both (f c) (list_all f (range_with_len (c + 1) n)) h

    eq_or_later : (c j : ℕ) → c ≤ j → (c ≡ j) ⊎ (c + 1 ≤ j)
    eq_or_later c j h = grind arith

    go : (c + 1 ≤ j → f j ≡ true) → (c ≡ j) ⊎ (c + 1 ≤ j) → f j ≡ true
    go later (inl e) = ap f (sym e) ∙ q.0
    go later (inr k) = later k

all_but_last : (f : ℕ → Bool) (n c : ℕ) → list_all f (range_with_len c (suc n)) ≡ true → list_all f (range_with_len c n) ≡ true
all_but_last f zero c h = refl
all_but_last f (suc n) c h = let p : (f c ≡ true) × (list_all f (range_with_len (c + 1) (suc n)) ≡ true) = both (f c) (list_all f (range_with_len (c + 1) (suc n))) h in
    λ x. p.0 x && all_but_last f n (c + 1) p.1 x

none_any : (f : ℕ → Bool) (c n : ℕ) → ((i : ℕ) → c ≤ i → i < c + n → f i ≡ false) → list_any f (range_with_len c n) ≡ false
none_any f c zero h = refl
none_any f c (suc n) h = λ i. h c (omega arith) (omega arith) i || none_any f (c + 1) n (λ j l m. h j (omega (arith, l)) (omega (arith, m))) i

-- a position that is known to go on goes on in the volume too
goes_on_there : (T : Blocks) (V : Volume) (N m r : ℕ) → PositionIs T V N m r → goes_on (position T m r) ≡ true → goes_on (position (complete V N) m r) ≡ true
goes_on_there T V N m r (same p n i k) g = sym (goes_needed (position (complete V N) m r)) ∙ ap goes_on (sym p) ∙ goes_needed (position T m r) ∙ g
goes_on_there T V N m r (neither p u v) g = absurd (let q : false ≡ true = ap goes_on (sym p) ∙ g in let z : ⊥ = cc in z)

reached : (profile : Profile) (T : Blocks) (V : Volume) (N : ℕ) → Agrees T V N → IsLawfulLayoutBy profile V N → (e : AnchorExtents)
    → anchor (complete V N) N ≡ found e → are_extents_by profile N e ≡ true → (i : ℕ) → i < shorter e / 2048 → reaches T e i ≡ true
    → (j : ℕ) → j < i → goes_on (position (complete V N) (e.main.block + j) (e.reserve.block + j)) ≡ true
reached profile T V N a lw e q b zero l h j m = absurd (let z : ⊥ = omega (arith, m) in z)
reached profile T V N a lw e q b (suc i) l h j m = go (reached profile T V N a lw e q b i (omega (arith, l)) (all_but_last g i 0 h)) (less_or_eq i j m)
  where
    g : ℕ → Bool
    g k = goes_on (position T (e.main.block + k) (e.reserve.block + k))

    less_or_eq : (i j : ℕ) → j < suc i → (j < i) ⊎ (i ≡ j)
    less_or_eq i j h = grind arith

    Before : Type 0
    Before = (k : ℕ) → k < i → goes_on (position (complete V N) (e.main.block + k) (e.reserve.block + k)) ≡ true

    fits : e.main.block + i ≤ N
    fits = let f : e.main.block + shorter e / 2048 ≤ N + 1 = main_fits profile N e b in omega (arith, f, l)

    here : Before → goes_on (position (complete V N) (e.main.block + i) (e.reserve.block + i)) ≡ true
    here before = goes_on_there T V N (e.main.block + i) (e.reserve.block + i) (position_lem T V N a (e.main.block + i) (e.reserve.block + i) fits
        (lw.copies e i q (record { inside = omega (arith, l); before = before })))
        (all_front g 0 (suc i) i h (omega arith) (omega arith))

    go : Before → (j < i) ⊎ (i ≡ j) → goes_on (position (complete V N) (e.main.block + j) (e.reserve.block + j)) ≡ true
    go before (inl k) = before j k
    go before (inr p) = subst (λ k. goes_on (position (complete V N) (e.main.block + k) (e.reserve.block + k)) ≡ true) p (here before)

no_copies_differ : (profile : Profile) (T : Blocks) (V : Volume) (N : ℕ) → Agrees T V N → IsLawfulLayoutBy profile V N → (e : AnchorExtents)
    → anchor (complete V N) N ≡ found e → are_extents_by profile N e ≡ true → differ_in T (shared e) ≡ false
no_copies_differ profile T V N a lw e q b = none_any (λ i. reaches T e i && differ_at T e i) 0 (shorter e / 2048) (λ i l m. go i m (reaches T e i) refl)
  where
    go : (i : ℕ) → i < 0 + shorter e / 2048 → (r : Bool) → reaches T e i ≡ r → (reaches T e i && differ_at T e i) ≡ false
    go i m false h = ap (λ x. x && differ_at T e i) h
    go i m true h = ap (λ x. x && differ_at T e i) h ∙ not_different T V N a (e.main.block + i) (e.reserve.block + i)
        (lw.copies e i q (record { inside = omega (arith, m); before = reached profile T V N a lw e q b i (omega (arith, m)) h }))

pub copies_agree : (profile : Profile) → CopiesAgreeBy profile
copies_agree profile T V N hv lw a = go (anchor T N) refl
  where
    by : (e : AnchorExtents) → anchor (complete V N) N ≡ found e → (b : Bool) → are_extents_by profile N e ≡ b → (are_extents_by profile N e && differ_in T (shared e)) ≡ false
    by e q true b = ap (λ x. x && differ_in T (shared e)) b ∙ no_copies_differ profile T V N a lw e q b
    by e q false b = ap (λ x. x && differ_in T (shared e)) b

    go : (x : Answer AnchorExtents) → anchor T N ≡ x → differ_by profile T N x ≡ false
    go (found e) p = by e (anchor_of_lawful profile T V N hv.from lw a e p) (are_extents_by profile N e) refl
    go (holes ns) p = refl
    go (faulty f) p = refl

-- where the anchor is not found, nothing differs
pub differ_of_holes : (profile : Profile) (T : Blocks) (N : ℕ) (x : Answer AnchorExtents) → IsHoles x → differ_by profile T N x ≡ false
differ_of_holes profile T N (found e) h = absurd h
differ_of_holes profile T N (holes ns) h = refl
differ_of_holes profile T N (faulty f) h = absurd h

-- ---- the walk over the positions
unroll : (i n : ℕ) → i < n → range_with_len i (n - i) ≡ i ∷ range_with_len (i + 1) (n - (i + 1))
unroll i n h = let e : n - i ≡ suc (n - (i + 1)) = omega (arith, h) in ap (range_with_len i) e

all_next : (f : ℕ → Bool) (c n : ℕ) → list_all f (range_with_len c n) ≡ true → f (c + n) ≡ true → list_all f (range_with_len c (suc n)) ≡ true
all_next f c zero h e = let same : c + 0 ≡ c = omega arith in λ i. (ap f (sym same) ∙ e) i && true
all_next f c (suc n) h e = let p : (f c ≡ true) × (list_all f (range_with_len (c + 1) n) ≡ true) = both (f c) (list_all f (range_with_len (c + 1) n)) h in
    let same : c + suc n ≡ c + 1 + n = omega arith in
    λ i. p.0 i && all_next f (c + 1) n p.1 (ap f (sym same) ∙ e) i

-- one more position is reached
pub reaches_next : (T : Blocks) (e : AnchorExtents) (i : ℕ) → reaches T e i ≡ true → goes_on (position T (e.main.block + i) (e.reserve.block + i)) ≡ true → reaches T e (i + 1) ≡ true
reaches_next T e i h g = let next : i + 1 ≡ suc i = omega arith in let same : 0 + i ≡ i = omega arith in
    ap (reaches T e) next ∙ all_next (λ j. goes_on (position T (e.main.block + j) (e.reserve.block + j))) 0 i h (ap (λ j. goes_on (position T (e.main.block + j) (e.reserve.block + j))) same ∙ g)

-- the copies of a position that is reached differ
pub differ_here : (T : Blocks) (e : AnchorExtents) (i n : ℕ) → i < n → reaches T e i ≡ true → differ_at T e i ≡ true
    → list_any (λ k. reaches T e k && differ_at T e k) (range_with_len i (n - i)) ≡ true
differ_here T e i n l r d = ap (list_any (λ k. reaches T e k && differ_at T e k)) (unroll i n l)
    ∙ (λ x. (r x && d x) || list_any (λ k. reaches T e k && differ_at T e k) (range_with_len (i + 1) (n - (i + 1))))

-- they do not
pub differ_later : (T : Blocks) (e : AnchorExtents) (i n : ℕ) → i < n → differ_at T e i ≡ false
    → list_any (λ k. reaches T e k && differ_at T e k) (range_with_len (i + 1) (n - (i + 1))) ≡ list_any (λ k. reaches T e k && differ_at T e k) (range_with_len i (n - i))
differ_later T e i n l d = sym (ap (list_any (λ k. reaches T e k && differ_at T e k)) (unroll i n l)
    ∙ ap (λ b. b || list_any (λ k. reaches T e k && differ_at T e k) (range_with_len (i + 1) (n - (i + 1)))) (not_both (reaches T e i) (differ_at T e i) d))
  where
    not_both : (a b : Bool) → b ≡ false → (a && b) ≡ false
    not_both true b h = h
    not_both false b h = refl

-- and no later position is reached
pub differ_nowhere : (T : Blocks) (e : AnchorExtents) (i n : ℕ) → i < n → differ_at T e i ≡ false → goes_on (position T (e.main.block + i) (e.reserve.block + i)) ≡ false
    → list_any (λ k. reaches T e k && differ_at T e k) (range_with_len i (n - i)) ≡ false
differ_nowhere T e i n l d g = sym (differ_later T e i n l d) ∙ none_any (λ k. reaches T e k && differ_at T e k) (i + 1) (n - (i + 1)) (λ k a b. go k a (reaches T e k) refl)
  where
    go : (k : ℕ) → i + 1 ≤ k → (r : Bool) → reaches T e k ≡ r → (reaches T e k && differ_at T e k) ≡ false
    go k a false h = ap (λ x. x && differ_at T e k) h
    go k a true h = true_false (goes_on (position T (e.main.block + i) (e.reserve.block + i)))
        (all_front (λ j. goes_on (position T (e.main.block + j) (e.reserve.block + j))) 0 k i h (omega arith) (omega (arith, a))) g
