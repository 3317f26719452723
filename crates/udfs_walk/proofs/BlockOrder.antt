-- Runs of blocks, joined in rising order.
use Rattle.std.proofs.Common.{◌≡◌, refl, sym, ◌∙◌, ap, subst, inl, inr, ◌⊎◌, ℕ, ◌+◌, ◌-◌, ◌<◌, ◌≤◌, max, List, [], ◌∷◌, ◌++◌, length, drop, drop-cons, get_or, arith, append-nil, append_assoc}
use Rattle.std.specs.Prelude.{zero, suc}
use Rattle.std.specs.List.Sorted.{IsNonDecreasingBy, IsPermutation}
use Rattle.std.proofs.lemmas.List.Sorted.{Contains-permutation, IsPermutation-sym}
use Rattle.std.specs.List.{range_with_len}
use Rattle.std.proofs.lemmas.List.{length-drop}
use Rattle.udfs_lattice.specs.Volumes.{ascending}
use Rattle.udfs_lattice.proofs.Inclusion.{Includes, included, contained}
use Rattle.udfs_lattice.proofs.PublicLaws.{ascending_includes}
use Rattle.udfs_volume.specs.Seen.{IsRising}
use Rattle.udfs_volume.proofs.PublicLaws.{ascending_rises}
use Rattle.udfs_walk.specs.BlockRuns.{AreSorted, AreSortedFrom, blocks_of, run_blocks}
use Rattle.udfs_walk.specs.declared.block_runs.BlockRun.{BlockRun}
use Rattle.udfs_walk.proofs.Rising.{rising_same}

-- ---- lists and ranges
left : (xs ys : List ℕ) (n : ℕ) → Includes xs n → Includes (xs ++ ys) n
left [] ys n i = absurd i
left (x ∷ xs) ys n (inl e) = inl e
left (x ∷ xs) ys n (inr i) = inr (left xs ys n i)

right : (xs ys : List ℕ) (n : ℕ) → Includes ys n → Includes (xs ++ ys) n
right [] ys n i = i
right (x ∷ xs) ys n i = inr (right xs ys n i)

pub either : (xs ys : List ℕ) (n : ℕ) → Includes (xs ++ ys) n → Includes xs n ⊎ Includes ys n
either [] ys n i = inr i
either (x ∷ xs) ys n (inl e) = inl (inl e)
either (x ∷ xs) ys n (inr i) = go (either xs ys n i)
  where
    go : Includes xs n ⊎ Includes ys n → Includes (x ∷ xs) n ⊎ Includes ys n
    go (inl j) = inl (inr j)
    go (inr j) = inr j

range_in : (a k n : ℕ) → Includes (range_with_len a k) n → (a ≤ n) × (n < a + k)
range_in a zero n i = absurd i
range_in a (suc k) n (inl e) = (omega (arith, e), omega (arith, e))
range_in a (suc k) n (inr i) = let r = range_in (a + 1) k n i in (omega (arith, r.0), omega (arith, r.1))

in_range : (a k n : ℕ) → a ≤ n → n < a + k → Includes (range_with_len a k) n
in_range a zero n h l = absurd (let z : ⊥ = omega (arith, h, l) in z)
in_range a (suc k) n h l = go (n - a) refl (λ m. in_range (a + 1) k n m (omega (arith, l)))
  where
    go : (d : ℕ) → n - a ≡ d → (a + 1 ≤ n → Includes (range_with_len (a + 1) k) n) → Includes (range_with_len a (suc k)) n
    go zero e f = inl (omega (arith, h, e))
    go (suc d) e f = inr (f (omega (arith, e)))

rising_range : (a k : ℕ) → IsRising (range_with_len a k)
rising_range a zero = tt
rising_range a (suc k) = (λ m i. let r = range_in (a + 1) k m (included (range_with_len (a + 1) k) m i) in omega (arith, r.0), rising_range (a + 1) k)

rising_more : (xs ys : List ℕ) → IsRising xs → IsRising ys → ((x y : ℕ) → Includes xs x → Includes ys y → x < y) → IsRising (xs ++ ys)
rising_more [] ys r s h = s
rising_more (x ∷ xs) ys r s h = (λ m i. go m (either xs ys m (included (xs ++ ys) m i)), rising_more xs ys r.1 s (λ a b i j. h a b (inr i) j))
  where
    go : (m : ℕ) → Includes xs m ⊎ Includes ys m → x < m
    go m (inl i) = r.0 m (contained xs m i)
    go m (inr i) = h x m (inl refl) i

-- ---- runs
abbrev pub IsIn : BlockRun → ℕ → Type 0
IsIn r n = (r.first ≤ n) × (n ≤ r.last)

run_in : (r : BlockRun) (n : ℕ) → Includes (run_blocks r) n → IsIn r n
run_in r n i = let q = range_in r.first (r.last + 1 - r.first) n i in (q.0, omega (arith, q.0, q.1))

in_run : (r : BlockRun) (n : ℕ) → IsIn r n → Includes (run_blocks r) n
in_run r n i = in_range r.first (r.last + 1 - r.first) n i.0 (omega (arith, i.0, i.1))

pub opens : (rs : List BlockRun) (r : BlockRun) (rest : List BlockRun) → rs ≡ r ∷ rest → run_blocks r ++ blocks_of rest ≡ blocks_of rs
unfolding blocks_of
opens rs r rest e = sym (ap blocks_of e)

pub none : (rs : List BlockRun) → length rs ≡ 0 → blocks_of rs ≡ []
unfolding blocks_of
none [] e = refl
none (r ∷ rs) e = absurd (let z : ⊥ = omega (arith, e) in z)

-- ---- what the walk over sorted runs keeps
pub record IsJoining (all rest : List BlockRun) (joined : List ℕ) (tail : BlockRun) : Type 0 where
  pub rises : IsRising joined
  pub below : (n : ℕ) → Includes joined n → n < tail.first
  pub from_joined : (n : ℕ) → Includes joined n → Includes (blocks_of all) n
  pub from_tail : (n : ℕ) → IsIn tail n → Includes (blocks_of all) n
  pub from_rest : (n : ℕ) → Includes (blocks_of rest) n → Includes (blocks_of all) n
  pub to : (n : ℕ) → Includes (blocks_of all) n → Includes joined n ⊎ (IsIn tail n ⊎ Includes (blocks_of rest) n)
  pub sorted : AreSortedFrom tail.first rest

pub starts : (all rest : List BlockRun) (r : BlockRun) (joined : List ℕ) → all ≡ r ∷ rest → AreSorted all → joined ≡ [] → IsJoining all rest joined r
starts all rest r joined e s j = subst (λ z. IsJoining all rest z r) (sym j) (record {
  rises = tt;
  below = λ n i. absurd i;
  from_joined = λ n i. absurd i;
  from_tail = λ n i. subst (λ z. Includes z n) (opens all r rest e) (left (run_blocks r) (blocks_of rest) n (in_run r n i));
  from_rest = λ n i. subst (λ z. Includes z n) (opens all r rest e) (right (run_blocks r) (blocks_of rest) n i);
  to = λ n i. inr (go n (either (run_blocks r) (blocks_of rest) n (subst (λ z. Includes z n) (sym (opens all r rest e)) i)));
  sorted = (subst AreSorted e s).1;
})
  where
    go : (n : ℕ) → Includes (run_blocks r) n ⊎ Includes (blocks_of rest) n → IsIn r n ⊎ Includes (blocks_of rest) n
    go n (inl i) = inl (run_in r n i)
    go n (inr i) = inr i

-- a run that touches the open one
pub touches : (all rest later : List BlockRun) (joined : List ℕ) (tail new r : BlockRun) → IsJoining all rest joined tail → rest ≡ r ∷ later → r.first ≤ tail.last + 1
    → new.first ≡ tail.first → new.last ≡ max tail.last r.last → IsJoining all later joined new
touches all rest later joined tail new r g e h f l = record {
  rises = g.rises;
  below = λ n i. let b : n < tail.first = g.below n i in omega (arith, b, f);
  from_joined = g.from_joined;
  from_tail = λ n i. merged n i (n - tail.last) refl;
  from_rest = λ n i. g.from_rest n (subst (λ z. Includes z n) (opens rest r later e) (right (run_blocks r) (blocks_of later) n i));
  to = λ n i. back n (g.to n i);
  sorted = subst (λ z. AreSortedFrom z later) (sym f) (weaken later r.first tail.first sorted.0 sorted.1);
}
  where
    sorted : AreSortedFrom tail.first (r ∷ later)
    sorted = subst (AreSortedFrom tail.first) e g.sorted

    weaken : (rs : List BlockRun) (a b : ℕ) → b ≤ a → AreSortedFrom a rs → AreSortedFrom b rs
    weaken [] a b k s = tt
    weaken (x ∷ xs) a b k s = (let q : a ≤ x.first = s.0 in omega (arith, q, k), s.1)

    of_run : (n : ℕ) → IsIn r n → Includes (blocks_of all) n
    of_run n i = g.from_rest n (subst (λ z. Includes z n) (opens rest r later e) (left (run_blocks r) (blocks_of later) n (in_run r n i)))

    merged : (n : ℕ) → IsIn new n → (d : ℕ) → n - tail.last ≡ d → Includes (blocks_of all) n
    merged n i zero q = g.from_tail n (omega (arith, i.0, f), omega (arith, q))
    merged n i (suc d) q = of_run n (omega (arith, q, h), omega (arith, i.1, l, q))

    in_rest : (n : ℕ) → Includes (run_blocks r) n ⊎ Includes (blocks_of later) n → Includes joined n ⊎ (IsIn new n ⊎ Includes (blocks_of later) n)
    in_rest n (inl i) = let q = run_in r n i in let s : tail.first ≤ r.first = sorted.0 in inr (inl (omega (arith, q.0, s, f), omega (arith, q.1, l)))
    in_rest n (inr i) = inr (inr i)

    back : (n : ℕ) → Includes joined n ⊎ (IsIn tail n ⊎ Includes (blocks_of rest) n) → Includes joined n ⊎ (IsIn new n ⊎ Includes (blocks_of later) n)
    back n (inl i) = inl i
    back n (inr (inl i)) = inr (inl (omega (arith, i.0, f), omega (arith, i.1, l)))
    back n (inr (inr i)) = in_rest n (either (run_blocks r) (blocks_of later) n (subst (λ z. Includes z n) (sym (opens rest r later e)) i))

-- the open run ends
closed_rises : (all rest : List BlockRun) (joined : List ℕ) (tail : BlockRun) → IsJoining all rest joined tail → IsRising (joined ++ run_blocks tail)
closed_rises all rest joined tail g = rising_more joined (run_blocks tail) g.rises (rising_range tail.first (tail.last + 1 - tail.first))
    (λ x y i j. let b : x < tail.first = g.below x i in let q = run_in tail y j in omega (arith, b, q.0))

pub parts : (all rest later : List BlockRun) (joined more : List ℕ) (tail r : BlockRun) → IsJoining all rest joined tail → rest ≡ r ∷ later → tail.last + 1 < r.first
    → more ≡ joined ++ run_blocks tail → IsJoining all later more r
parts all rest later joined more tail r g e h m = subst (λ z. IsJoining all later z r) (sym m) (record {
  rises = closed_rises all rest joined tail g;
  below = λ n i. under n (either joined (run_blocks tail) n i);
  from_joined = λ n i. from n (either joined (run_blocks tail) n i);
  from_tail = λ n i. g.from_rest n (subst (λ z. Includes z n) (opens rest r later e) (left (run_blocks r) (blocks_of later) n (in_run r n i)));
  from_rest = λ n i. g.from_rest n (subst (λ z. Includes z n) (opens rest r later e) (right (run_blocks r) (blocks_of later) n i));
  to = λ n i. back n (g.to n i);
  sorted = (subst (AreSortedFrom tail.first) e g.sorted).1;
})
  where
    under : (n : ℕ) → Includes joined n ⊎ Includes (run_blocks tail) n → n < r.first
    under n (inl i) = let b : n < tail.first = g.below n i in let s : tail.first ≤ r.first = (subst (AreSortedFrom tail.first) e g.sorted).0 in omega (arith, b, s)
    under n (inr i) = let q = run_in tail n i in omega (arith, q.1, h)

    from : (n : ℕ) → Includes joined n ⊎ Includes (run_blocks tail) n → Includes (blocks_of all) n
    from n (inl i) = g.from_joined n i
    from n (inr i) = g.from_tail n (run_in tail n i)

    in_rest : (n : ℕ) → Includes (run_blocks r) n ⊎ Includes (blocks_of later) n → Includes (joined ++ run_blocks tail) n ⊎ (IsIn r n ⊎ Includes (blocks_of later) n)
    in_rest n (inl i) = inr (inl (run_in r n i))
    in_rest n (inr i) = inr (inr i)

    back : (n : ℕ) → Includes joined n ⊎ (IsIn tail n ⊎ Includes (blocks_of rest) n) → Includes (joined ++ run_blocks tail) n ⊎ (IsIn r n ⊎ Includes (blocks_of later) n)
    back n (inl i) = inl (left joined (run_blocks tail) n i)
    back n (inr (inl i)) = inl (right joined (run_blocks tail) n (in_run tail n i))
    back n (inr (inr i)) = in_rest n (either (run_blocks r) (blocks_of later) n (subst (λ z. Includes z n) (sym (opens rest r later e)) i))

pub ends : (all rest : List BlockRun) (joined whole : List ℕ) (tail : BlockRun) → IsJoining all rest joined tail → length rest ≡ 0
    → whole ≡ joined ++ run_blocks tail → whole ≡ ascending (blocks_of all)
ends all rest joined whole tail g e w = w ∙ rising_same (joined ++ run_blocks tail) (ascending (blocks_of all)) (closed_rises all rest joined tail g) (ascending_rises (blocks_of all))
    (λ n i. (ascending_includes (blocks_of all) n).1 (from n (either joined (run_blocks tail) n i)))
    (λ n i. back n (g.to n ((ascending_includes (blocks_of all) n).0 i)))
  where
    from : (n : ℕ) → Includes joined n ⊎ Includes (run_blocks tail) n → Includes (blocks_of all) n
    from n (inl i) = g.from_joined n i
    from n (inr i) = g.from_tail n (run_in tail n i)

    back : (n : ℕ) → Includes joined n ⊎ (IsIn tail n ⊎ Includes (blocks_of rest) n) → Includes (joined ++ run_blocks tail) n
    back n (inl i) = left joined (run_blocks tail) n i
    back n (inr (inl i)) = right joined (run_blocks tail) n (in_run tail n i)
    back n (inr (inr i)) = absurd (subst (λ z. Includes z n) (none rest e) i)

-- ---- the blocks of runs, spelled out
pub step : (rs : List BlockRun) (i : ℕ) (d : BlockRun) → i < length rs → blocks_of (drop i rs) ≡ run_blocks (get_or rs i d) ++ blocks_of (drop (i + 1) rs)
unfolding blocks_of
step rs i d h = ap blocks_of (drop-cons rs i d h) ∙ ap (λ n. run_blocks (get_or rs i d) ++ blocks_of (drop n rs)) (let e : suc i ≡ i + 1 = omega arith in e)

pub passed : (rs : List BlockRun) (i : ℕ) → length rs ≤ i → blocks_of (drop i rs) ≡ []
unfolding blocks_of
passed [] zero h = refl
passed [] (suc i) h = refl
passed (r ∷ rs) zero h = absurd (let z : ⊥ = omega (arith, h) in z)
passed (r ∷ rs) (suc i) h = passed rs i (omega (arith, h))

pub range_on : (xs ys whole : List ℕ) (n m last : ℕ) → n < last + 1 → m ≡ n → ys ≡ xs ++ m ∷ [] → xs ++ range_with_len n (last + 1 - n) ≡ whole
    → ys ++ range_with_len (n + 1) (last + 1 - (n + 1)) ≡ whole
range_on xs ys whole n m last h e y w = ap (λ z. z ++ range_with_len (n + 1) (last + 1 - (n + 1))) (y ∙ ap (λ z. xs ++ z ∷ []) e)
    ∙ append_assoc xs (n ∷ []) (range_with_len (n + 1) (last + 1 - (n + 1)))
    ∙ ap (λ k. xs ++ range_with_len n k) (let z : suc (last + 1 - (n + 1)) ≡ last + 1 - n = omega (arith, h) in z) ∙ w

pub range_done : (xs whole : List ℕ) (n last : ℕ) → last + 1 ≤ n → xs ++ range_with_len n (last + 1 - n) ≡ whole → xs ≡ whole
range_done xs whole n last h w = sym (append-nil xs) ∙ ap (λ k. xs ++ range_with_len n k) (let z : 0 ≡ last + 1 - n = omega (arith, h) in z) ∙ w

pub spelled_on : (rs : List BlockRun) (i : ℕ) (d : BlockRun) (xs ys whole : List ℕ) → i < length rs → ys ≡ xs ++ run_blocks (get_or rs i d)
    → xs ++ blocks_of (drop i rs) ≡ whole → ys ++ blocks_of (drop (i + 1) rs) ≡ whole
spelled_on rs i d xs ys whole h y w = ap (λ z. z ++ blocks_of (drop (i + 1) rs)) y ∙ append_assoc xs (run_blocks (get_or rs i d)) (blocks_of (drop (i + 1) rs))
    ∙ ap (λ z. xs ++ z) (sym (step rs i d h)) ∙ w

pub spelled_out : (rs : List BlockRun) (i : ℕ) (xs whole : List ℕ) → length rs ≤ i → xs ++ blocks_of (drop i rs) ≡ whole → xs ≡ whole
spelled_out rs i xs whole h w = sym (append-nil xs) ∙ ap (λ z. xs ++ z) (sym (passed rs i h)) ∙ w

-- ---- one turn of the loop
pub empty : (js rs : List BlockRun) → js ≡ [] → length rs ≡ 0 → blocks_of js ≡ ascending (blocks_of rs)
empty js rs e h = none js (ap length e) ∙ sym (ap ascending (none rs h))

next : (rest : List BlockRun) (i : ℕ) (d : BlockRun) → i < length rest → drop i rest ≡ get_or rest i d ∷ drop (i + 1) rest
next rest i d h = drop-cons rest i d h ∙ ap (λ n. get_or rest i d ∷ drop n rest) (let e : suc i ≡ i + 1 = omega arith in e)

pub touches_at : (all rest : List BlockRun) (i : ℕ) (d : BlockRun) (joined : List ℕ) (tail new : BlockRun) → i < length rest → IsJoining all (drop i rest) joined tail
    → (get_or rest i d).first ≤ tail.last + 1 → new.first ≡ tail.first → new.last ≡ max tail.last (get_or rest i d).last → IsJoining all (drop (i + 1) rest) joined new
touches_at all rest i d joined tail new h g t f l = touches all (drop i rest) (drop (i + 1) rest) joined tail new (get_or rest i d) g (next rest i d h) t f l

pub parts_at : (all rest : List BlockRun) (i : ℕ) (d : BlockRun) (joined more : List ℕ) (tail : BlockRun) → i < length rest → IsJoining all (drop i rest) joined tail
    → tail.last + 1 < (get_or rest i d).first → more ≡ joined ++ run_blocks tail → IsJoining all (drop (i + 1) rest) more (get_or rest i d)
parts_at all rest i d joined more tail h g t m = parts all (drop i rest) (drop (i + 1) rest) joined more tail (get_or rest i d) g (next rest i d h) t m

pub ends_at : (all rest : List BlockRun) (i : ℕ) (joined whole : List ℕ) (tail : BlockRun) → length rest ≤ i → IsJoining all (drop i rest) joined tail
    → whole ≡ joined ++ run_blocks tail → whole ≡ ascending (blocks_of all)
ends_at all rest i joined whole tail h g w = ends all (drop i rest) joined whole tail g (gone rest i h) w
  where
    gone : (rs : List BlockRun) (j : ℕ) → length rs ≤ j → length (drop j rs) ≡ 0
    gone rs j k = let e : length (drop j rs) ≡ length rs - j = length-drop j rs in omega (arith, e, k)

-- ---- sorting
sorted_behind : (x : BlockRun) (xs : List BlockRun) → IsNonDecreasingBy (λ r. r.first) (x ∷ xs) → AreSortedFrom x.first xs
sorted_behind x [] h = tt
sorted_behind x (y ∷ ys) h = (h 0 1 x (omega arith) (omega arith), sorted_behind y ys (λ i j d p q. h (suc i) (suc j) d (omega (arith, p)) (omega (arith, q))))

pub sorted : (xs : List BlockRun) → IsNonDecreasingBy (λ r. r.first) xs → AreSorted xs
sorted [] h = tt
sorted (x ∷ xs) h = (omega arith, sorted_behind x xs h)

in_blocks : (rs : List BlockRun) (r : BlockRun) (n : ℕ) → Includes rs r → Includes (run_blocks r) n → Includes (blocks_of rs) n
unfolding blocks_of
in_blocks [] r n i k = absurd i
in_blocks (x ∷ xs) r n (inl e) k = left (run_blocks x) (blocks_of xs) n (subst (λ z. Includes (run_blocks z) n) (sym e) k)
in_blocks (x ∷ xs) r n (inr i) k = right (run_blocks x) (blocks_of xs) n (in_blocks xs r n i k)

of_blocks : (rs : List BlockRun) (n : ℕ) → Includes (blocks_of rs) n → (r : BlockRun) × Includes rs r × Includes (run_blocks r) n
unfolding blocks_of
of_blocks [] n i = absurd i
of_blocks (x ∷ xs) n i = go (either (run_blocks x) (blocks_of xs) n i) (λ k. of_blocks xs n k)
  where
    go : Includes (run_blocks x) n ⊎ Includes (blocks_of xs) n → (Includes (blocks_of xs) n → (r : BlockRun) × Includes xs r × Includes (run_blocks r) n)
        → (r : BlockRun) × Includes (x ∷ xs) r × Includes (run_blocks r) n
    go (inl k) f = (x, inl refl, k)
    go (inr k) f = let q = f k in (q.0, inr q.1, q.2)

pub moved_in : (xs ys : List BlockRun) → ((r : BlockRun) → Includes xs r → Includes ys r) → (n : ℕ) → Includes (blocks_of xs) n → Includes (blocks_of ys) n
moved_in xs ys f n i = let q = of_blocks xs n i in in_blocks ys q.0 n (f q.0 q.1) q.2

pub permuted : (xs ys : List BlockRun) → IsPermutation xs ys → ascending (blocks_of ys) ≡ ascending (blocks_of xs)
permuted xs ys p = rising_same (ascending (blocks_of ys)) (ascending (blocks_of xs)) (ascending_rises (blocks_of ys)) (ascending_rises (blocks_of xs))
    (λ n i. (ascending_includes (blocks_of xs) n).1 (moved_in ys xs (λ r k. included xs r (Contains-permutation ys xs r (IsPermutation-sym xs ys p) (contained ys r k))) n ((ascending_includes (blocks_of ys) n).0 i)))
    (λ n i. (ascending_includes (blocks_of ys) n).1 (moved_in xs ys (λ r k. included ys r (Contains-permutation xs ys r p (contained xs r k))) n ((ascending_includes (blocks_of xs) n).0 i)))
