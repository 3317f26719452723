-- Counts of blocks, arc by arc: what is counted, and what is left to count.
use Rattle.std.proofs.Common.{◌≡◌, ◌∙◌, refl, sym, ap, arith, ℕ, ◌+◌, ◌-◌, ◌^◌, ◌<◌, ◌≤◌, Bool, true, false, cond, List, [], ◌∷◌, length, get_or, map, zero, suc, ◌++◌}
use Rattle.std.specs.List.{range_with_len}
use Rattle.std.proofs.lemmas.List.FromFn.{map-range_with_len_more}
use Rattle.udfs_lattice.specs.States.{State}
use Rattle.udfs_lattice.specs.Stores.{known_as}
use Rattle.udfs_lattice.specs.Volumes.{Blocks}
use Rattle.udfs_lattice.specs.declared.facts.Fact.TheVariants.{Unknown, Known, Conflict}
use Rattle.udfs_page.specs.Arcs.{arc_length, arc_mark, counted_in, is_counted, is_seen, mark_of, needed_in}
use Rattle.std.specs.Prelude.{count_by}
use Rattle.std.proofs.lemmas.List.Sums.{sum_by-cons, count_by-le-length}

-- each arc's count and the count of what is left are the count of all
abbrev pub AreCounted : {X : Type 0} → (ℕ → X → Bool) → List X → List X → List ℕ → Type 0
AreCounted p all left counts = (i : ℕ) → i < length counts → get_or counts i 0 + count_by (p i) left ≡ count_by (p i) all

-- nothing is counted yet
pub none_counted : {X : Type 0} (p : ℕ → X → Bool) (all left : List X) (counts : List ℕ) → left ≡ all → ((i : ℕ) → i < length counts → get_or counts i 0 ≡ 0) → AreCounted p all left counts
none_counted p all left counts e nothing i less =
    let z = nothing i less in
    let same : count_by (p i) left ≡ count_by (p i) all = ap (count_by (p i)) e in
    omega (arith, z, same)

-- one more is counted
pub one_more : {X : Type 0} (p : ℕ → X → Bool) (all left rest : List X) (x : X) (olds news : List ℕ) → length all < 2 ^ 64 - 1 → left ≡ x ∷ rest → length news ≡ length olds
    → ((i : ℕ) → i < length olds → get_or olds i 0 < 2 ^ 64 - 1 → get_or news i 0 ≡ get_or olds i 0 + cond (p i x) 1 0)
    → AreCounted p all left olds → AreCounted p all rest news
one_more p all left rest x olds news few is size step h i less =
    let before : i < length olds = omega (arith, less, size) in
    let so_far = h i before in
    let most = count_by-le-length (p i) all in
    let small : get_or olds i 0 < 2 ^ 64 - 1 = omega (arith, so_far, most, few) in
    let new = step i before small in
    let split : count_by (p i) left ≡ cond (p i x) 1 0 + count_by (p i) rest = ap (count_by (p i)) is ∙ sum_by-cons (λ y. cond (p i y) 1 0) x rest in
    omega (arith, so_far, new, split)

-- all is counted
pub all_counted : {X : Type 0} (p : ℕ → X → Bool) (all left : List X) (counts : List ℕ) → left ≡ [] → AreCounted p all left counts → (i : ℕ) → i < length counts → get_or counts i 0 ≡ count_by (p i) all
all_counted p all left counts e h i less =
    let none : count_by (p i) left ≡ 0 = ap (count_by (p i)) e in
    let so_far = h i less in
    omega (arith, so_far, none)

-- what is the same at each number of a range
pub map_same : {X : Type 0} (f g : ℕ → X) (a n : ℕ) → ((i : ℕ) → i < a + n → f i ≡ g i) → map f (range_with_len a n) ≡ map g (range_with_len a n)
map_same f g a zero h = refl
map_same f g a (suc n) h =
    ap (λ x. x ∷ map f (range_with_len (a + 1) n)) (h a (omega arith))
    ∙ ap (λ xs. g a ∷ xs) (map_same f g (a + 1) n (λ i less. h i (omega (arith, less))))

-- one more of a range
pub range_more : {X : Type 0} (f : ℕ → X) (olds news : List X) (n : ℕ) (x : X) → news ≡ olds ++ x ∷ [] → x ≡ f n → olds ≡ map f (range_with_len 0 n) → news ≡ map f (range_with_len 0 (n + 1))
range_more f olds news n x e is h = e ∙ (λ j. h j ++ is j ∷ []) ∙ sym (map-range_with_len_more f 0 n n (omega arith))

-- the numbers from one of them on
pub unroll : (i n : ℕ) → i < n → range_with_len i (n - i) ≡ i ∷ range_with_len (i + 1) (n - (i + 1))
unroll i n h = let e : n - i ≡ suc (n - (i + 1)) = omega (arith, h) in ap (range_with_len i) e

pub none_left : (i n : ℕ) → n ≤ i → range_with_len i (n - i) ≡ []
none_left i n h = let e : n - i ≡ 0 = omega (arith, h) in ap (range_with_len i) e

pub range_size : (a n : ℕ) → length (range_with_len a n) ≡ n
range_size a zero = refl
range_size a (suc n) = ap suc (range_size (a + 1) n)

-- without the bytes of a block it is known whether it counts
pub seen_counted : (conflicts : Bool) (s : State) → is_seen conflicts (known_as s) ≡ is_counted conflicts s
seen_counted true Unknown = refl
seen_counted true (Known bytes) = refl
seen_counted true Conflict = refl
seen_counted false Unknown = refl
seen_counted false (Known bytes) = refl
seen_counted false Conflict = refl

-- the counts of all arcs say what is shown of them
pub arcs_by_counts : (t : Blocks) (reread : List ℕ) (count blocks : ℕ) (ks cs ns : List ℕ) → length ks ≡ count
    → ((i : ℕ) → i < count → get_or ks i 0 ≡ counted_in false t count blocks i)
    → ((i : ℕ) → i < count → get_or cs i 0 ≡ counted_in true t count blocks i)
    → ((i : ℕ) → i < count → get_or ns i 0 ≡ needed_in reread count blocks i)
    → map (λ i. mark_of (get_or ks i 0) (get_or cs i 0) (get_or ns i 0) (arc_length (length ks) blocks i)) (range_with_len 0 (length ks)) ≡ map (arc_mark t reread count blocks) (range_with_len 0 count)
arcs_by_counts t reread count blocks ks cs ns size known conflicts needed =
    ap (λ n. map (λ i. mark_of (get_or ks i 0) (get_or cs i 0) (get_or ns i 0) (arc_length n blocks i)) (range_with_len 0 n)) size
    ∙ map_same _ (arc_mark t reread count blocks) 0 count (λ i less.
    let l : i < count = omega (arith, less) in
    let a = known i l in
    let b = conflicts i l in
    let d = needed i l in
    (λ j. mark_of (a j) (b j) (d j) (arc_length count blocks i)))
