-- The masks of a packet, by the states of its blocks and by their bits.
use Rattle.std.proofs.Common.{◌≡◌, ℕ, zero, suc, ◌+◌, ◌*◌, ◌/◌, ◌%◌, ◌^◌, ◌<◌, ◌≤◌, Bool, true, false, cond, List, [], ◌∷◌, ◌++◌, length, take, drop, refl, sym, ap, ◌∙◌, append_assoc, arith, length-append}
use Rattle.std.specs.Prelude.{◌==◌}
use Rattle.std.specs.List.{flat_map, AllByRecursion}
use Rattle.std.specs.Int.Bits.{bit_and}
use Rattle.std.specs.Int.RustNames.{count_ones}
use Rattle.std.proofs.lemmas.Nat.{ones_cat, and_block, pow-add}
use Rattle.std.proofs.Math.Numerals.{one-add}
use Rattle.std.proofs.lemmas.List.{take_at, drop_at}
use Rattle.udfs_lattice.specs.declared.facts.Fact.TheVariants.{Unknown, Known, Conflict}
use Rattle.udfs_lattice.specs.States.{State, is_known, is_conflict}
use Rattle.udfs_reading.specs.PacketFile.{mask_of, content, says_some}
use Rattle.udfs_reading.specs.PacketReading.{IsHeld, size_of_blocks}

-- ---- the last bit and the others

one_bit : (b : ℕ) → b < 2 → count_ones b ≡ b
unfolding count_ones
one_bit zero h = refl
one_bit (suc zero) h = refl
one_bit (suc (suc b)) h = absurd (omega arith)

ones_double : (b m : ℕ) → b < 2 → count_ones (b + 2 * m) ≡ b + count_ones m
ones_double b m h =
    let e : b + 2 * m ≡ m * 2 ^ 1 + b = omega arith in
    let f : count_ones (m * 2 ^ 1 + b) ≡ count_ones m + count_ones b = ones_cat 1 m b (omega arith) in
    let g = one_bit b h in
    ap count_ones e ∙ f ∙ ap (λ x. count_ones m + x) g ∙ omega arith

ones_even : (m : ℕ) → count_ones (0 + 2 * m) ≡ count_ones m
ones_even m = ones_double 0 m (omega arith) ∙ omega arith

pub ones_half : (k : ℕ) → count_ones k ≡ k % 2 + count_ones (k / 2)
ones_half k =
    let e : k ≡ k % 2 + 2 * (k / 2) = omega arith in
    ap count_ones e ∙ ones_double (k % 2) (k / 2) (omega arith)

and_double : (a b m n : ℕ) → a < 2 → b < 2 → bit_and (a + 2 * m) (b + 2 * n) ≡ bit_and m n * 2 ^ 1 + bit_and a b
and_double a b m n h k =
    let e : a + 2 * m ≡ m * 2 ^ 1 + a = omega arith in
    let f : b + 2 * n ≡ n * 2 ^ 1 + b = omega arith in
    ap (λ x. bit_and x (b + 2 * n)) e ∙ ap (bit_and (m * 2 ^ 1 + a)) f ∙ and_block 1 m n a b (omega arith) (omega arith)

-- masks that share no bit share none but the last, nor there
pub apart_half : (k c : ℕ) → bit_and k c ≡ 0 → (bit_and (k / 2) (c / 2) ≡ 0) × (bit_and (k % 2) (c % 2) ≡ 0)
apart_half k c h =
    let e : k ≡ k % 2 + 2 * (k / 2) = omega arith in
    let f : c ≡ c % 2 + 2 * (c / 2) = omega arith in
    let both : bit_and (k / 2) (c / 2) * 2 ^ 1 + bit_and (k % 2) (c % 2) ≡ 0 =
    sym (and_double (k % 2) (c % 2) (k / 2) (c / 2) (omega arith) (omega arith)) ∙ ap (λ x. bit_and x (c % 2 + 2 * (c / 2))) (sym e) ∙ ap (bit_and k) (sym f) ∙ h in
    (omega arith, omega arith)

pub pow_double : (m : ℕ) → 2 ^ suc m ≡ 2 * 2 ^ m
pow_double m = ap (λ k. 2 ^ k) (sym (one-add m)) ∙ pow-add 2 1 m

pub halve : (k m : ℕ) → k < 2 ^ suc m → k / 2 < 2 ^ m
halve k m h = let e = pow_double m in omega arith

-- ---- the masks of states

pub masks_apart : (ss : List State) → bit_and (mask_of is_known ss) (mask_of is_conflict ss) ≡ 0
masks_apart [] = refl
masks_apart (Unknown ∷ ss) = let h = masks_apart ss in and_double 0 0 (mask_of is_known ss) (mask_of is_conflict ss) (omega arith) (omega arith) ∙ ap (λ x. x * 2 ^ 1 + 0) h
masks_apart (Known b ∷ ss) = let h = masks_apart ss in and_double 1 0 (mask_of is_known ss) (mask_of is_conflict ss) (omega arith) (omega arith) ∙ ap (λ x. x * 2 ^ 1 + 0) h
masks_apart (Conflict ∷ ss) = let h = masks_apart ss in and_double 0 1 (mask_of is_known ss) (mask_of is_conflict ss) (omega arith) (omega arith) ∙ ap (λ x. x * 2 ^ 1 + 0) h

bit_low : (b : Bool) → cond b 1 0 ≤ 1
bit_low true = omega arith
bit_low false = omega arith

pub mask_below : (test : State → Bool) (ss : List State) → mask_of test ss < 2 ^ length ss
mask_below test [] = omega arith
mask_below test (s ∷ ss) =
    let h = mask_below test ss in
    let low = bit_low (test s) in
    let e = pow_double (length ss) in
    omega arith

pub some_mask : (ss : List State) → says_some ss ≡ true → 0 < mask_of is_known ss + mask_of is_conflict ss
some_mask [] h = absurd cc
some_mask (Unknown ∷ ss) h = let k = some_mask ss h in omega arith
some_mask (Known b ∷ ss) h = omega arith
some_mask (Conflict ∷ ss) h = omega arith

pub mask_some : (ss : List State) → 0 < mask_of is_known ss + mask_of is_conflict ss → says_some ss ≡ true
mask_some [] h = absurd (omega arith)
mask_some (Unknown ∷ ss) h = mask_some ss (omega arith)
mask_some (Known b ∷ ss) h = refl
mask_some (Conflict ∷ ss) h = refl

-- ---- the bytes of the known blocks

bytes_of_blocks : (l : ℕ) (ss : List State) → l ≡ 2048 → AllByRecursion IsHeld ss → length (flat_map content ss) ≡ l * count_ones (mask_of is_known ss)
bytes_of_blocks l [] e h = let z : count_ones 0 ≡ 0 = one_bit 0 (omega arith) in rw z (omega arith)
bytes_of_blocks l (Unknown ∷ ss) e h =
    let k = bytes_of_blocks l ss e h.1 in k ∙ ap (λ x. l * x) (sym (ones_even (mask_of is_known ss)))
bytes_of_blocks l (Known b ∷ ss) e h =
    let k = bytes_of_blocks l ss e h.1 in
    let one : length b ≡ l = h.0.whole ∙ sym e in
    let m = count_ones (mask_of is_known ss) in
    let more : l + l * m ≡ l * (1 + m) = omega arith in
    length-append b (flat_map content ss) ∙ ap (λ x. x + length (flat_map content ss)) one ∙ ap (λ x. l + x) k ∙ more ∙ ap (λ x. l * x) (sym (ones_double 1 (mask_of is_known ss) (omega arith)))
bytes_of_blocks l (Conflict ∷ ss) e h =
    let k = bytes_of_blocks l ss e h.1 in k ∙ ap (λ x. l * x) (sym (ones_even (mask_of is_known ss)))

pub blocks_size : (ss : List State) → AllByRecursion IsHeld ss → length (flat_map content ss) ≡ size_of_blocks (mask_of is_known ss)
unfolding size_of_blocks
blocks_size ss h = bytes_of_blocks 2048 ss refl h

-- one block is left, and those of the mask without its last bit
size_step : (l k : ℕ) → l * count_ones k ≡ l * (k % 2) + l * count_ones (k / 2)
size_step l k = let e = ones_half k in let m = count_ones (k / 2) in let b = k % 2 in ap (λ x. l * x) e ∙ (let d : l * (b + m) ≡ l * b + l * m = omega arith in d)

pub size_odd : (k : ℕ) → k % 2 ≡ 1 → size_of_blocks k ≡ 2048 + size_of_blocks (k / 2)
unfolding size_of_blocks
size_odd k h = size_step 2048 k ∙ ap (λ x. 2048 * x + 2048 * count_ones (k / 2)) h

pub size_even : (k : ℕ) → k % 2 ≡ 0 → size_of_blocks k ≡ size_of_blocks (k / 2)
unfolding size_of_blocks
size_even k h = size_step 2048 k ∙ ap (λ x. 2048 * x + 2048 * count_ones (k / 2)) h ∙ omega arith

-- ---- the states that masks and bytes tell

unfoldable pub states_by : ℕ → ℕ → ℕ → List ℕ → List State
states_by zero k c bytes = []
states_by (suc m) k c bytes =
    cond (k % 2 == 1) (Known (take 2048 bytes) ∷ states_by m (k / 2) (c / 2) (drop 2048 bytes))
    (cond (c % 2 == 1) (Conflict ∷ states_by m (k / 2) (c / 2) bytes) (Unknown ∷ states_by m (k / 2) (c / 2) bytes))

by_known : (m k c : ℕ) (b rest : List ℕ) → k % 2 ≡ 1 → length b ≡ 2048 → states_by (suc m) k c (b ++ rest) ≡ Known b ∷ states_by m (k / 2) (c / 2) rest
unfolding states_by
by_known m k c b rest odd len = rw (odd, take_at b rest 2048 len, drop_at b rest 2048 len) refl

by_conflict : (m k c : ℕ) (rest : List ℕ) → k % 2 ≡ 0 → c % 2 ≡ 1 → states_by (suc m) k c rest ≡ Conflict ∷ states_by m (k / 2) (c / 2) rest
unfolding states_by
by_conflict m k c rest even odd = rw (even, odd) refl

by_neither : (m k c : ℕ) (rest : List ℕ) → k % 2 ≡ 0 → c % 2 ≡ 0 → states_by (suc m) k c rest ≡ Unknown ∷ states_by m (k / 2) (c / 2) rest
unfolding states_by
by_neither m k c rest even also = rw (even, also) refl

none_left : (k c : ℕ) (rest : List ℕ) → states_by zero k c rest ≡ []
unfolding states_by
none_left k c rest = refl

halves : (m k c K C : ℕ) (rest : List ℕ) → k / 2 ≡ K → c / 2 ≡ C → states_by m (k / 2) (c / 2) rest ≡ states_by m K C rest
halves m k c K C rest e f = ap (λ x. states_by m x (c / 2) rest) e ∙ ap (λ x. states_by m K x rest) f

-- the masks and the bytes of states tell these states
pub states_again : (ss : List State) (rest : List ℕ) → AllByRecursion IsHeld ss → states_by (length ss) (mask_of is_known ss) (mask_of is_conflict ss) (flat_map content ss ++ rest) ≡ ss
states_again [] rest h = none_left 0 0 rest
states_again (Unknown ∷ ss) rest h =
    let K = mask_of is_known ss in let C = mask_of is_conflict ss in let all = flat_map content ss ++ rest in
    by_neither (length ss) (0 + 2 * K) (0 + 2 * C) all (omega arith) (omega arith)
    ∙ ap (λ l. Unknown ∷ l) (halves (length ss) (0 + 2 * K) (0 + 2 * C) K C all (omega arith) (omega arith) ∙ states_again ss rest h.1)
states_again (Known b ∷ ss) rest h =
    let K = mask_of is_known ss in let C = mask_of is_conflict ss in let all = flat_map content ss ++ rest in
    ap (states_by (suc (length ss)) (1 + 2 * K) (0 + 2 * C)) (append_assoc b (flat_map content ss) rest)
    ∙ by_known (length ss) (1 + 2 * K) (0 + 2 * C) b all (omega arith) h.0.whole
    ∙ ap (λ l. Known b ∷ l) (halves (length ss) (1 + 2 * K) (0 + 2 * C) K C all (omega arith) (omega arith) ∙ states_again ss rest h.1)
states_again (Conflict ∷ ss) rest h =
    let K = mask_of is_known ss in let C = mask_of is_conflict ss in let all = flat_map content ss ++ rest in
    by_conflict (length ss) (0 + 2 * K) (1 + 2 * C) all (omega arith) (omega arith)
    ∙ ap (λ l. Conflict ∷ l) (halves (length ss) (0 + 2 * K) (1 + 2 * C) K C all (omega arith) (omega arith) ∙ states_again ss rest h.1)
