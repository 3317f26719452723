-- The records of an image's blocks.
use Rattle.std.proofs.Common.{◌≡◌, ◌^◌, IfSome, None, Option, Some, ⊎_elim, inl, inr, ℕ, zero, suc, ◌+◌, ◌-◌, ◌*◌, ◌<◌, ◌≤◌, List, [], ◌∷◌, ◌++◌, length, take, drop, refl, sym, ap, subst, ◌∙◌, arith, append_assoc, length-append, length-take-le, length-drop}
use Rattle.std.specs.Int.{byte_at, bytes_low_first}
use Rattle.std.specs.List.{flat_map}
use Rattle.std.proofs.lemmas.Bool.{cases_lt}
use Rattle.std.proofs.lemmas.List.Concat.{flat_map-append}
use Rattle.std.proofs.lemmas.List.Elements.{All-append, All-cons, All-drop, All-from_recursion, All-nil, All-take}
use lib.Seq.{drop-drop}
use Rattle.udfs_lattice.specs.Records.{Record}
use Rattle.udfs_reading.specs.Format.{header, number}
use Rattle.udfs_reading.specs.Kind.{AreBytes}
use Rattle.udfs_reading.specs.Reading.{magic, record_bytes, AreRecords}
use Rattle.udfs_rescue.specs.declared.known.BlockRange.{BlockRange}
use Rattle.udfs_rescue.specs.Blocks.{block_of, reading_known, reading_of, records_from, records_of}
use Rattle.udfs_rescue.specs.Known.{EndWithin, InRanges, block_count}
use Rattle.udfs_index.specs.Recorded.{HasRecords}
use Rattle.udfs_index.specs.PairPlaced.{IsBlockOf}
use Rattle.udfs_index.specs.Told.{AreInside, HasSize}
use Rattle.udfs_index.specs.Fronts.{IsFrontBehind}

-- ---- how long they are

pub length-number : (n : ℕ) → length (number n) ≡ 4
unfolding number
length-number n = refl

pub length-header : (n : ℕ) → length (header magic n) ≡ 16
unfolding number magic
length-header n = refl

pub length-block : (all : List ℕ) (n : ℕ) → 2048 * (n + 1) ≤ length all → length (block_of all n) ≡ 2048
length-block all n inside = length-take-le 2048 (drop (2048 * n) all) (omega (arith, inside, length-drop (2048 * n) all))

-- what stands behind a front
pub drop-front : (xs ys : List ℕ) (n : ℕ) → length xs ≡ n → drop n (xs ++ ys) ≡ ys
drop-front [] ys zero e = refl
drop-front [] ys (suc n) e = absurd (omega (arith, e))
drop-front (x ∷ xs) ys zero e = absurd (omega (arith, e))
drop-front (x ∷ xs) ys (suc n) e = drop-front xs ys n (omega (arith, e))

-- and the front itself
pub take-front : (xs ys : List ℕ) (n : ℕ) → length xs ≡ n → take n (xs ++ ys) ≡ xs
take-front [] ys zero e = refl
take-front [] ys (suc n) e = absurd (omega (arith, e))
take-front (x ∷ xs) ys zero e = absurd (omega (arith, e))
take-front (x ∷ xs) ys (suc n) e = ap (λ (l : List ℕ). x ∷ l) (take-front xs ys n (omega (arith, e)))

pub length-blocks : (all : List ℕ) (n k : ℕ) → ((m : ℕ) → n ≤ m → m < n + k → 2048 * (m + 1) ≤ length all) → length (flat_map record_bytes (records_from all n k)) ≡ 2052 * k
length-blocks all n zero inside = omega arith
length-blocks all n (suc k) inside =
    let one = length-append (number n) (block_of all n) in
    let here = length-block all n (inside n (omega arith) (omega arith)) in
    let later = length-blocks all (n + 1) k (λ m l h. inside m (omega (arith, l)) (omega (arith, h))) in
    length-append (number n ++ block_of all n) (flat_map record_bytes (records_from all (n + 1) k)) ∙ omega (arith, one, here, later, length-number n)

pub length-ranges : (all : List ℕ) (ranges : List BlockRange) → ((m : ℕ) → InRanges ranges m → 2048 * (m + 1) ≤ length all) → length (flat_map record_bytes (records_of all ranges)) ≡ 2052 * block_count ranges
length-ranges all [] inside = omega arith
length-ranges all (r ∷ rs) inside =
    let first = length-blocks all r.start (r.end - r.start) (λ m l h. inside m (inl (l, omega (arith, l, h)))) in
    let later = length-ranges all rs (λ m i. inside m (inr i)) in
    ap length (flat_map-append record_bytes (records_from all r.start (r.end - r.start)) (records_of all rs))
    ∙ length-append (flat_map record_bytes (records_from all r.start (r.end - r.start))) (flat_map record_bytes (records_of all rs)) ∙ omega (arith, first, later)

length-records_from : (all : List ℕ) (n k : ℕ) → length (records_from all n k) ≡ k
length-records_from all n zero = refl
length-records_from all n (suc k) = ap suc (length-records_from all (n + 1) k)

pub length-records_of : (all : List ℕ) (ranges : List BlockRange) → length (records_of all ranges) ≡ block_count ranges
length-records_of all [] = refl
length-records_of all (r ∷ rs) =
    length-append (records_from all r.start (r.end - r.start)) (records_of all rs) ∙ ap (λ (n : ℕ). n + length (records_of all rs)) (length-records_from all r.start (r.end - r.start)) ∙ ap (λ (n : ℕ). (r.end - r.start) + n) (length-records_of all rs)

-- how long the reading is
pub length-reading : (all : List ℕ) (ranges : List BlockRange) → ((m : ℕ) → InRanges ranges m → 2048 * (m + 1) ≤ length all) → length (reading_of all ranges) ≡ 16 + 2052 * block_count ranges
length-reading all ranges inside =
    length-append (header magic (length (records_of all ranges))) (flat_map record_bytes (records_of all ranges)) ∙ omega (arith, length-header (length (records_of all ranges)), length-ranges all ranges inside)

-- ---- where they stand

pub records_split : (all : List ℕ) (a n b : ℕ) → records_from all n (a + b) ≡ records_from all n a ++ records_from all (n + a) b
records_split all zero n b =
    let same : 0 + b ≡ b = omega arith in
    let here : n ≡ n + 0 = omega arith in
    ap (records_from all n) same ∙ ap (λ (m : ℕ). records_from all m b) here
records_split all (suc a) n b =
    let more : suc a + b ≡ suc (a + b) = omega arith in
    let next : n + 1 + a ≡ n + suc a = omega arith in
    ap (records_from all n) more ∙ ap (λ (l : List Record). (n, block_of all n) ∷ l) (records_split all a (n + 1) b ∙ ap (λ (m : ℕ). records_from all (n + 1) a ++ records_from all m b) next)

of_append : (all : List ℕ) (a b : List BlockRange) → records_of all (a ++ b) ≡ records_of all a ++ records_of all b
of_append all [] b = refl
of_append all (r ∷ rs) b = ap (λ (l : List Record). records_from all r.start (r.end - r.start) ++ l) (of_append all rs b) ∙ sym (append_assoc (records_from all r.start (r.end - r.start)) (records_of all rs) (records_of all b))

in_earlier : (a b : List BlockRange) (m : ℕ) → InRanges a m → InRanges (a ++ b) m
in_earlier [] b m i = absurd i
in_earlier (r ∷ rs) b m (inl i) = inl i
in_earlier (r ∷ rs) b m (inr i) = inr (in_earlier rs b m i)

in_later : (a b : List BlockRange) (m : ℕ) → InRanges b m → InRanges (a ++ b) m
in_later [] b m i = i
in_later (r ∷ rs) b m i = inr (in_later rs b m i)

-- behind the records before it, the block is the first
pub blocks_behind : (all : List ℕ) (ranges : List BlockRange) (number_of block left : ℕ) → ((m : ℕ) → InRanges ranges m → 2048 * (m + 1) ≤ length all) → IsBlockOf ranges number_of block left
    → (rest : List ℕ) × (drop (2052 * number_of) (flat_map record_bytes (records_of all ranges)) ≡ flat_map record_bytes (records_from all block left) ++ rest)
blocks_behind all ranges number_of block left inside is =
    let before = block - is.range.start in
    let whole : is.range.end - is.range.start ≡ before + left = omega (arith, is.left_is, is.low) in
    let here : is.range.start + before ≡ block = omega (arith, is.low) in
    let A = flat_map record_bytes (records_of all is.earlier) in
    let B = flat_map record_bytes (records_from all is.range.start before) in
    let C = flat_map record_bytes (records_from all block left) in
    let D = flat_map record_bytes (records_of all is.later) in
    let inside_all : (m : ℕ) → InRanges (is.earlier ++ is.range ∷ is.later) m → 2048 * (m + 1) ≤ length all = subst (λ (l : List BlockRange). (m : ℕ) → InRanges l m → 2048 * (m + 1) ≤ length all) is.are inside in
    let long_a : length A ≡ 2052 * block_count is.earlier = length-ranges all is.earlier (λ m i. inside_all m (in_earlier is.earlier (is.range ∷ is.later) m i)) in
    let long_b : length B ≡ 2052 * before =
    length-blocks all is.range.start before (λ m l h. inside_all m (in_later is.earlier (is.range ∷ is.later) m (inl (l, omega (arith, l, h, is.left_is, is.low))))) in
    let cut : records_from all is.range.start (is.range.end - is.range.start) ≡ records_from all is.range.start before ++ records_from all block left =
    ap (records_from all is.range.start) whole ∙ records_split all before is.range.start left ∙ ap (λ (m : ℕ). records_from all is.range.start before ++ records_from all m left) here in
    let range : flat_map record_bytes (records_of all (is.range ∷ is.later)) ≡ B ++ (C ++ D) =
    flat_map-append record_bytes (records_from all is.range.start (is.range.end - is.range.start)) (records_of all is.later)
    ∙ ap (λ (l : List Record). flat_map record_bytes l ++ D) cut ∙ ap (λ (l : List ℕ). l ++ D) (flat_map-append record_bytes (records_from all is.range.start before) (records_from all block left)) ∙ append_assoc B C D in
    let spelled : flat_map record_bytes (records_of all ranges) ≡ (A ++ B) ++ (C ++ D) =
    ap (λ (l : List BlockRange). flat_map record_bytes (records_of all l)) is.are ∙ ap (flat_map record_bytes) (of_append all is.earlier (is.range ∷ is.later))
    ∙ flat_map-append record_bytes (records_of all is.earlier) (records_of all (is.range ∷ is.later)) ∙ ap (λ (l : List ℕ). A ++ l) range ∙ sym (append_assoc A B (C ++ D)) in
    (D, ap (drop (2052 * number_of)) spelled ∙ drop-front (A ++ B) (C ++ D) (2052 * number_of) (length-append A B ∙ omega (arith, long_a, long_b, is.number_is)))

-- all blocks of the range are in the image
pub ends_inside : (all : List ℕ) (ranges : List BlockRange) (number_of block left : ℕ) → ((m : ℕ) → InRanges ranges m → 2048 * (m + 1) ≤ length all) → IsBlockOf ranges number_of block left → 2048 * (block + left) ≤ length all
ends_inside all ranges number_of block left inside is =
    let last : InRanges ranges (block + left - 1) = subst (λ (l : List BlockRange). InRanges l (block + left - 1)) (sym is.are) (in_later is.earlier (is.range ∷ is.later) (block + left - 1) (inl (omega (arith, is.low, is.some), omega (arith, is.left_is, is.some)))) in
    let ends = inside (block + left - 1) last in
    omega (arith, ends, is.some)

-- a read behind the header
pub read_behind : (all : List ℕ) (ranges : List BlockRange) (number_of block left skip at n : ℕ) (bytes : List ℕ) → ((m : ℕ) → InRanges ranges m → 2048 * (m + 1) ≤ length all) → IsBlockOf ranges number_of block left
    → at ≡ 16 + 2052 * number_of + skip → IsFrontBehind all block left skip n bytes → take n bytes ≡ take n (drop at (reading_of all ranges))
read_behind all ranges number_of block left skip at n bytes inside is there front =
    let h = header magic (length (records_of all ranges)) in
    let body = flat_map record_bytes (records_of all ranges) in
    let behind = blocks_behind all ranges number_of block left inside is in
    let within = ends_inside all ranges number_of block left inside is in
    let place : at ≡ 16 + (2052 * number_of + skip) = omega (arith, there) in
    front within behind.0
    ∙ ap (λ (l : List ℕ). take n (drop skip l)) (sym behind.1)
    ∙ ap (take n) (drop-drop skip (2052 * number_of) body ∙ ap (drop (2052 * number_of + skip)) (sym (drop-front h body 16 (length-header (length (records_of all ranges))))) ∙ drop-drop (2052 * number_of + skip) 16 (h ++ body) ∙ ap (λ (m : ℕ). drop m (h ++ body)) (sym place))

-- ---- as a reading

low_byte : (i x : ℕ) → byte_at i x < 256
low_byte zero x = omega arith
low_byte (suc i) x = omega arith

AreBytes-low : (i k x : ℕ) → AreBytes (bytes_low_first i k x)
AreBytes-low i zero x = All-nil (λ y. y < 256)
AreBytes-low i (suc k) x = All-cons (λ y. y < 256) (byte_at i x) (bytes_low_first (suc i) k x) (low_byte i x) (AreBytes-low (suc i) k x)

AreBytes-number : (n : ℕ) → AreBytes (number n)
unfolding number
AreBytes-number n = AreBytes-low 0 4 n

AreBytes-magic : AreBytes magic
unfolding magic
AreBytes-magic = All-from_recursion (λ x. x < 256) magic (omega arith, (omega arith, (omega arith, (omega arith, (omega arith, (omega arith, (omega arith, (omega arith, tt))))))))

AreBytes-header : (count : ℕ) → AreBytes (header magic count)
AreBytes-header count = All-append (λ x. x < 256) (magic ++ number 2048) (number count) (All-append (λ x. x < 256) magic (number 2048) AreBytes-magic (AreBytes-number 2048)) (AreBytes-number count)

AreBytes-block : (all : List ℕ) (n : ℕ) → AreBytes all → AreBytes (block_of all n)
AreBytes-block all n are = All-take (λ x. x < 256) 2048 (drop (2048 * n) all) (All-drop (λ x. x < 256) (2048 * n) all are)

AreBytes-blocks : (all : List ℕ) (n k : ℕ) → AreBytes all → AreBytes (flat_map record_bytes (records_from all n k))
AreBytes-blocks all n zero are = All-nil (λ x. x < 256)
AreBytes-blocks all n (suc k) are =
    All-append (λ x. x < 256) (number n ++ block_of all n) (flat_map record_bytes (records_from all (n + 1) k)) (All-append (λ x. x < 256) (number n) (block_of all n) (AreBytes-number n) (AreBytes-block all n are)) (AreBytes-blocks all (n + 1) k are)

AreBytes-ranges : (all : List ℕ) (ranges : List BlockRange) → AreBytes all → AreBytes (flat_map record_bytes (records_of all ranges))
AreBytes-ranges all [] are = All-nil (λ x. x < 256)
AreBytes-ranges all (r ∷ rs) are =
    subst AreBytes (sym (flat_map-append record_bytes (records_from all r.start (r.end - r.start)) (records_of all rs)))
    (All-append (λ x. x < 256) (flat_map record_bytes (records_from all r.start (r.end - r.start))) (flat_map record_bytes (records_of all rs)) (AreBytes-blocks all r.start (r.end - r.start) are) (AreBytes-ranges all rs are))

-- its bytes are bytes, where those of the image are
pub bytes_of_reading : (image : Option (List ℕ)) (ranges : List BlockRange) → IfSome image AreBytes → IfSome (reading_known image ranges) AreBytes
bytes_of_reading None ranges are = tt
bytes_of_reading (Some all) ranges are =
    All-append (λ x. x < 256) (header magic (length (records_of all ranges))) (flat_map record_bytes (records_of all ranges)) (AreBytes-header (length (records_of all ranges))) (AreBytes-ranges all ranges are)

are_blocks : (all : List ℕ) (n k : ℕ) → n + k ≤ 4194304 → ((m : ℕ) → n ≤ m → m < n + k → 2048 * (m + 1) ≤ length all) → AreBytes all → AreRecords (records_from all n k)
are_blocks all n zero within inside are = tt
are_blocks all n (suc k) within inside are = (
  record { number = omega (arith, within); block = record { whole = length-block all n (inside n (omega arith) (omega arith)); bytes = AreBytes-block all n are } },
  are_blocks all (n + 1) k (omega (arith, within)) (λ m l h. inside m (omega (arith, l)) (omega (arith, h))) are,
)

are_range : (all : List ℕ) (r : BlockRange) → r.end ≤ 4194304 → ((m : ℕ) → r.start ≤ m → m < r.end → 2048 * (m + 1) ≤ length all) → AreBytes all → AreRecords (records_from all r.start (r.end - r.start))
are_range all r within inside are =
    ⊎_elim
    (λ (some : r.start < r.end). are_blocks all r.start (r.end - r.start) (omega (arith, some, within)) (λ m l h. inside m l (omega (arith, l, h, some))) are)
    (λ (none : r.end ≤ r.start). let zero_left : r.end - r.start ≡ 0 = omega (arith, none) in subst (λ (k : ℕ). AreRecords (records_from all r.start k)) (sym zero_left) tt)
    (cases_lt r.start r.end)

are_both : (xs ys : List Record) → AreRecords xs → AreRecords ys → AreRecords (xs ++ ys)
are_both [] ys h k = k
are_both (x ∷ xs) ys h k = (h.0, are_both xs ys h.1 k)

are_records : (all : List ℕ) (ranges : List BlockRange) → EndWithin ranges → ((m : ℕ) → InRanges ranges m → 2048 * (m + 1) ≤ length all) → AreBytes all → AreRecords (records_of all ranges)
are_records all [] within inside are = tt
are_records all (r ∷ rs) within inside are =
    are_both (records_from all r.start (r.end - r.start)) (records_of all rs)
    (are_range all r within.0 (λ m l h. inside m (inl (l, h))) are)
    (are_records all rs within.1 (λ m i. inside m (inr i)) are)

-- it is a reading of so many records
pub has_records : (image : Option (List ℕ)) (ranges : List BlockRange) (size count : ℕ) → HasSize image size → AreInside ranges size → EndWithin ranges → count ≡ block_count ranges → count < 2 ^ 32 → IfSome image AreBytes
    → IfSome (reading_known image ranges) (λ all. HasRecords all count)
has_records None ranges size count told inside within is few are = tt
has_records (Some all) ranges size count told inside within is few are =
    let many : length (records_of all ranges) ≡ count = length-records_of all ranges ∙ sym is in
    record {
      records = records_of all ranges;
      is = record { count = omega (arith, many, few); each = are_records all ranges within (λ m i. let h = inside m i in omega (arith, told, h)) are; spelled = refl };
      many = many;
    }
