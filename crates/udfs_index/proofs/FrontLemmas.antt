-- What is given of records.
use Rattle.std.proofs.Common.{◌≡◌, ◌⊎◌, inl, inr, take_all, ℕ, zero, suc, ◌+◌, ◌-◌, ◌*◌, ◌<◌, ◌≤◌, List, [], ◌∷◌, ◌++◌, length, take, drop, Option, None, Some, IfSome, refl, sym, ap, subst, ◌∙◌, arith, append_assoc, length-drop}
use Rattle.std.specs.Prelude.{Result, Ok, Err, IfOk, OnErr}
use Rattle.std.specs.List.{flat_map}
use Rattle.std.proofs.lemmas.List.Concat.{flat_map-append}
use Rattle.std.proofs.lemmas.List.{take-take, drop-take}
use lib.Seq.{drop-drop, take-append-le}
use Rattle.udfs_lattice.specs.Records.{Record}
use Rattle.udfs_reading.specs.declared.device.DeviceFault.{DeviceFault}
use Rattle.udfs_reading.specs.Format.{header, number}
use Rattle.udfs_reading.specs.Reading.{magic, record_bytes}
use Rattle.udfs_rescue.specs.declared.known.BlockRange.{BlockRange}
use Rattle.udfs_rescue.specs.Blocks.{block_of, reading_known, records_from, records_in, records_of}
use Rattle.udfs_rescue.specs.Known.{InRanges, block_count}
use Rattle.udfs_index.specs.Recorded.{IsRecordedAt}
use Rattle.udfs_index.specs.Fronts.{IsFrontBehind, MayFail}
use Rattle.udfs_index.specs.PairPlaced.{IsBlockOf}
use Rattle.udfs_index.specs.Told.{AreInside, HasSize}
use Rattle.udfs_index.proofs.RecordLemmas.{drop-front, ends_inside, length-block, length-blocks, length-header, length-number, length-reading, length-records_of, read_behind, records_split, take-front}

-- ---- blocks that were read side by side

same_records : (k n : ℕ) (all bytes : List ℕ) → take (2048 * k) bytes ≡ take (2048 * k) (drop (2048 * n) all) → records_in n k bytes ≡ records_from all n k
same_records zero n all bytes h = refl
same_records (suc k) n all bytes h =
    let more : 2048 * suc k ≡ 2048 + 2048 * k = omega arith in
    let next : 2048 * n + 2048 ≡ 2048 * (n + 1) = omega arith in
    let e : take (2048 + 2048 * k) bytes ≡ take (2048 + 2048 * k) (drop (2048 * n) all) = subst (λ (m : ℕ). take m bytes ≡ take m (drop (2048 * n) all)) more h in
    let one : take 2048 bytes ≡ block_of all n =
    sym (take-take 2048 (2048 + 2048 * k) bytes (omega arith)) ∙ ap (take 2048) e ∙ take-take 2048 (2048 + 2048 * k) (drop (2048 * n) all) (omega arith) in
    let others : take (2048 * k) (drop 2048 bytes) ≡ take (2048 * k) (drop (2048 * (n + 1)) all) =
    sym (drop-take 2048 (2048 * k) bytes) ∙ ap (drop 2048) e ∙ drop-take 2048 (2048 * k) (drop (2048 * n) all) ∙ ap (take (2048 * k)) (drop-drop 2048 (2048 * n) all ∙ ap (λ (m : ℕ). drop m all) next) in
    ap (λ (l : List ℕ). (n, l) ∷ records_in (n + 1) k (drop 2048 bytes)) one ∙ ap (λ (l : List Record). (n, block_of all n) ∷ l) (same_records k (n + 1) all (drop 2048 bytes) others)

-- the records of the blocks that came
pub records_given : (all part more buf new rest : List ℕ) (block left many count n at : ℕ) → many ≤ left → 2048 * many ≤ count → count ≤ length part → at ≡ 2048 * block → take count part ≡ take count (drop at all) → buf ≡ part ++ more
    → new ≡ flat_map record_bytes (records_in block many buf) ++ rest → n ≡ 2052 * many → IsFrontBehind all block left 0 n new
records_given all part more buf new rest block left many count n at few whole within place read held now size inside tail =
    let front : take (2048 * many) buf ≡ take (2048 * many) (drop (2048 * block) all) =
    ap (take (2048 * many)) held ∙ take-append-le (2048 * many) part more (omega (arith, whole, within)) ∙ sym (take-take (2048 * many) count part whole) ∙ ap (take (2048 * many)) read
    ∙ take-take (2048 * many) count (drop at all) whole ∙ ap (λ (m : ℕ). take (2048 * many) (drop m all)) place in
    let G = flat_map record_bytes (records_from all block many) in
    let H = flat_map record_bytes (records_from all (block + many) (left - many)) in
    let both : many + (left - many) ≡ left = omega (arith, few) in
    let cut : flat_map record_bytes (records_from all block left) ≡ G ++ H =
    ap (λ (k : ℕ). flat_map record_bytes (records_from all block k)) (sym both) ∙ ap (flat_map record_bytes) (records_split all many block (left - many)) ∙ flat_map-append record_bytes (records_from all block many) (records_from all (block + many) (left - many)) in
    let long : length G ≡ n = length-blocks all block many (λ m l h. omega (arith, l, h, inside, few)) ∙ sym size in
    ap (take n) (now ∙ ap (λ (l : List Record). flat_map record_bytes l ++ rest) (same_records many block all buf front)) ∙ take-front G rest n long
    ∙ sym (ap (λ (l : List ℕ). take n (l ++ tail)) cut ∙ ap (take n) (append_assoc G H tail) ∙ take-front G (H ++ tail) n long)

-- ---- a part of one record

drop-append : (xs ys : List ℕ) (n : ℕ) → n ≤ length xs → drop n (xs ++ ys) ≡ drop n xs ++ ys
drop-append xs ys zero h = refl
drop-append [] ys (suc n) h = absurd (omega (arith, h))
drop-append (x ∷ xs) ys (suc n) h = drop-append xs ys n (omega (arith, h))

-- a front of what stands behind a front
front_within : (xs ys : List ℕ) (skip n : ℕ) → skip + n ≤ length xs → take n (drop skip (xs ++ ys)) ≡ take n (drop skip xs)
front_within xs ys skip n h = ap (take n) (drop-append xs ys skip (omega (arith, h))) ∙ take-append-le n (drop skip xs) ys (omega (arith, h, length-drop skip xs))

-- the first record, and what follows it
first_record : (all : List ℕ) (block left : ℕ) (tail : List ℕ) → 0 < left
    → (more : List ℕ) × (flat_map record_bytes (records_from all block left) ++ tail ≡ number block ++ (block_of all block ++ more))
first_record all block zero tail some = absurd (omega (arith, some))
first_record all block (suc k) tail some =
    let later = flat_map record_bytes (records_from all (block + 1) k) in
    (later ++ tail, append_assoc (number block ++ block_of all block) later tail ∙ append_assoc (number block) (block_of all block) (later ++ tail))

-- of its number
pub number_given : (all new : List ℕ) (block left skip n : ℕ) → 0 < left → skip + n ≤ 4 → take n new ≡ take n (drop skip (number block)) → IsFrontBehind all block left skip n new
number_given all new block left skip n some few given inside tail =
    let first = first_record all block left tail some in
    given ∙ sym (ap (λ (l : List ℕ). take n (drop skip l)) first.1 ∙ front_within (number block) (block_of all block ++ first.0) skip n (omega (arith, few, length-number block)))

-- of its bytes
pub bytes_given : (all new : List ℕ) (block left skip s n : ℕ) → 0 < left → skip ≡ 4 + s → s + n ≤ 2048 → take n new ≡ take n (drop (2048 * block + s) all) → IsFrontBehind all block left skip n new
bytes_given all new block left skip s n some place few given inside tail =
    let first = first_record all block left tail some in
    let whole = length-block all block (omega (arith, inside, some)) in
    let size : s + (2048 - s) ≡ 2048 = omega (arith, few) in
    let there : drop s (block_of all block) ≡ take (2048 - s) (drop s (drop (2048 * block) all)) =
    sym (ap (λ (k : ℕ). drop s (take k (drop (2048 * block) all))) size) ∙ drop-take s (2048 - s) (drop (2048 * block) all) in
    given ∙ ap (take n) (sym (drop-drop s (2048 * block) all)) ∙ sym (take-take n (2048 - s) (drop s (drop (2048 * block) all)) (omega (arith, few))) ∙ ap (take n) (sym there)
    ∙ sym (front_within (block_of all block) first.0 s n (omega (arith, few, whole)))
    ∙ ap (λ (l : List ℕ). take n (drop s l)) (sym (drop-front (number block) (block_of all block ++ first.0) 4 (length-number block)))
    ∙ ap (take n) (drop-drop s 4 (number block ++ (block_of all block ++ first.0)) ∙ ap (λ (k : ℕ). drop k (number block ++ (block_of all block ++ first.0))) (sym place))
    ∙ sym (ap (λ (l : List ℕ). take n (drop skip l)) first.1)

-- ---- a read that fails

pub fails_so : (image : Option (List ℕ)) (fails : Type 0) (end : ℕ) → fails → MayFail image fails end
fails_so None fails end h = tt
fails_so (Some all) fails end h = λ inside. h

pub fails_further : (image : Option (List ℕ)) (fails : Type 0) (end further : ℕ) → end ≤ further → MayFail image fails end → MayFail image fails further
fails_further None fails end further le h = tt
fails_further (Some all) fails end further le h = λ inside. h (omega (arith, inside, le))

-- what follows of bytes that are told
pub in_told : (image : Option (List ℕ)) (P Q : List ℕ → Type 0) → ((all : List ℕ) → P all → Q all) → IfSome image P → IfSome image Q
in_told None P Q f h = tt
in_told (Some all) P Q f h = f all h

pub for_told : (image : Option (List ℕ)) (Q : List ℕ → Type 0) → ((all : List ℕ) → Q all) → IfSome image Q
for_told None Q f = tt
for_told (Some all) Q f = f all

-- the bytes of a block that a read gave, if it did not fail
pub bytes_told : (image : Option (List ℕ)) (result : Result ℕ DeviceFault) (new : List ℕ) (block left skip s : ℕ) → 0 < left → skip ≡ 4 + s → s < 2048 → IfOk result (λ n. n ≤ 2048 - s)
    → IfSome image (λ all. IfOk result (λ n. take n new ≡ take n (drop (2048 * block + s) all))) → IfSome image (λ all. IfOk result (λ n. IsFrontBehind all block left skip n new))
bytes_told None result new block left skip s some place lt few given = tt
bytes_told (Some all) (Err e) new block left skip s some place lt few given = tt
bytes_told (Some all) (Ok n) new block left skip s some place lt few given = bytes_given all new block left skip s n some place (omega (arith, few, lt)) given

pub fails_later : (result : Result ℕ DeviceFault) (image : Option (List ℕ)) (fails : Type 0) (end further : ℕ) → end ≤ further → OnErr result (MayFail image fails end) → OnErr result (MayFail image fails further)
fails_later (Ok n) image fails end further le h = tt
fails_later (Err e) image fails end further le h = fails_further image fails end further le h

-- ---- what is read of a pair

inside_of : (all : List ℕ) (size : ℕ) (ranges : List BlockRange) → size ≡ length all → AreInside ranges size → (m : ℕ) → InRanges ranges m → 2048 * (m + 1) ≤ length all
inside_of all size ranges is inside m i = let h = inside m i in omega (arith, is, h)

-- of the header
pub header_read : (image : Option (List ℕ)) (ranges : List BlockRange) (count at n : ℕ) (new : List ℕ) → count ≡ block_count ranges → at < 16 → n ≤ 16 - at → take n new ≡ take n (drop at (header magic count))
    → IfSome (reading_known image ranges) (λ all. take n new ≡ take n (drop at all))
header_read None ranges count at n new is lt few given = tt
header_read (Some all) ranges count at n new is lt few given =
    given ∙ ap (λ (k : ℕ). take n (drop at (header magic k))) (is ∙ sym (length-records_of all ranges))
    ∙ sym (front_within (header magic (length (records_of all ranges))) (flat_map record_bytes (records_of all ranges)) at n (omega (arith, lt, few, length-header (length (records_of all ranges)))))

-- of the records
pub records_read : (image : Option (List ℕ)) (ranges : List BlockRange) (size number_of block left at skip : ℕ) (result : Result ℕ DeviceFault) (new : List ℕ) → HasSize image size → AreInside ranges size → IsBlockOf ranges number_of block left
    → at ≡ 16 + 2052 * number_of + skip → IfSome image (λ all. IfOk result (λ n. IsFrontBehind all block left skip n new)) → IfSome (reading_known image ranges) (λ whole. IfOk result (λ n. take n new ≡ take n (drop at whole)))
records_read None ranges size number_of block left at skip result new told inside is place given = tt
records_read (Some all) ranges size number_of block left at skip (Err e) new told inside is place given = tt
records_read (Some all) ranges size number_of block left at skip (Ok n) new told inside is place given = read_behind all ranges number_of block left skip at n new (inside_of all size ranges told inside) is place given

-- at the end
pub end_read : (image : Option (List ℕ)) (ranges : List BlockRange) (size number_of at : ℕ) (P Q : Type 0) → HasSize image size → AreInside ranges size → block_count ranges ≤ number_of → 16 + 2052 * number_of ≤ at
    → IfSome (reading_known image ranges) (λ all. P → Q → length all ≤ at)
end_read None ranges size number_of at P Q told inside few past = tt
end_read (Some all) ranges size number_of at P Q told inside few past = let long = length-reading all ranges (inside_of all size ranges told inside) in λ p q. omega (arith, long, few, past)

-- how long it is
pub size_told : (image : Option (List ℕ)) (ranges : List BlockRange) (size count n : ℕ) → HasSize image size → AreInside ranges size → count ≡ block_count ranges → n ≡ 16 + 2052 * count → IfSome (reading_known image ranges) (λ all. n ≡ length all)
size_told None ranges size count n told inside is long = tt
size_told (Some all) ranges size count n told inside is long = long ∙ ap (λ (k : ℕ). 16 + 2052 * k) is ∙ sym (length-reading all ranges (inside_of all size ranges told inside))

-- why a read fails
pub read_fails : (image : Option (List ℕ)) (fails : Type 0) (ranges : List BlockRange) (size number_of block left : ℕ) (result : Result ℕ DeviceFault) → HasSize image size → AreInside ranges size → IsBlockOf ranges number_of block left
    → OnErr result (MayFail image fails (block + left)) → OnErr result ((image ≡ None) ⊎ fails)
read_fails image fails ranges size number_of block left (Ok n) told inside is h = tt
read_fails None fails ranges size number_of block left (Err e) told inside is h = inl refl
read_fails (Some all) fails ranges size number_of block left (Err e) told inside is h = inr (h (ends_inside all ranges number_of block left (inside_of all size ranges told inside) is))

-- an image that has another size does not tell its bytes
pub size_fails : (image : Option (List ℕ)) (fails : Type 0) (size now : ℕ) → HasSize image size → IfSome image (λ all. now ≡ length all) → (now ≡ size → ⊥) → (image ≡ None) ⊎ fails
size_fails None fails size now told h differs = inl refl
size_fails (Some all) fails size now told h differs = absurd (differs (h ∙ sym told))

-- ---- the block of a record

-- the number of the block stands where its record begins
pub recorded_at : (image : Option (List ℕ)) (ranges : List BlockRange) (size number_of block left : ℕ) → HasSize image size → AreInside ranges size → IsBlockOf ranges number_of block left → IfSome (reading_known image ranges) (λ all. IsRecordedAt all number_of block)
recorded_at None ranges size number_of block left told inside is = tt
recorded_at (Some all) ranges size number_of block left told inside is =
    let front = number_given all (number block) block left 0 4 is.some (omega arith) refl in
    record { spelled = sym (read_behind all ranges number_of block left 0 (16 + 2052 * number_of) 4 (number block) (inside_of all size ranges told inside) is (omega arith) front) ∙ take_all 4 (number block) (omega (arith, length-number block)) }

pub low_block : (ranges : List BlockRange) (number_of block left : ℕ) → IsBlockOf ranges number_of block left → block ≤ 4194303
low_block ranges number_of block left is = omega (arith, is.left_is, is.some, is.within)
