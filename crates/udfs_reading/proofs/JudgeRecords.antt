-- No bytes are two readings, or a reading and faulty, or have two first faults.
use Rattle.std.proofs.Common.{◌≡◌, ℕ, zero, suc, ◌+◌, ◌-◌, ◌^◌, ◌<◌, ◌≤◌, false, ltb, List, [], ◌∷◌, ◌++◌, length, take, drop, Ok, Err, refl, sym, ap, subst, ◌∙◌, append_assoc, append-nil, arith, length-append}
use Rattle.std.specs.Prelude.{nat_lt, ◌==◌, if◌then◌else◌}
use Rattle.std.specs.List.{flat_map}
use Rattle.std.proofs.lemmas.Bool.{le-ltb, lt-ltb, ne_eqb}
use Rattle.std.proofs.lemmas.List.{take_at, drop_at}
use Rattle.udfs_lattice.specs.Records.{Record}
use Rattle.udfs_reading.specs.declared.error.ReadingFault.{ReadingFault}
use Rattle.udfs_reading.specs.declared.error.ReadingFault.TheVariants.{BlockNumber, Truncated, Trailing}
use Rattle.udfs_reading.specs.Format.{number, value_of, header, In, FaultHere, HasFault}
use Rattle.udfs_reading.specs.Outcome.{HeaderIsSound}
use Rattle.udfs_reading.specs.Reading.{magic, record_bytes, front, AreRecords, IsUnder, IsReading, Place, IsReadingPlace, before_place, record_of_place, AtBlock, AtBytes, AtEnd, reading_format, readings}
use Rattle.udfs_reading.proofs.Numbers.{length-number, value_of-number}
use Rattle.udfs_reading.proofs.Counts.{same_count}
use Rattle.udfs_reading.proofs.JudgeHeader as header
use Rattle.udfs_reading.proofs.JudgeHeader.{Judged, judge, judge_header, number_long, with_first, with_all, all_err, all_ok, IsFrom, from_ok, from_err, first_keeps, from_either}

pub length-magic : length magic ≡ 8
unfolding magic
length-magic = refl

-- n more records, the first of which is number k, and then the end
judge_records : ℕ → ℕ → List ℕ → Judged Record
judge_records zero k bytes = if length bytes == 0 then Ok [] else Err (Trailing, k - 1)
judge_records (suc n) k bytes =
    if nat_lt (length bytes) 4 then Err (Truncated, k)
    else if nat_lt 4194303 (value_of bytes) then Err (BlockNumber, k)
    else if nat_lt (length (drop 4 bytes)) 2048 then Err (Truncated, k)
    else with_first (value_of bytes, take 2048 (drop 4 bytes)) (judge_records n (k + 1) (drop 2048 (drop 4 bytes)))

judge_body : ℕ → List ℕ → Judged Record
judge_body n bytes = judge_records n 1 bytes

pub judge_bytes : List ℕ → Judged Record
judge_bytes bytes = judge magic judge_body bytes

-- ---- the records

end_here : (k : ℕ) → judge_records zero k [] ≡ Ok []
unfolding judge_records
end_here k = refl

end_late : (k : ℕ) (bytes : List ℕ) → 0 < length bytes → judge_records zero k bytes ≡ Err (Trailing, k - 1)
unfolding judge_records
end_late k bytes h = rw (ne_eqb (length bytes) 0 (λ e. omega arith)) refl

block_cut : (n k : ℕ) (bytes : List ℕ) → length bytes < 4 → judge_records (suc n) k bytes ≡ Err (Truncated, k)
unfolding judge_records
block_cut n k bytes h = rw (lt-ltb (length bytes) 4 h) refl

block_wrong : (n k : ℕ) (bytes : List ℕ) → 4 ≤ length bytes → 4194303 < value_of bytes → judge_records (suc n) k bytes ≡ Err (BlockNumber, k)
unfolding judge_records
block_wrong n k bytes h high = rw (le-ltb (length bytes) 4 h, lt-ltb 4194303 (value_of bytes) high) refl

bytes_cut : (n k block : ℕ) (rest : List ℕ) → block ≤ 4194303 → length rest < 2048 → judge_records (suc n) k (number block ++ rest) ≡ Err (Truncated, k)
unfolding judge_records
bytes_cut n k block rest low h =
    rw (number_long block rest, value_of-number block rest (omega arith), le-ltb 4194303 block low, drop_at (number block) rest 4 (length-number block), lt-ltb (length rest) 2048 h) refl

one_record : (n k block : ℕ) (bytes rest : List ℕ) → block ≤ 4194303 → length bytes ≡ 2048
    → judge_records (suc n) k (number block ++ (bytes ++ rest)) ≡ with_first (block, bytes) (judge_records n (k + 1) rest)
unfolding judge_records
one_record n k block bytes rest low len =
    let long : ltb (length (bytes ++ rest)) 2048 ≡ false = le-ltb _ _ (omega (arith, length-append bytes rest)) in
    rw (number_long block (bytes ++ rest), value_of-number block (bytes ++ rest) (omega arith), le-ltb 4194303 block low, drop_at (number block) (bytes ++ rest) 4 (length-number block), long, take_at bytes rest 2048 len, drop_at bytes rest 2048 len) refl

judge_all : (rs : List Record) (n k : ℕ) (rest : List ℕ) → AreRecords rs
    → judge_records (length rs + n) k (flat_map record_bytes rs ++ rest) ≡ with_all rs (judge_records n (k + length rs) rest)
judge_all [] n k rest h = let e : 0 + n ≡ n = omega arith in let f : k + 0 ≡ k = omega arith in rw (e, f) refl
judge_all (r ∷ rs) n k rest h =
    let e : length (r ∷ rs) + n ≡ suc (length rs + n) = omega arith in
    let f : k + 1 + length rs ≡ k + length (r ∷ rs) = omega arith in
    let more : List ℕ = flat_map record_bytes rs ++ rest in
    ap (λ (m : ℕ). judge_records m k (flat_map record_bytes (r ∷ rs) ++ rest)) e
    ∙ ap (judge_records (suc (length rs + n)) k) (append_assoc (number r.0 ++ r.1) (flat_map record_bytes rs) rest ∙ append_assoc (number r.0) r.1 more)
    ∙ one_record (length rs + n) k r.0 r.1 more h.0.number h.0.block.whole
    ∙ ap (with_first r) (judge_all rs n (k + 1) rest h.1 ∙ ap (λ (m : ℕ). with_all rs (judge_records n m rest)) f)

-- what the judge says after a header and some records
judge_front : (count : ℕ) (rs : List Record) (n : ℕ) (rest : List ℕ) → count < 2 ^ 32 → AreRecords rs → length rs + n ≡ count
    → judge_bytes (front count rs ++ rest) ≡ with_all rs (judge_records n (length rs + 1) rest)
unfolding judge_bytes judge_body
judge_front count rs n rest fits h many =
    let f : 1 + length rs ≡ length rs + 1 = omega arith in
    ap judge_bytes (append_assoc (header magic count) (flat_map record_bytes rs) rest)
    ∙ judge_header magic judge_body length-magic count (flat_map record_bytes rs ++ rest) fits
    ∙ ap (λ (m : ℕ). judge_records m 1 (flat_map record_bytes rs ++ rest)) (sym many)
    ∙ judge_all rs n 1 rest h
    ∙ ap (λ (m : ℕ). with_all rs (judge_records n m rest)) f

judge_front_err : (count : ℕ) (rs : List Record) (n : ℕ) (rest : List ℕ) (e : ReadingFault × ℕ) → count < 2 ^ 32 → AreRecords rs → length rs + n ≡ count
    → judge_records n (length rs + 1) rest ≡ Err e → judge_bytes (front count rs ++ rest) ≡ Err e
judge_front_err count rs n rest e fits h many err = judge_front count rs n rest fits h many ∙ ap (with_all rs) err ∙ all_err rs e

-- ---- the two laws

pub judge_reading : (bytes : List ℕ) (rs : List Record) → IsReading bytes rs → judge_bytes bytes ≡ Ok rs
judge_reading bytes rs h =
    ap judge_bytes (h.spelled ∙ sym (append-nil (front (length rs) rs)))
    ∙ judge_front (length rs) rs 0 [] h.count h.each (omega arith)
    ∙ ap (with_all rs) (end_here (length rs + 1)) ∙ all_ok rs

judge_place : (place : Place) (rest : List ℕ) (fault : ReadingFault) → IsReadingPlace place → FaultHere reading_format (In place) rest fault → judge_bytes (before_place place ++ rest) ≡ Err (fault, record_of_place place)
judge_place (AtBlock count done) rest Truncated p h =
    let more = p.more in
    let many : length done + suc (count - (length done + 1)) ≡ count = omega arith in
    judge_front_err count done (suc (count - (length done + 1))) rest _ p.fits p.each many (block_cut _ _ rest h)
judge_place (AtBlock count done) rest BlockNumber p h =
    let more = p.more in
    let many : length done + suc (count - (length done + 1)) ≡ count = omega arith in
    judge_front_err count done (suc (count - (length done + 1))) rest _ p.fits p.each many (block_wrong _ _ rest h.0 h.1)
judge_place (AtBlock count done) rest _ p h = absurd h.1
judge_place (AtBytes count done block) rest Truncated p h =
    let more = p.0.more in
    let many : length done + suc (count - (length done + 1)) ≡ count = omega arith in
    ap judge_bytes (append_assoc (front count done) (number block) rest)
    ∙ judge_front_err count done (suc (count - (length done + 1))) (number block ++ rest) _ p.0.fits p.0.each many (bytes_cut _ _ block rest p.1 h)
judge_place (AtBytes count done block) rest _ p h = absurd h.1
judge_place (AtEnd done) rest Truncated p h = absurd (omega arith)
judge_place (AtEnd done) rest Trailing p h =
    let k : length done + 1 - 1 ≡ length done = omega arith in
    judge_front_err (length done) done 0 rest _ p.0 p.1 (omega arith) (end_late (length done + 1) rest h.1 ∙ ap (λ (n : ℕ). Err (Trailing, n)) k)
judge_place (AtEnd done) rest _ p h = absurd h.1

pub judge_fault : (bytes : List ℕ) (fault : ReadingFault) (number : ℕ) → HasFault reading_format bytes fault number → judge_bytes bytes ≡ Err (fault, number)
unfolding judge_bytes
judge_fault bytes fault number h = header.judge_fault reading_format judge_body length-magic judge_place bytes fault number h

-- ---- a file whose header is right and has records has no fault before the first of them

at_least : (n k low : ℕ) (bytes : List ℕ) → low + 1 ≤ k → IsFrom low (judge_records n k bytes)
unfolding judge_records
at_least zero k low bytes h = from_either _ _ _ _ (from_ok low []) (from_err low (k - 1) Trailing (omega arith))
at_least (suc n) k low bytes h =
    from_either _ _ _ _ (from_err low k Truncated (omega arith)) (from_either _ _ _ _ (from_err low k BlockNumber (omega arith)) (from_either _ _ _ _ (from_err low k Truncated (omega arith))
    (first_keeps low _ _ (at_least n (k + 1) low (drop 2048 (drop 4 bytes)) (omega arith)))))

some_first : (n : ℕ) (bytes : List ℕ) → IsFrom 1 (judge_records (suc n) 1 bytes)
unfolding judge_records
some_first n bytes =
    from_either _ _ _ _ (from_err 1 1 Truncated (omega arith)) (from_either _ _ _ _ (from_err 1 1 BlockNumber (omega arith)) (from_either _ _ _ _ (from_err 1 1 Truncated (omega arith))
    (first_keeps 1 _ _ (at_least n (1 + 1) 1 (drop 2048 (drop 4 bytes)) (omega arith)))))

past_header : (count : ℕ) (rest : List ℕ) (fault : ReadingFault) (number : ℕ) → 0 < count → count < 2 ^ 32 → HasFault reading_format (header magic count ++ rest) fault number → 0 < number
unfolding judge_bytes judge_body
past_header zero rest fault number some fits h = absurd (omega arith)
past_header (suc n) rest fault number some fits h =
    let e : judge_records (suc n) 1 rest ≡ Err (fault, number) = sym (judge_header magic judge_body length-magic (suc n) rest fits) ∙ judge_fault _ fault number h in
    let from : IsFrom {X = Record} 1 (Err (fault, number)) = subst (IsFrom 1) e (some_first n rest) in from.is

-- the header, and what stands behind it
behind : (count : ℕ) (done : List Record) (got more : List ℕ) → (front count done ++ got) ++ more ≡ header magic count ++ (flat_map record_bytes done ++ (got ++ more))
behind count done got more = append_assoc (front count done) got more ∙ append_assoc (header magic count) (flat_map record_bytes done) (got ++ more)

-- after the header and some records, the header has no fault and says that there are records, whatever follows
pub header_is_sound : (count : ℕ) (done : List Record) (got : List ℕ) → IsUnder count done → HeaderIsSound readings (front count done ++ got)
header_is_sound count done got under =
    let fewer = under.more in
    record {
      fault = λ more fault number h.
          past_header count (flat_map record_bytes done ++ (got ++ more)) fault number (omega arith) under.fits (subst (λ (l : List ℕ). HasFault reading_format l fault number) (behind count done got more) h);
      file = λ more n table h.
          let same : count ≡ length h.0 = same_count magic count (length h.0) (flat_map record_bytes done ++ (got ++ more)) (flat_map record_bytes h.0) length-magic under.fits h.1.count (sym (behind count done got more) ∙ h.1.spelled) in
          let many = h.2 in omega arith;
    }
