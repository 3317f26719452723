-- All bytes are a reading or have a first fault.
use Rattle.std.proofs.Common.{◌≡◌, ℕ, zero, suc, ◌+◌, ◌^◌, ◌<◌, ◌≤◌, List, [], ◌∷◌, ◌++◌, length, take, drop, refl, sym, ap, subst, ◌∙◌, append_assoc, append-nil, arith, length-append, inl, inr, ⊎_elim, take-append-drop}
use Rattle.std.specs.List.{flat_map}
use Rattle.std.proofs.lemmas.Bool.{cases_lt}
use Rattle.udfs_lattice.specs.Records.{Record, table_of}
use Rattle.udfs_reading.specs.declared.error.ReadingFault.TheVariants.{BlockNumber, Truncated, Trailing}
use Rattle.udfs_reading.specs.Format.{number, value_of, header, In}
use Rattle.udfs_reading.specs.Kind.{HasOutcome}
use Rattle.udfs_reading.specs.Reading.{magic, record_bytes, front, IsRecord, AreRecords, IsUnder, AtBlock, AtBytes, AtEnd, readings}
use Rattle.udfs_reading.proofs.Records.{are_records-push, bytes-push}
use Rattle.udfs_reading.proofs.SomeHeader.{Small, small-drop, some_block, four}

-- no record is to come
at_end : (done : List Record) → length done < 2 ^ 32 → AreRecords done → (rest : List ℕ) → HasOutcome readings (front (length done) done ++ rest)
at_end done fits are [] = inl (length done, table_of done, (done, record { count = fits; each = are; spelled = append-nil (front (length done) done) }, refl, refl))
at_end done fits are (x ∷ xs) =
    inr (Trailing, length done, record { spot = In (AtEnd done); is_spot = (fits, are); rest = x ∷ xs; split = refl; here = (omega arith, omega arith); which = refl })

-- the bytes of a block
at_bytes : (count : ℕ) (done : List Record) → IsUnder count done → (block : ℕ) → block ≤ 4194303 → (rest : List ℕ) → Small rest
    → ((r : Record) → IsRecord r → (more : List ℕ) → Small more → HasOutcome readings (front count (done ++ r ∷ []) ++ more))
    → HasOutcome readings (front count done ++ (number block ++ rest))
at_bytes count done under block low rest h next =
    ⊎_elim
    (λ cut. inr (Truncated, length done + 1, record { spot = In (AtBytes count done block); is_spot = (under, low); rest = rest; split = sym (append_assoc (front count done) (number block) rest); here = cut; which = refl }))
    (λ whole.
    let r : Record = (block, take 2048 rest) in
    let more : List ℕ = drop 2048 rest in
    let pushed : front count (done ++ r ∷ []) ≡ front count done ++ record_bytes r = ap (λ (l : List ℕ). header magic count ++ l) (bytes-push done r) ∙ sym (append_assoc (header magic count) (flat_map record_bytes done) (record_bytes r)) in
    subst (HasOutcome readings)
    (ap (λ (l : List ℕ). l ++ more) pushed ∙ append_assoc (front count done) (record_bytes r) more
    ∙ ap (λ (l : List ℕ). front count done ++ l) (append_assoc (number block) (take 2048 rest) more ∙ ap (λ (l : List ℕ). number block ++ l) (take-append-drop 2048 rest)))
    (next r (record { number = low; block = some_block rest whole h }) more (small-drop 2048 rest h)))
    (cases_lt (length rest) 2048)

-- a block number
at_block : (count : ℕ) (done : List Record) → IsUnder count done → (rest : List ℕ) → Small rest
    → ((r : Record) → IsRecord r → (more : List ℕ) → Small more → HasOutcome readings (front count (done ++ r ∷ []) ++ more))
    → HasOutcome readings (front count done ++ rest)
at_block count done under rest h next =
    ⊎_elim
    (λ cut. inr (Truncated, length done + 1, record { spot = In (AtBlock count done); is_spot = under; rest = rest; split = refl; here = cut; which = refl }))
    (λ whole. ⊎_elim
    (λ high. inr (BlockNumber, length done + 1, record { spot = In (AtBlock count done); is_spot = under; rest = rest; split = refl; here = (whole, high); which = refl }))
    (λ low. subst (λ (l : List ℕ). HasOutcome readings (front count done ++ l)) (sym (four rest whole h))
    (at_bytes count done under (value_of rest) low (drop 4 rest) (small-drop 4 rest h) next))
    (cases_lt 4194303 (value_of rest)))
    (cases_lt (length rest) 4)

-- `n` more records
records : (n count : ℕ) (done : List Record) → length done + n ≡ count → count < 2 ^ 32 → AreRecords done → (rest : List ℕ) → Small rest → HasOutcome readings (front count done ++ rest)
records zero count done many fits are rest h =
    let all : length done ≡ count = omega arith in
    subst (λ (k : ℕ). HasOutcome readings (front k done ++ rest)) all (at_end done (omega arith) are rest)
records (suc n) count done many fits are rest h =
    at_block count done (record { more = omega arith; fits = fits; each = are }) rest h
    (λ r is more also. records n count (done ++ r ∷ []) (omega (arith, length-append done (r ∷ []))) fits (are_records-push done r are is) more also)

pub behind : (count : ℕ) (rest : List ℕ) → count < 2 ^ 32 → Small rest → HasOutcome readings (header magic count ++ rest)
behind count rest fits h = subst (λ (l : List ℕ). HasOutcome readings (l ++ rest)) (append-nil (header magic count)) (records count count [] (omega arith) fits tt rest h)
