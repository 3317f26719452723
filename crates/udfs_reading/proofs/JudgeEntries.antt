-- No bytes are two table files, or a table file and faulty, or have two first faults.
use Rattle.std.proofs.Common.{◌≡◌, ◌≢◌, ℕ, zero, suc, ◌+◌, ◌-◌, ◌^◌, ◌<◌, ◌≤◌, false, ltb, List, [], ◌∷◌, ◌++◌, length, take, drop, Ok, Err, refl, sym, ap, subst, ◌∙◌, append_assoc, append-nil, arith, length-append}
use Rattle.std.specs.Prelude.{nat_lt, ◌==◌, if◌then◌else◌}
use Rattle.std.specs.List.{flat_map}
use Rattle.std.proofs.lemmas.Bool.{le-ltb, lt-ltb, ne_eqb}
use Rattle.std.proofs.lemmas.List.{take_at, drop_at}
use Rattle.udfs_lattice.specs.declared.facts.Fact.TheVariants.{Unknown, Known, Conflict}
use Rattle.udfs_lattice.specs.States.{State}
use Rattle.udfs_lattice.specs.Tables.{Table, entries_of}
use Rattle.udfs_lattice.specs.Records.{IsEntry, RisesFrom}
use Rattle.udfs_lattice.proofs.PublicLaws.{entries_rise, few_entries}
use Rattle.udfs_reading.specs.declared.error.ReadingFault.{ReadingFault}
use Rattle.udfs_reading.specs.declared.error.ReadingFault.TheVariants as fault
use Rattle.udfs_reading.specs.Format.{number, value_of, header, In, FaultHere, HasFault}
use Rattle.udfs_reading.specs.Outcome.{HeaderIsSound}
use Rattle.udfs_reading.specs.TableFile.{table_magic, state_bytes, entry_bytes, file_of}
use Rattle.udfs_reading.specs.TableReading.{IsTableFile, floor_after, entries_front, IsUnderEntries, IsOtherState, TablePlace, IsTablePlace, before_table_place, record_of_table_place, AtNumber, AtState, AtContent, AtTableEnd, table_format, tables_v1}
use Rattle.udfs_reading.proofs.Numbers.{length-number, value_of-number}
use Rattle.udfs_reading.proofs.Counts.{same_count}
use Rattle.udfs_reading.proofs.JudgeHeader as header
use Rattle.udfs_reading.proofs.JudgeHeader.{Judged, judge, judge_header, number_long, with_first, with_all, all_err, all_ok, IsFrom, from_ok, from_err, first_keeps, from_either}

abbrev Entry : Type 0
Entry = ℕ × State

pub length-table_magic : length table_magic ≡ 8
unfolding table_magic
length-table_magic = refl

-- the state byte, and what each of the two states makes of the rest
abbrev judge_state : List ℕ → (List ℕ → Judged Entry) → (List ℕ → Judged Entry) → ℕ → Judged Entry
judge_state [] known conflict k = Err (fault.Truncated, k)
judge_state (b ∷ rest) known conflict k = if b == 1 then known rest else if b == 2 then conflict rest else Err (fault.State, k)

-- n more entries, the first of which is number k and names a block from `low` on, and then the end
judge_entries : ℕ → ℕ → ℕ → List ℕ → Judged Entry
judge_entries zero k low bytes = if length bytes == 0 then Ok [] else Err (fault.Trailing, k - 1)
judge_entries (suc n) k low bytes =
    if nat_lt (length bytes) 4 then Err (fault.Truncated, k)
    else if nat_lt 4194303 (value_of bytes) then Err (fault.BlockNumber, k)
    else if nat_lt (value_of bytes) low then Err (fault.Order, k)
    else judge_state (drop 4 bytes)
    (λ rest. if nat_lt (length rest) 2048 then Err (fault.Truncated, k)
    else with_first (value_of bytes, Known (take 2048 rest)) (judge_entries n (k + 1) (value_of bytes + 1) (drop 2048 rest)))
    (λ rest. with_first (value_of bytes, Conflict) (judge_entries n (k + 1) (value_of bytes + 1) rest))
    k

judge_body : ℕ → List ℕ → Judged Entry
judge_body n bytes = judge_entries n 1 0 bytes

pub judge_bytes : List ℕ → Judged Entry
judge_bytes bytes = judge table_magic judge_body bytes

-- ---- the entries

end_here : (k low : ℕ) → judge_entries zero k low [] ≡ Ok []
unfolding judge_entries
end_here k low = refl

end_late : (k low : ℕ) (bytes : List ℕ) → 0 < length bytes → judge_entries zero k low bytes ≡ Err (fault.Trailing, k - 1)
unfolding judge_entries
end_late k low bytes h = rw (ne_eqb (length bytes) 0 (λ e. omega arith)) refl

number_cut : (n k low : ℕ) (bytes : List ℕ) → length bytes < 4 → judge_entries (suc n) k low bytes ≡ Err (fault.Truncated, k)
unfolding judge_entries
number_cut n k low bytes h = rw (lt-ltb (length bytes) 4 h) refl

number_high : (n k low : ℕ) (bytes : List ℕ) → 4 ≤ length bytes → 4194303 < value_of bytes → judge_entries (suc n) k low bytes ≡ Err (fault.BlockNumber, k)
unfolding judge_entries
number_high n k low bytes h high = rw (le-ltb (length bytes) 4 h, lt-ltb 4194303 (value_of bytes) high) refl

number_low : (n k low : ℕ) (bytes : List ℕ) → 4 ≤ length bytes → value_of bytes ≤ 4194303 → value_of bytes < low → judge_entries (suc n) k low bytes ≡ Err (fault.Order, k)
unfolding judge_entries
number_low n k low bytes h there early = rw (le-ltb (length bytes) 4 h, le-ltb 4194303 (value_of bytes) there, lt-ltb (value_of bytes) low early) refl

state_cut : (n k low block : ℕ) → low ≤ block → block ≤ 4194303 → judge_entries (suc n) k low (number block ++ []) ≡ Err (fault.Truncated, k)
unfolding judge_entries
state_cut n k low block above there =
    rw (number_long block [], value_of-number block [] (omega arith), le-ltb 4194303 block there, le-ltb block low above, drop_at (number block) [] 4 (length-number block)) refl

state_wrong : (n k low block b : ℕ) (rest : List ℕ) → low ≤ block → block ≤ 4194303 → b ≢ 1 → b ≢ 2 → judge_entries (suc n) k low (number block ++ (b ∷ rest)) ≡ Err (fault.State, k)
unfolding judge_entries
state_wrong n k low block b rest above there one two =
    rw (number_long block (b ∷ rest), value_of-number block (b ∷ rest) (omega arith), le-ltb 4194303 block there, le-ltb block low above, drop_at (number block) (b ∷ rest) 4 (length-number block), ne_eqb b 1 one, ne_eqb b 2 two) refl

content_cut : (n k low block : ℕ) (rest : List ℕ) → low ≤ block → block ≤ 4194303 → length rest < 2048 → judge_entries (suc n) k low (number block ++ (1 ∷ rest)) ≡ Err (fault.Truncated, k)
unfolding judge_entries
content_cut n k low block rest above there h =
    rw (number_long block (1 ∷ rest), value_of-number block (1 ∷ rest) (omega arith), le-ltb 4194303 block there, le-ltb block low above, drop_at (number block) (1 ∷ rest) 4 (length-number block), lt-ltb (length rest) 2048 h) refl

known_entry : (n k low block : ℕ) (bytes rest : List ℕ) → low ≤ block → block ≤ 4194303 → length bytes ≡ 2048
    → judge_entries (suc n) k low (number block ++ (1 ∷ (bytes ++ rest))) ≡ with_first (block, Known bytes) (judge_entries n (k + 1) (block + 1) rest)
unfolding judge_entries
known_entry n k low block bytes rest above there len =
    let all : List ℕ = 1 ∷ (bytes ++ rest) in
    let long : ltb (length (bytes ++ rest)) 2048 ≡ false = le-ltb _ _ (omega (arith, length-append bytes rest)) in
    rw (number_long block all, value_of-number block all (omega arith), le-ltb 4194303 block there, le-ltb block low above, drop_at (number block) all 4 (length-number block), long, take_at bytes rest 2048 len, drop_at bytes rest 2048 len) refl

conflict_entry : (n k low block : ℕ) (rest : List ℕ) → low ≤ block → block ≤ 4194303
    → judge_entries (suc n) k low (number block ++ (2 ∷ rest)) ≡ with_first (block, Conflict) (judge_entries n (k + 1) (block + 1) rest)
unfolding judge_entries
conflict_entry n k low block rest above there =
    rw (number_long block (2 ∷ rest), value_of-number block (2 ∷ rest) (omega arith), le-ltb 4194303 block there, le-ltb block low above, drop_at (number block) (2 ∷ rest) 4 (length-number block)) refl

one_entry : (n k low block : ℕ) (s : State) (rest : List ℕ) → low ≤ block → IsEntry block s
    → judge_entries (suc n) k low ((number block ++ state_bytes s) ++ rest) ≡ with_first (block, s) (judge_entries n (k + 1) (block + 1) rest)
one_entry n k low block Unknown rest above h = absurd h
one_entry n k low block (Known bytes) rest above h = ap (judge_entries (suc n) k low) (append_assoc (number block) (1 ∷ bytes) rest) ∙ known_entry n k low block bytes rest above h.0 h.1.whole
one_entry n k low block Conflict rest above h = ap (judge_entries (suc n) k low) (append_assoc (number block) (2 ∷ []) rest) ∙ conflict_entry n k low block rest above h

judge_all : (es : List Entry) (n k low : ℕ) (rest : List ℕ) → RisesFrom low es
    → judge_entries (length es + n) k low (flat_map entry_bytes es ++ rest) ≡ with_all es (judge_entries n (k + length es) (floor_after low es) rest)
judge_all [] n k low rest h = let e : 0 + n ≡ n = omega arith in let f : k + 0 ≡ k = omega arith in rw (e, f) refl
judge_all (x ∷ es) n k low rest h =
    let e : length (x ∷ es) + n ≡ suc (length es + n) = omega arith in
    let f : k + 1 + length es ≡ k + length (x ∷ es) = omega arith in
    let more : List ℕ = flat_map entry_bytes es ++ rest in
    ap (λ (m : ℕ). judge_entries m k low (flat_map entry_bytes (x ∷ es) ++ rest)) e
    ∙ ap (judge_entries (suc (length es + n)) k low) (append_assoc (entry_bytes x) (flat_map entry_bytes es) rest)
    ∙ one_entry (length es + n) k low x.0 x.1 more h.0 h.1
    ∙ ap (with_first x) (judge_all es n (k + 1) (x.0 + 1) rest h.2 ∙ ap (λ (m : ℕ). with_all es (judge_entries n m (floor_after (x.0 + 1) es) rest)) f)

-- what the judge says after a header and some entries
judge_front : (count : ℕ) (es : List Entry) (n : ℕ) (rest : List ℕ) → count < 2 ^ 32 → RisesFrom 0 es → length es + n ≡ count
    → judge_bytes (entries_front count es ++ rest) ≡ with_all es (judge_entries n (length es + 1) (floor_after 0 es) rest)
unfolding judge_bytes judge_body
judge_front count es n rest fits h many =
    let f : 1 + length es ≡ length es + 1 = omega arith in
    ap judge_bytes (append_assoc (header table_magic count) (flat_map entry_bytes es) rest)
    ∙ judge_header table_magic judge_body length-table_magic count (flat_map entry_bytes es ++ rest) fits
    ∙ ap (λ (m : ℕ). judge_entries m 1 0 (flat_map entry_bytes es ++ rest)) (sym many)
    ∙ judge_all es n 1 0 rest h
    ∙ ap (λ (m : ℕ). with_all es (judge_entries n m (floor_after 0 es) rest)) f

judge_front_err : (count : ℕ) (es : List Entry) (n : ℕ) (rest : List ℕ) (e : ReadingFault × ℕ) → count < 2 ^ 32 → RisesFrom 0 es → length es + n ≡ count
    → judge_entries n (length es + 1) (floor_after 0 es) rest ≡ Err e → judge_bytes (entries_front count es ++ rest) ≡ Err e
judge_front_err count es n rest e fits h many err = judge_front count es n rest fits h many ∙ ap (with_all es) err ∙ all_err es e

-- ---- the two laws

pub judge_file : (es : List Entry) → RisesFrom 0 es → length es < 2 ^ 32 → judge_bytes (entries_front (length es) es) ≡ Ok es
judge_file es rises fits =
    ap judge_bytes (sym (append-nil (entries_front (length es) es)))
    ∙ judge_front (length es) es 0 [] fits rises (omega arith)
    ∙ ap (with_all es) (end_here (length es + 1) (floor_after 0 es)) ∙ all_ok es

at_entry : (count : ℕ) (done : List Entry) (rest : List ℕ) (e : ReadingFault × ℕ) → IsUnderEntries count done
    → ((n : ℕ) → judge_entries (suc n) (length done + 1) (floor_after 0 done) rest ≡ Err e) → judge_bytes (entries_front count done ++ rest) ≡ Err e
at_entry count done rest e under err =
    let more = under.more in
    let many : length done + suc (count - (length done + 1)) ≡ count = omega arith in
    judge_front_err count done (suc (count - (length done + 1))) rest e under.fits under.each many (err (count - (length done + 1)))

-- a state byte that is there and neither 1 nor 2
wrong_state : (n k low block : ℕ) (rest : List ℕ) → low ≤ block → block ≤ 4194303 → IsOtherState rest → judge_entries (suc n) k low (number block ++ rest) ≡ Err (fault.State, k)
wrong_state n k low block [] above there h = absurd h
wrong_state n k low block (b ∷ rest) above there h = state_wrong n k low block b rest above there h.0 h.1

no_state : (n k low block : ℕ) (rest : List ℕ) → low ≤ block → block ≤ 4194303 → length rest < 1 → judge_entries (suc n) k low (number block ++ rest) ≡ Err (fault.Truncated, k)
no_state n k low block [] above there h = state_cut n k low block above there
no_state n k low block (b ∷ rest) above there h = absurd (omega arith)

judge_place : (place : TablePlace) (rest : List ℕ) (f : ReadingFault) → IsTablePlace place → FaultHere table_format (In place) rest f → judge_bytes (before_table_place place ++ rest) ≡ Err (f, record_of_table_place place)
judge_place (AtNumber count done) rest fault.Truncated p h = at_entry count done rest _ p (λ n. number_cut n (length done + 1) (floor_after 0 done) rest h)
judge_place (AtNumber count done) rest fault.BlockNumber p h = at_entry count done rest _ p (λ n. number_high n (length done + 1) (floor_after 0 done) rest h.0 h.1)
judge_place (AtNumber count done) rest fault.Order p h = at_entry count done rest _ p (λ n. number_low n (length done + 1) (floor_after 0 done) rest h.0 h.1.0 h.1.1)
judge_place (AtNumber count done) rest _ p h = absurd h.1
judge_place (AtState count done block) rest fault.Truncated p h =
    ap judge_bytes (append_assoc (entries_front count done) (number block) rest)
    ∙ at_entry count done (number block ++ rest) _ p.0 (λ n. no_state n (length done + 1) (floor_after 0 done) block rest p.1 p.2 h)
judge_place (AtState count done block) rest fault.State p h =
    ap judge_bytes (append_assoc (entries_front count done) (number block) rest)
    ∙ at_entry count done (number block ++ rest) _ p.0 (λ n. wrong_state n (length done + 1) (floor_after 0 done) block rest p.1 p.2 h.1)
judge_place (AtState count done block) rest _ p h = absurd h.1
judge_place (AtContent count done block) rest fault.Truncated p h =
    ap judge_bytes (append_assoc (entries_front count done) (number block ++ 1 ∷ []) rest ∙ ap (λ (l : List ℕ). entries_front count done ++ l) (append_assoc (number block) (1 ∷ []) rest))
    ∙ at_entry count done (number block ++ (1 ∷ rest)) _ p.0 (λ n. content_cut n (length done + 1) (floor_after 0 done) block rest p.1 p.2 h)
judge_place (AtContent count done block) rest _ p h = absurd h.1
judge_place (AtTableEnd done) rest fault.Truncated p h = absurd (omega arith)
judge_place (AtTableEnd done) rest fault.Trailing p h =
    let k : length done + 1 - 1 ≡ length done = omega arith in
    judge_front_err (length done) done 0 rest _ p.0 p.1 (omega arith) (end_late (length done + 1) (floor_after 0 done) rest h.1 ∙ ap (λ (n : ℕ). Err (fault.Trailing, n)) k)
judge_place (AtTableEnd done) rest _ p h = absurd h.1

pub judge_fault : (bytes : List ℕ) (f : ReadingFault) (number : ℕ) → HasFault table_format bytes f number → judge_bytes bytes ≡ Err (f, number)
unfolding judge_bytes
judge_fault bytes f number h = header.judge_fault table_format judge_body length-table_magic judge_place bytes f number h

-- ---- a file whose header is right and has entries has no fault before the first of them

state_from : (low k : ℕ) (bytes : List ℕ) (known conflict : List ℕ → Judged Entry) → low ≤ k → ((rest : List ℕ) → IsFrom low (known rest)) → ((rest : List ℕ) → IsFrom low (conflict rest)) → IsFrom low (judge_state bytes known conflict k)
state_from low k [] known conflict h p q = from_err low k fault.Truncated h
state_from low k (b ∷ rest) known conflict h p q = from_either low (b == 1) _ _ (p rest) (from_either low (b == 2) _ _ (q rest) (from_err low k fault.State h))

at_least : (n k low floor : ℕ) (bytes : List ℕ) → low + 1 ≤ k → IsFrom low (judge_entries n k floor bytes)
unfolding judge_entries
at_least zero k low floor bytes h = from_either _ _ _ _ (from_ok low []) (from_err low (k - 1) fault.Trailing (omega arith))
at_least (suc n) k low floor bytes h =
    from_either _ _ _ _ (from_err low k fault.Truncated (omega arith)) (from_either _ _ _ _ (from_err low k fault.BlockNumber (omega arith)) (from_either _ _ _ _ (from_err low k fault.Order (omega arith))
    (state_from low k (drop 4 bytes) _ _ (omega arith)
    (λ rest. from_either _ _ _ _ (from_err low k fault.Truncated (omega arith)) (first_keeps low _ _ (at_least n (k + 1) low (value_of bytes + 1) (drop 2048 rest) (omega arith))))
    (λ rest. first_keeps low _ _ (at_least n (k + 1) low (value_of bytes + 1) rest (omega arith))))))

some_first : (n : ℕ) (bytes : List ℕ) → IsFrom 1 (judge_entries (suc n) 1 0 bytes)
unfolding judge_entries
some_first n bytes =
    from_either _ _ _ _ (from_err 1 1 fault.Truncated (omega arith)) (from_either _ _ _ _ (from_err 1 1 fault.BlockNumber (omega arith)) (from_either _ _ _ _ (from_err 1 1 fault.Order (omega arith))
    (state_from 1 1 (drop 4 bytes) _ _ (omega arith)
    (λ rest. from_either _ _ _ _ (from_err 1 1 fault.Truncated (omega arith)) (first_keeps 1 _ _ (at_least n (1 + 1) 1 (value_of bytes + 1) (drop 2048 rest) (omega arith))))
    (λ rest. first_keeps 1 _ _ (at_least n (1 + 1) 1 (value_of bytes + 1) rest (omega arith))))))

past_header : (count : ℕ) (rest : List ℕ) (f : ReadingFault) (number : ℕ) → 0 < count → count < 2 ^ 32 → HasFault table_format (header table_magic count ++ rest) f number → 0 < number
unfolding judge_bytes judge_body
past_header zero rest f number some fits h = absurd (omega arith)
past_header (suc n) rest f number some fits h =
    let e : judge_entries (suc n) 1 0 rest ≡ Err (f, number) = sym (judge_header table_magic judge_body length-table_magic (suc n) rest fits) ∙ judge_fault _ f number h in
    let from : IsFrom {X = Entry} 1 (Err (f, number)) = subst (IsFrom 1) e (some_first n rest) in from.is

-- the header, and what stands behind it
behind : (count : ℕ) (done : List Entry) (got more : List ℕ) → (entries_front count done ++ got) ++ more ≡ header table_magic count ++ (flat_map entry_bytes done ++ (got ++ more))
behind count done got more = append_assoc (entries_front count done) got more ∙ append_assoc (header table_magic count) (flat_map entry_bytes done) (got ++ more)

-- the count in the header of a table's file
same_entries : (count : ℕ) (bytes rest : List ℕ) (t : Table) → count < 2 ^ 32 → bytes ≡ header table_magic count ++ rest → IsTableFile bytes t → count ≡ length (entries_of t)
unfolding file_of
same_entries count bytes rest t fits is h =
    let few : length (entries_of t) ≤ 4194304 = few_entries (entries_of t) (entries_rise t h.is_table) in
    same_count table_magic count (length (entries_of t)) rest (flat_map entry_bytes (entries_of t)) length-table_magic fits (omega arith) (sym is ∙ h.spelled)

-- after the header and some entries, the header has no fault and says that there are entries, whatever follows
pub header_is_sound : (count : ℕ) (done : List Entry) (got : List ℕ) → IsUnderEntries count done → HeaderIsSound tables_v1 (entries_front count done ++ got)
header_is_sound count done got under =
    let fewer = under.more in
    record {
      fault = λ more f number h.
          past_header count (flat_map entry_bytes done ++ (got ++ more)) f number (omega arith) under.fits (subst (λ (l : List ℕ). HasFault table_format l f number) (behind count done got more) h);
      file = λ more n table h.
          let same = same_entries count ((entries_front count done ++ got) ++ more) (flat_map entry_bytes done ++ (got ++ more)) table under.fits (behind count done got more) h.0 in
          let many = h.1 in omega arith;
    }
