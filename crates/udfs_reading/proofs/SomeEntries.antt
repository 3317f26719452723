-- All bytes are a table file of version 1 or have a first fault.
use Rattle.std.proofs.Common.{◌≡◌, ℕ, zero, suc, ◌+◌, ◌^◌, ◌<◌, ◌≤◌, List, [], ◌∷◌, ◌++◌, length, take, drop, refl, sym, ap, subst, ◌∙◌, append_assoc, append-nil, arith, length-append, inl, inr, ⊎_elim, take-append-drop}
use Rattle.std.specs.List.{flat_map}
use Rattle.std.proofs.lemmas.Bool.{cases_lt}
use Rattle.udfs_lattice.specs.declared.facts.Fact.TheVariants.{Known, Conflict}
use Rattle.udfs_lattice.specs.States.{State}
use Rattle.udfs_lattice.specs.Tables.{entries_of}
use Rattle.udfs_lattice.specs.Records.{IsEntry, RisesFrom, table_of_entries}
use Rattle.udfs_lattice.proofs.PublicLaws.{rising_are_entries, rising_make_table}
use Rattle.udfs_reading.specs.declared.error.ReadingFault.TheVariants as fault
use Rattle.udfs_reading.specs.Format.{number, value_of, header, In}
use Rattle.udfs_reading.specs.Kind.{HasOutcome}
use Rattle.udfs_reading.specs.TableFile.{table_magic, state_bytes, entry_bytes, file_of}
use Rattle.udfs_reading.specs.TableReading.{entries_front, floor_after, IsUnderEntries, AtNumber, AtState, AtContent, AtTableEnd, tables_v1}
use Rattle.udfs_reading.proofs.Entries.{rises-push, entries_bytes-push}
use Rattle.udfs_reading.proofs.SomeHeader.{Small, small-drop, some_block, four}

-- the file of the table of rising entries
spelled : (done : List (ℕ × State)) → RisesFrom 0 done → entries_front (length done) done ≡ file_of (entries_of (table_of_entries done))
unfolding file_of
spelled done rises = ap file_of (sym (rising_are_entries done rises))

-- no entry is to come
at_end : (done : List (ℕ × State)) → length done < 2 ^ 32 → RisesFrom 0 done → (rest : List ℕ) → HasOutcome tables_v1 (entries_front (length done) done ++ rest)
at_end done fits rises [] =
    inl (
      length done,
      table_of_entries done,
      (record { is_table = rising_make_table done rises; spelled = append-nil (entries_front (length done) done) ∙ spelled done rises }, ap length (sym (rising_are_entries done rises))),
    )
at_end done fits rises (x ∷ xs) =
    inr (fault.Trailing, length done, record { spot = In (AtTableEnd done); is_spot = (fits, rises); rest = x ∷ xs; split = refl; here = (omega arith, omega arith); which = refl })

-- what follows one more entry has an outcome
abbrev Next : ℕ → List (ℕ × State) → Type 0
Next count done = (e : ℕ × State) → floor_after 0 done ≤ e.0 → IsEntry e.0 e.1 → (more : List ℕ) → Small more → HasOutcome tables_v1 (entries_front count (done ++ e ∷ []) ++ more)

-- behind an entry
behind_entry : (count : ℕ) (done : List (ℕ × State)) (e : ℕ × State) (more : List ℕ) → HasOutcome tables_v1 (entries_front count (done ++ e ∷ []) ++ more)
    → HasOutcome tables_v1 (entries_front count done ++ (number e.0 ++ (state_bytes e.1 ++ more)))
behind_entry count done e more h =
    subst (HasOutcome tables_v1)
    (ap (λ (l : List ℕ). l ++ more) (ap (λ (l : List ℕ). header table_magic count ++ l) (entries_bytes-push done e) ∙ sym (append_assoc (header table_magic count) (flat_map entry_bytes done) (entry_bytes e)))
    ∙ append_assoc (entries_front count done) (entry_bytes e) more
    ∙ ap (λ (l : List ℕ). entries_front count done ++ l) (append_assoc (number e.0) (state_bytes e.1) more))
    h

-- the bytes of a known block
at_content : (count : ℕ) (done : List (ℕ × State)) → IsUnderEntries count done → (block : ℕ) → floor_after 0 done ≤ block → block ≤ 4194303 → (rest : List ℕ) → Small rest → Next count done
    → HasOutcome tables_v1 (entries_front count done ++ (number block ++ (1 ∷ rest)))
at_content count done under block above low rest h next =
    ⊎_elim
    (λ cut. inr (
      fault.Truncated,
      length done + 1,
      record {
        spot = In (AtContent count done block);
        is_spot = (under, above, low);
        rest = rest;
        split = sym (append_assoc (entries_front count done) (number block ++ 1 ∷ []) rest ∙ ap (λ (l : List ℕ). entries_front count done ++ l) (append_assoc (number block) (1 ∷ []) rest));
        here = cut;
        which = refl;
      },
    ))
    (λ whole.
    let bytes : List ℕ = take 2048 rest in
    let more : List ℕ = drop 2048 rest in
    subst (λ (l : List ℕ). HasOutcome tables_v1 (entries_front count done ++ (number block ++ (1 ∷ l)))) (take-append-drop 2048 rest)
    (behind_entry count done (block, Known bytes) more (next (block, Known bytes) above (low, some_block rest whole h) more (small-drop 2048 rest h))))
    (cases_lt (length rest) 2048)

-- a state byte
at_state : (count : ℕ) (done : List (ℕ × State)) → IsUnderEntries count done → (block : ℕ) → floor_after 0 done ≤ block → block ≤ 4194303 → (rest : List ℕ) → Small rest → Next count done
    → HasOutcome tables_v1 (entries_front count done ++ (number block ++ rest))
at_state count done under block above low [] h next =
    inr (fault.Truncated, length done + 1, record { spot = In (AtState count done block); is_spot = (under, above, low); rest = []; split = sym (append_assoc (entries_front count done) (number block) []); here = omega arith; which = refl })
at_state count done under block above low (zero ∷ rest) h next =
    inr (fault.State, length done + 1, record { spot = In (AtState count done block); is_spot = (under, above, low); rest = zero ∷ rest; split = sym (append_assoc (entries_front count done) (number block) (zero ∷ rest)); here = (omega arith, (λ e. omega arith, λ e. omega arith)); which = refl })
at_state count done under block above low (suc zero ∷ rest) h next = at_content count done under block above low rest (small-drop 1 (1 ∷ rest) h) next
at_state count done under block above low (suc (suc zero) ∷ rest) h next = behind_entry count done (block, Conflict) rest (next (block, Conflict) above low rest (small-drop 1 (2 ∷ rest) h))
at_state count done under block above low (suc (suc (suc b)) ∷ rest) h next =
    inr (fault.State, length done + 1, record { spot = In (AtState count done block); is_spot = (under, above, low); rest = suc (suc (suc b)) ∷ rest; split = sym (append_assoc (entries_front count done) (number block) (suc (suc (suc b)) ∷ rest)); here = (omega arith, (λ e. omega arith, λ e. omega arith)); which = refl })

-- a block number
at_number : (count : ℕ) (done : List (ℕ × State)) → IsUnderEntries count done → (rest : List ℕ) → Small rest → Next count done → HasOutcome tables_v1 (entries_front count done ++ rest)
at_number count done under rest h next =
    ⊎_elim
    (λ cut. inr (fault.Truncated, length done + 1, record { spot = In (AtNumber count done); is_spot = under; rest = rest; split = refl; here = cut; which = refl }))
    (λ whole. ⊎_elim
    (λ high. inr (fault.BlockNumber, length done + 1, record { spot = In (AtNumber count done); is_spot = under; rest = rest; split = refl; here = (whole, high); which = refl }))
    (λ low. ⊎_elim
    (λ early. inr (fault.Order, length done + 1, record { spot = In (AtNumber count done); is_spot = under; rest = rest; split = refl; here = (whole, (low, early)); which = refl }))
    (λ above. subst (λ (l : List ℕ). HasOutcome tables_v1 (entries_front count done ++ l)) (sym (four rest whole h))
    (at_state count done under (value_of rest) above low (drop 4 rest) (small-drop 4 rest h) next))
    (cases_lt (value_of rest) (floor_after 0 done)))
    (cases_lt 4194303 (value_of rest)))
    (cases_lt (length rest) 4)

-- `n` more entries
entries : (n count : ℕ) (done : List (ℕ × State)) → length done + n ≡ count → count < 2 ^ 32 → RisesFrom 0 done → (rest : List ℕ) → Small rest → HasOutcome tables_v1 (entries_front count done ++ rest)
entries zero count done many fits rises rest h =
    let all : length done ≡ count = omega arith in
    subst (λ (k : ℕ). HasOutcome tables_v1 (entries_front k done ++ rest)) all (at_end done (omega arith) rises rest)
entries (suc n) count done many fits rises rest h =
    at_number count done (record { more = omega arith; fits = fits; each = rises }) rest h
    (λ e above entry more also. entries n count (done ++ e ∷ []) (omega (arith, length-append done (e ∷ []))) fits (rises-push 0 done e rises above entry) more also)

pub behind : (count : ℕ) (rest : List ℕ) → count < 2 ^ 32 → Small rest → HasOutcome tables_v1 (header table_magic count ++ rest)
behind count rest fits h = subst (λ (l : List ℕ). HasOutcome tables_v1 (l ++ rest)) (append-nil (header table_magic count)) (entries count count [] (omega arith) fits tt rest h)
