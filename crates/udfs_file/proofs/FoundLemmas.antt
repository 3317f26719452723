-- Names behind a hole: what is behind the front of a directory, and the entries at each multiple of 4.
use Rattle.std.proofs.Common.{◌≡◌, refl, sym, ◌∙◌, ap, ℕ, ◌+◌, ◌*◌, ◌-◌, ◌<◌, ◌≤◌, true, false, List, [], ◌∷◌, length, take, drop, map, arith, Option, Some, None, cond, nat_lt, nat_le}
use Rattle.std.specs.Prelude.{zero, suc, sum_by, filter_map, Result, Ok, Err, OnErr}
use Rattle.std.specs.List.{AllZip, cons_option, range_with_len}
use Rattle.std.proofs.lemmas.List.{drop-drop, length-drop}
use Rattle.std.proofs.lemmas.List.Sums.{sum_by-cons}
use Rattle.udfs_volume.specs.declared.profiles.Profile.TheVariants.{Strict}
use Rattle.udfs_file.specs.declared.cells.Cell.{Cell}
use Rattle.udfs_file.specs.declared.cursors.Step as cursor
use Rattle.udfs_file.specs.declared.cursors.Step.TheVariants.{Id, Stop, Fault, End}
use Rattle.udfs_file.specs.declared.directories.DirEntry.{DirEntry}
use Rattle.udfs_file.specs.declared.pieces.Pieces.{Pieces}
use Rattle.udfs_file.specs.Fronts.{directory, step, step_by, value}
use Rattle.udfs_file.specs.FoundNames.{FoundNamesAreThere, behind_front, covered_entry, crc_length, entries_in, entry_in}
use Rattle.udfs_file.specs.Laws.{IsCellOf}
use Rattle.udfs_file.specs.Identifiers.{Identifier, Rest, Step, AtRest, One, Stopped}
use Rattle.udfs_file.specs.Steps.{HasFirstBytes, IsListedIn, IsStep, StepIs, StepsTo, bytes_of, is_id}
use Rattle.udfs_file.proofs.PartFronts.{AllZip-drop, AllZip-take, none_missing, step_is, step_same, step_stop}
use Rattle.udfs_file.proofs.PartFronts as parts
use Rattle.udfs_file.proofs.Reached.{step_clear, step_one as clean_one}
use Rattle.udfs_file.proofs.Readings.{StepOne, step_one}

-- ---- behind the front
-- a descriptor is passed
pub front_passed : (before after : List Cell) (told : cursor.Step) → IsStep before told after → StepsTo (directory before) told (directory after) → is_id told ≡ true → behind_front before ≡ behind_front after
unfolding behind_front
front_passed before after (Id view) s t h =
    ap (λ ids. drop (sum_by (λ (id : Identifier). id.size) ids) before) t.2 ∙ ap (λ n. drop n before) (sum_by-cons (λ (id : Identifier). id.size) t.0 (directory after).identifiers)
    ∙ sym (drop-drop (sum_by (λ (id : Identifier). id.size) (directory after).identifiers) t.0.size before)
    ∙ ap (drop (sum_by (λ (id : Identifier). id.size) (directory after).identifiers)) (ap (λ n. drop n before) t.1.size ∙ sym s.behind)
front_passed before after (Stop n) s t h = absurd (let z : ⊥ = cc in z)
front_passed before after (Fault f) s t h = absurd (let z : ⊥ = cc in z)
front_passed before after End s t h = absurd (let z : ⊥ = cc in z)

-- no descriptor is left
pub front_left : (before after : List Cell) (told : cursor.Step) → IsStep before told after → StepsTo (directory before) told (directory after) → is_id told ≡ false → after ≡ behind_front before
unfolding behind_front
front_left before after (Id view) s t h = absurd (let z : ⊥ = cc in z)
front_left before after (Stop n) s t h = s.behind ∙ ap (λ ids. drop (sum_by (λ (id : Identifier). id.size) ids) before) (sym t.0)
front_left before after (Fault f) s t h = s.behind ∙ ap (λ ids. drop (sum_by (λ (id : Identifier). id.size) ids) before) (sym t.0)
front_left before after End s t h = s.behind ∙ ap (λ ids. drop (sum_by (λ (id : Identifier). id.size) ids) before) (sym t.0)

-- ---- the entry at a place
-- the descriptor that is told there has an entry, if its CRC covers something
pub entry_told : (cells : List Cell) (view : Pieces) (count : ℕ) (o : Option DirEntry) → StepIs (Id view) (step cells) → HasFirstBytes cells (Id view) → count ≡ crc_length (bytes_of view) → nat_lt 0 count ≡ true
    → IsListedIn (bytes_of view) o → o ≡ entry_in cells
unfolding entry_in
entry_told cells view count o s b n h l = sym (ap (covered_entry cells) s.2 ∙ ap (λ k. cond (nat_lt 0 (crc_length (map value (take k cells)))) s.0.listed None) s.1.size
    ∙ ap (λ bytes. cond (nat_lt 0 (crc_length bytes)) s.0.listed None) (sym b) ∙ ap (λ k. cond (nat_lt 0 k) s.0.listed None) (sym n) ∙ ap (λ z. cond z s.0.listed None) h ∙ l s.0 s.1.is)

-- and none where it covers nothing
pub entry_uncovered : (cells : List Cell) (view : Pieces) (count : ℕ) → StepIs (Id view) (step cells) → HasFirstBytes cells (Id view) → count ≡ crc_length (bytes_of view) → count ≡ 0 → None ≡ entry_in cells
unfolding entry_in
entry_uncovered cells view count s b n h = sym (ap (covered_entry cells) s.2 ∙ ap (λ k. cond (nat_lt 0 (crc_length (map value (take k cells)))) s.0.listed None) s.1.size
    ∙ ap (λ bytes. cond (nat_lt 0 (crc_length bytes)) s.0.listed None) (sym b) ∙ ap (λ k. cond (nat_lt 0 k) s.0.listed None) (sym n ∙ h))

-- there is none where no descriptor is
pub entry_rest : (cells : List Cell) (told : cursor.Step) → StepIs told (step cells) → is_id told ≡ false → None ≡ entry_in cells
unfolding entry_in
entry_rest cells (Id view) s h = absurd (let z : ⊥ = cc in z)
entry_rest cells (Stop n) s h = sym (ap (covered_entry cells) s)
entry_rest cells (Fault f) s h = sym (ap (covered_entry cells) s)
entry_rest cells End s h = sym (ap (covered_entry cells) s)

-- ---- the entries at all places
-- those at `n` places, from place `a` on
abbrev entries_from : ℕ → ℕ → List Cell → List DirEntry
entries_from a n cells = filter_map (λ i. entry_in (drop (4 * i) cells)) (range_with_len a n)

-- the places from the second on are those of the cells behind the first four
shifted : (n a : ℕ) (cells : List Cell) → entries_from (a + 1) n cells ≡ entries_from a n (drop 4 cells)
shifted zero a cells = refl
shifted (suc n) a cells = λ i. cons_option (entry_in (here i)) (shifted n (a + 1) cells i)
  where
    here : drop (4 * (a + 1)) cells ≡ drop (4 * a) (drop 4 cells)
    here = ap (λ k. drop k cells) (let e : 4 * (a + 1) ≡ 4 + 4 * a = omega arith in e) ∙ sym (drop-drop (4 * a) 4 cells)

entries_next : (n : ℕ) (cells : List Cell) → entries_from 0 (suc n) cells ≡ cons_option (entry_in cells) (entries_from 0 n (drop 4 cells))
entries_next n cells = ap (cons_option (entry_in cells)) (shifted n 0 cells)

none_there : None ≡ entry_in []
unfolding entry_in step_by
none_there = refl

no_entries : (n : ℕ) → entries_from 0 n [] ≡ []
no_entries zero = refl
no_entries (suc n) = entries_next n [] ∙ (λ i. cons_option (sym none_there i) (no_entries n i))

-- more places than there are cells give no more
same_entries : (n m : ℕ) (cells : List Cell) → length cells ≤ n → length cells ≤ m → entries_from 0 n cells ≡ entries_from 0 m cells
same_entries n m [] h k = no_entries n ∙ sym (no_entries m)
same_entries zero m (c ∷ cs) h k = absurd (let z : ⊥ = omega (arith, h) in z)
same_entries (suc n) zero (c ∷ cs) h k = absurd (let z : ⊥ = omega (arith, k) in z)
same_entries (suc n) (suc m) (c ∷ cs) h k = entries_next n (c ∷ cs) ∙ ap (cons_option (entry_in (c ∷ cs))) (same_entries n m (drop 4 (c ∷ cs)) (few n h) (few m k)) ∙ sym (entries_next m (c ∷ cs))
  where
    few : (b : ℕ) → length (c ∷ cs) ≤ suc b → length (drop 4 (c ∷ cs)) ≤ b
    few b l = let e : length (drop 3 cs) ≡ length cs - 3 = length-drop 3 cs in omega (arith, e, l)

-- the entry at the first place, and those from the next one on
entries_step : (cells : List Cell) → nat_le 1 (length cells) ≡ true → entries_in cells ≡ cons_option (entry_in cells) (entries_in (drop 4 cells))
unfolding entries_in
entries_step [] h = absurd (let z : nat_le 1 (length {A = Cell} []) ≡ false = grind arith in let y : ⊥ = cc in y)
entries_step (c ∷ cs) h = entries_next (length cs) (c ∷ cs) ∙ ap (cons_option (entry_in (c ∷ cs))) (same_entries (length cs) (length (drop 4 (c ∷ cs))) (drop 4 (c ∷ cs)) few (omega arith))
  where
    few : length (drop 4 (c ∷ cs)) ≤ length cs
    few = let e : length (drop 3 cs) ≡ length cs - 3 = length-drop 3 cs in omega (arith, e)

pub entries_at_end : (cells : List Cell) → nat_le 1 (length cells) ≡ false → entries_in cells ≡ []
unfolding entries_in
entries_at_end [] h = refl
entries_at_end (c ∷ cs) h = absurd (let z : nat_le 1 (length (c ∷ cs)) ≡ true = grind arith in let y : ⊥ = cc in y)

pub entry_passed : (cells behind : List Cell) (o : Option DirEntry) → nat_le 1 (length cells) ≡ true → behind ≡ drop 4 cells → o ≡ entry_in cells → o ≡ None → entries_in cells ≡ entries_in behind
entry_passed cells behind o h b e n = entries_step cells h ∙ (λ i. cons_option ((sym e ∙ n) i) (entries_in (sym b i)))

pub entry_found : (cells behind : List Cell) (o : Option DirEntry) (entry : DirEntry) → nat_le 1 (length cells) ≡ true → behind ≡ drop 4 cells → o ≡ entry_in cells → o ≡ Some entry → entries_in cells ≡ entry ∷ entries_in behind
entry_found cells behind o entry h b e n = entries_step cells h ∙ (λ i. cons_option ((sym e ∙ n) i) (entries_in (sym b i)))

pub passed_fewer : (cells behind : List Cell) → nat_le 1 (length cells) ≡ true → behind ≡ drop 4 cells → length behind < length cells
passed_fewer cells behind h b = let e : length behind ≡ length cells - 4 = ap length b ∙ length-drop 4 cells in let k : 1 ≤ length cells = grind arith in omega arith

-- what holds holds where there is an error
pub on_error : {A E : Type 0} (P : Type 0) (r : Result A E) → P → OnErr r P
on_error P (Ok x) p = tt
on_error P (Err e) p = p

-- ---- of cells of which a part is missing
-- the same descriptor has the same entry
same_entry : (xs ys : List Cell) (id : Identifier) → AllZip IsCellOf xs ys → step xs ≡ One id → step ys ≡ One id → entry_in xs ≡ entry_in ys
unfolding entry_in
same_entry xs ys id h p q = ap (covered_entry xs) p ∙ ap (λ cs. cond (nat_lt 0 (crc_length (map value cs))) id.listed None)
    (none_missing (take id.size xs) (take id.size ys) (AllZip-take id.size xs ys h) (clean_one Strict xs id p).clean) ∙ sym (ap (covered_entry ys) q)

no_entry : (xs : List Cell) (rest : Rest) (e : DirEntry) → step xs ≡ AtRest rest → entry_in xs ≡ Some e → ⊥
unfolding entry_in
no_entry xs rest e p q = let z : ◌≡◌ {A = Option DirEntry} None (Some e) = sym (ap (covered_entry xs) p) ∙ q in let w : ⊥ = cc in w

is_there : (xs ys : List Cell) (e : DirEntry) → AllZip IsCellOf xs ys → entry_in xs ≡ Some e → entry_in ys ≡ Some e
is_there xs ys e h q = go (step_is Strict xs ys h)
  where
    by : (s : Step) → step xs ≡ s → step xs ≡ step ys → entry_in ys ≡ Some e
    by (AtRest rest) p r = absurd (no_entry xs rest e p q)
    by (One id) p r = sym (same_entry xs ys id h p (sym r ∙ p)) ∙ q

    go : parts.StepIs (step xs) (step ys) → entry_in ys ≡ Some e
    go (step_same r) = by (step xs) refl r
    go (step_stop n p) = absurd (no_entry xs (Stopped n) e p q)

pub found_names_are_there : FoundNamesAreThere
found_names_are_there part whole h k = record {
  there = λ e q. is_there (drop k part) (drop k whole) e (AllZip-drop k part whole h) q;
  found = λ id q clear. same_entry (drop k part) (drop k whole) id (AllZip-drop k part whole h) (step_clear Strict (drop k part) (drop k whole) (AllZip-drop k part whole h) id q clear) q;
}
