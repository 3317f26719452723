-- Where each input tells its bytes and is a good file, the answer is the join of their tables, or blames a device or
-- memory; and where one is not, the first such input is named. `Is x t` says what an answer x has of that join t.
use Rattle.std.proofs.Common.{◌≡◌, ℕ, ◌+◌, List, [], ◌∷◌, ◌++◌, length, map, drop, get_or, Option, Some, Result, Ok, Err, refl, sym, ap, subst, ◌∙◌, append_assoc, inl, inr}
use Rattle.std.specs.Prelude.{IfSome, IfOk, IfErr, MatchResult, ◌⊎◌}
use Rattle.std.specs.List.{flat_map}
use Rattle.udfs_lattice.specs.Tables.{Table}
use Rattle.udfs_lattice.specs.Records.{Record, table_of, join_all, SameTables, SameRecords, all_records}
use Rattle.udfs_lattice.proofs.PublicLaws.{records_make_join, set_makes_table, tables_make_join}
use Rattle.udfs_reading.specs.declared.error.ReadingFault.{ReadingFault}
use Rattle.udfs_reading.specs.declared.inputs.InputError.{InputError}
use Rattle.udfs_reading.specs.Answers.{IsOfFile}
use Rattle.udfs_reading.specs.Format.{number}
use Rattle.udfs_reading.specs.Reading.{magic, record_bytes, IsReading}
use Rattle.udfs_reading.specs.Inputs.{inputs}
use Rattle.udfs_reading.specs.Several.{HasTable, TablesAre, Tells, AllTell, AllReadings, InputFails, IsFirstFaulty}
use Rattle.udfs_reading.proofs.Outcomes.{inputs_laws}
use Rattle.udfs_reading.proofs.Magics.{readings_at}
use Rattle.udfs_reading.proofs.Records.{whole_front}

known : (a : Option (List ℕ)) (P : List ℕ → Type 0) (bytes : List ℕ) → a ≡ Some bytes → IfSome a P → P bytes
known a P bytes e h = let at : IfSome (Some bytes) P = subst (λ (b : Option (List ℕ)). IfSome b P) e h in at

same_tables : {R : Type 0} (remaining : R → Option (List ℕ)) (rs : List R) (ts us : List Table) → AllTell remaining rs ts → TablesAre remaining rs us → us ≡ ts
same_tables remaining [] [] [] h k = refl
same_tables remaining [] [] (u ∷ us) h k = absurd k
same_tables remaining [] (t ∷ ts) us h k = absurd h
same_tables remaining (r ∷ rs) [] us h k = absurd h
same_tables remaining (r ∷ rs) (t ∷ ts) [] h k = absurd k
same_tables remaining (r ∷ rs) (t ∷ ts) (u ∷ us) h k =
    let bytes = h.0.0 in
    let has : HasTable bytes u = known (remaining r) (λ (l : List ℕ). HasTable l u) bytes h.0.1 k.0 in
    let first : u ≡ t = inputs_laws.one_file bytes has.0 h.0.2.0 u t has.1 h.0.2.1 in
    let rest : us ≡ ts = same_tables remaining rs ts us h.1 k.1 in
    ap (λ (x : Table). x ∷ us) first ∙ ap (λ (l : List Table). t ∷ l) rest

tells_at : {R : Type 0} (remaining : R → Option (List ℕ)) (earlier later : List R) (old : R) (ts : List Table) → AllTell remaining (earlier ++ old ∷ later) ts → (t : Table) × Tells remaining old t
tells_at remaining [] later old [] h = absurd h
tells_at remaining [] later old (t ∷ ts) h = (t, h.0)
tells_at remaining (x ∷ earlier) later old [] h = absurd h
tells_at remaining (x ∷ earlier) later old (t ∷ ts) h = tells_at remaining earlier later old ts h.1

-- what is said of one of several inputs that have tables
table_at : {R : Type 0} (remaining : R → Option (List ℕ)) (earlier later : List R) (old : R) (ts : List Table) → TablesAre remaining (earlier ++ old ∷ later) ts → (t : Table) × IfSome (remaining old) (λ bytes. HasTable bytes t)
table_at remaining [] later old [] h = absurd h
table_at remaining [] later old (t ∷ ts) h = (t, h.0)
table_at remaining (x ∷ earlier) later old [] h = absurd h
table_at remaining (x ∷ earlier) later old (t ∷ ts) h = table_at remaining earlier later old ts h.1

-- an input with a table is not faulty
table_or_fault : {R : Type 0} (remaining : R → Option (List ℕ)) (earlier later : List R) (old : R) (ts : List Table) (bytes : List ℕ) (fault : ReadingFault) (number : ℕ) → TablesAre remaining (earlier ++ old ∷ later) ts → remaining old ≡ Some bytes → inputs.IsFaulty bytes fault number → ⊥
table_or_fault remaining earlier later old ts bytes fault number h told bad =
    let at = table_at remaining earlier later old ts h in
    let has : HasTable bytes at.0 = known (remaining old) (λ (l : List ℕ). HasTable l at.0) bytes told at.1 in
    inputs_laws.either bytes has.0 at.0 fault number has.1 bad

-- an input that tells a file does not fail by the file
tells_or_fails : {R : Type 0} (remaining : R → Option (List ℕ)) (faults : R → ℕ) (olds news : List R) (e : InputError) (h : InputFails remaining faults olds news e) (t : Table) → Tells remaining h.old t → IsOfFile e.error.fault → ⊥
tells_or_fails remaining faults olds news e h t tells of_file =
    inputs_laws.either tells.0 tells.2.0 t e.error.fault e.error.number tells.2.1
    (known (remaining h.old) (λ bytes. IsOfFile e.error.fault → inputs.IsFaulty bytes e.error.fault e.error.number) tells.0 tells.1 h.fault of_file)

pub all_good : {R X : Type 0} (Is : X → Table → Type 0) (remaining : R → Option (List ℕ)) (faults : R → ℕ) (olds news : List R) (r : Result X InputError)
    → IfOk r (λ x. (ts : List Table) × TablesAre remaining olds ts × Is x (join_all ts)) → IfErr r (λ e. InputFails remaining faults olds news e)
    → (ts : List Table) → AllTell remaining olds ts → MatchResult r (λ x. Is x (join_all ts)) (λ e. ¬ IsOfFile e.error.fault)
all_good Is remaining faults olds news (Ok x) ok err ts h = subst (Is x) (ap join_all (same_tables remaining olds ts ok.0 h ok.1)) ok.2
all_good {R} {X} Is remaining faults olds news (Err e) ok err ts h = λ of_file.
    let at = tells_at remaining err.earlier err.later err.old ts (subst (λ (l : List R). AllTell remaining l ts) err.were h) in
    tells_or_fails remaining faults olds news e err at.0 at.1 of_file

pub any_order : {R X : Type 0} (Is : X → Table → Type 0) (remaining : R → Option (List ℕ)) (olds : List R) (r : Result X InputError)
    → IfOk r (λ x. (ts : List Table) × TablesAre remaining olds ts × Is x (join_all ts))
    → (ts us : List Table) → AllTell remaining olds ts → SameTables ts us → IfOk r (λ x. Is x (join_all us))
any_order Is remaining olds (Ok x) ok ts us h same = subst (Is x) (ap join_all (same_tables remaining olds ts ok.0 h ok.1) ∙ tables_make_join ts us same) ok.2
any_order Is remaining olds (Err e) ok ts us h same = tt

-- a reading is an input
reading_input : (bytes : List ℕ) (rs : List Record) → IsReading bytes rs → HasTable bytes (table_of rs)
reading_input bytes rs h =
    let n = length rs in
    let rest : List ℕ = (number 2048 ++ number n) ++ flat_map record_bytes rs in
    let is : bytes ≡ magic ++ rest = h.spelled ∙ ap (λ (l : List ℕ). l ++ flat_map record_bytes rs) (whole_front n) ∙ append_assoc magic (number 2048 ++ number n) (flat_map record_bytes rs) in
    (n, subst (λ (l : List ℕ). inputs.IsFile l n (table_of rs)) (sym is) (readings_at.file rest n (table_of rs) (rs, subst (λ (l : List ℕ). IsReading l rs) is h, refl, refl)))

tells_readings : {R : Type 0} (remaining : R → Option (List ℕ)) (olds : List R) (rss : List (List Record)) → AllReadings remaining olds rss → AllTell remaining olds (map table_of rss)
tells_readings remaining [] [] h = tt
tells_readings remaining [] (rs ∷ rss) h = absurd h
tells_readings remaining (r ∷ olds) [] h = absurd h
tells_readings remaining (r ∷ olds) (rs ∷ rss) h = ((h.0.0, h.0.1, reading_input h.0.0 rs h.0.2), tells_readings remaining olds rss h.1)

pub any_mixture : {R X : Type 0} (Is : X → Table → Type 0) (remaining : R → Option (List ℕ)) (olds : List R) (r : Result X InputError)
    → IfOk r (λ x. (ts : List Table) × TablesAre remaining olds ts × Is x (join_all ts))
    → (rss : List (List Record)) (rs : List Record) → AllTell remaining olds (map table_of rss) → SameRecords (all_records rss) rs → IfOk r (λ x. Is x (table_of rs))
any_mixture Is remaining olds (Ok x) ok rss rs h same =
    subst (Is x) (ap join_all (same_tables remaining olds (map table_of rss) ok.0 h ok.1) ∙ records_make_join rss ∙ set_makes_table (all_records rss) rs same) ok.2
any_mixture Is remaining olds (Err e) ok rss rs h same = tt

pub any_split : {R X : Type 0} (Is : X → Table → Type 0) (remaining : R → Option (List ℕ)) (olds : List R) (r : Result X InputError)
    → IfOk r (λ x. (ts : List Table) × TablesAre remaining olds ts × Is x (join_all ts))
    → (rss : List (List Record)) (rs : List Record) → AllReadings remaining olds rss → SameRecords (all_records rss) rs → IfOk r (λ x. Is x (table_of rs))
any_split Is remaining olds r ok rss rs h same = any_mixture Is remaining olds r ok rss rs (tells_readings remaining olds rss h) same

-- ---- which input is named

-- two places in a list: the same one, or one before the other
abbrev Places : {R : Type 0} → List R → R → List R → R → Type 0
Places {R} e1 o1 e2 o2 = ((e1 ≡ e2) × (o1 ≡ o2)) ⊎ (((m : List R) × (e2 ≡ e1 ++ o1 ∷ m)) ⊎ ((m : List R) × (e1 ≡ e2 ++ o2 ∷ m)))

one_later : {R : Type 0} (x y : R) (e1 e2 : List R) (o1 o2 : R) → x ≡ y → Places e1 o1 e2 o2 → Places (x ∷ e1) o1 (y ∷ e2) o2
one_later {R} x y e1 e2 o1 o2 same (inl p) = inl (ap (λ (z : R). z ∷ e1) same ∙ ap (λ (l : List R). y ∷ l) p.0, p.1)
one_later {R} x y e1 e2 o1 o2 same (inr (inl p)) = inr (inl (p.0, ap (λ (z : R). z ∷ e2) (sym same) ∙ ap (λ (l : List R). x ∷ l) p.1))
one_later {R} x y e1 e2 o1 o2 same (inr (inr p)) = inr (inr (p.0, ap (λ (z : R). z ∷ e1) same ∙ ap (λ (l : List R). y ∷ l) p.1))

places : {R : Type 0} (e1 e2 l1 l2 : List R) (o1 o2 : R) → e1 ++ o1 ∷ l1 ≡ e2 ++ o2 ∷ l2 → Places e1 o1 e2 o2
places [] [] l1 l2 o1 o2 e = inl (refl, ap (λ l. get_or l 0 o1) e)
places {R} [] (y ∷ e2) l1 l2 o1 o2 e = inr (inl (e2, ap (λ (z : R). z ∷ e2) (sym (ap (λ (l : List R). get_or l 0 o1) e))))
places {R} (x ∷ e1) [] l1 l2 o1 o2 e = inr (inr (e1, ap (λ (z : R). z ∷ e1) (ap (λ (l : List R). get_or l 0 x) e)))
places {R} (x ∷ e1) (y ∷ e2) l1 l2 o1 o2 e = one_later x y e1 e2 o1 o2 (ap (λ (l : List R). get_or l 0 x) e) (places e1 e2 l1 l2 o1 o2 (ap (λ (l : List R). drop 1 l) e))

abbrev IsNamed : InputError → ℕ → ReadingFault → ℕ → Type 0
IsNamed e input fault number = (e.input ≡ input) × (e.error.fault ≡ fault) × (e.error.number ≡ number)

named_at : {R : Type 0} (remaining : R → Option (List ℕ)) (faults : R → ℕ) (olds news : List R) (e : InputError) (input : ℕ) (fault : ReadingFault) (number : ℕ)
    → (h : InputFails remaining faults olds news e) → (k : IsFirstFaulty remaining olds input fault number) → IsOfFile e.error.fault → Places h.earlier h.old k.earlier k.old → IsNamed e input fault number
named_at {R} remaining faults olds news e input fault number h k of_file (inl p) =
    let told : remaining h.old ≡ Some k.bytes = ap remaining p.1 ∙ k.told in
    let bad = known (remaining h.old) (λ bytes. IsOfFile e.error.fault → inputs.IsFaulty bytes e.error.fault e.error.number) k.bytes told h.fault of_file in
    let one = inputs_laws.one_fault k.bytes e.error.fault fault e.error.number number bad k.faulty in
    (h.which ∙ ap (λ (l : List R). length l + 1) p.0 ∙ sym k.which, one.0, one.1)
named_at {R} remaining faults olds news e input fault number h k of_file (inr (inl p)) =
    let at = tells_at remaining h.earlier p.0 h.old k.tables (subst (λ (l : List R). AllTell remaining l k.tables) p.1 k.tell) in
    absurd (tells_or_fails remaining faults olds news e h at.0 at.1 of_file)
named_at {R} remaining faults olds news e input fault number h k of_file (inr (inr p)) =
    absurd (table_or_fault remaining k.earlier p.0 k.old h.tables k.bytes fault number (subst (λ (l : List R). TablesAre remaining l h.tables) p.1 h.have_tables) k.told k.faulty)

pub first_named : {R X : Type 0} (Is : X → Table → Type 0) (remaining : R → Option (List ℕ)) (faults : R → ℕ) (olds news : List R) (r : Result X InputError)
    → IfOk r (λ x. (ts : List Table) × TablesAre remaining olds ts × Is x (join_all ts)) → IfErr r (λ e. InputFails remaining faults olds news e)
    → (input : ℕ) (fault : ReadingFault) (number : ℕ) → IsFirstFaulty remaining olds input fault number
    → MatchResult r (λ _. ⊥) (λ e. IsOfFile e.error.fault → (e.input ≡ input) × (e.error.fault ≡ fault) × (e.error.number ≡ number))
first_named {R} {X} Is remaining faults olds news (Ok x) ok err input fault number k =
    table_or_fault remaining k.earlier k.later k.old ok.0 k.bytes fault number (subst (λ (l : List R). TablesAre remaining l ok.0) k.were ok.1) k.told k.faulty
first_named Is remaining faults olds news (Err e) ok err input fault number k = λ of_file.
    named_at remaining faults olds news e input fault number err k of_file (places err.earlier k.earlier err.later k.later err.old k.old (sym err.were ∙ k.were))
