-- What a run says where nothing was printed.
use Rattle.std.proofs.Common.{◌≡◌, ◌⊎◌, inl, ◌≢◌, refl, sym, ap, subst, ◌∙◌, arith, ℕ, ◌≤◌, Bool, true, false, eqb, eqb-true, eq-eqb, List, ◌∷◌, ◌++◌, map, Option}
use Rattle.std.proofs.lemmas.List.{map-append}
use Rattle.std.specs.Prelude.{Result, Ok, Err, MatchResult}
use Rattle.std.proofs.KnownBytes.{Appends-nil}
use Rattle.udfs_volume.specs.declared.profiles.Profile.{Profile}
use Rattle.udfs_lattice.specs.Tables.{Table, state_of}
use Rattle.udfs_lattice.specs.Volumes.{Blocks}
use Rattle.udfs_reading.specs.Answers.{IsOfFile}
use Rattle.udfs_reading.specs.Several.{InputFails}
use Rattle.udfs_reading.specs.declared.inputs.InputError.{InputError}
use Rattle.udfs_reading.specs.declared.error.ReadingFault.{ReadingFault}
use Rattle.udfs_reading.specs.declared.error.ReadingFault.TheVariants as reading
use Rattle.udfs_space.specs.Places.{view}
use Rattle.udfs_walk.proofs.PublicLaws.{no_more_routes}
use Rattle.udfs_salvage.specs.Reports.{Report, ReportsBy, ReportsNodes, IsReportBy, IsNothingPast, IsOutOfRange, IsPastEnd, HasTooManyPathsBy}
use Rattle.udfs_salvage.specs.TreeReports.{IsOfNoLawfulBy}
use Rattle.udfs_salvage.specs.Running.{AnswersForBy, IfNoInput, IsRefusedForBy, Names, PrintsNothing, PrintsOfBy, RefusesWith, by_fault, run_error_of, salvage_run_error}
use Rattle.udfs_salvage.specs.declared.errors.RunError.{RunError}
use Rattle.udfs_salvage.specs.declared.errors.RunError.TheVariants.{Reading, Salvage, Write, OutOfMemory}
use Rattle.udfs_salvage.specs.declared.errors.SalvageError.{SalvageError}
use Rattle.udfs_salvage.specs.declared.errors.SalvageError.TheVariants as errors
use Rattle.udfs_reading.specs.Device.{Stream}

-- nothing was printed yet
pub nothing_out : (P : Profile) (old : Stream) (last : ℕ) (table : Table) → PrintsNothing old old ⊎ PrintsOfBy P last old old (Err OutOfMemory) table
nothing_out P old last table = inl (record { given = Appends-nil old.contents; kept = refl })

abbrev IsNamed : InputError → ℕ → ReadingFault → ℕ → Type 0
IsNamed e input fault number = IsOfFile e.error.fault → (e.input ≡ input) × (e.error.fault ≡ fault) × (e.error.number ≡ number)

by_named : (e : InputError) (f : ReadingFault) (input : ℕ) (fault : ReadingFault) (number : ℕ) → IsNamed e input fault number → Names input fault number (by_fault e f)
by_named e reading.Magic input fault number h = h
by_named e reading.BlockSize input fault number h = h
by_named e reading.BlockNumber input fault number h = h
by_named e reading.Truncated input fault number h = h
by_named e reading.Trailing input fault number h = h
by_named e reading.Order input fault number h = h
by_named e reading.State input fault number h = h
by_named e reading.Io input fault number h = h
by_named e reading.OutOfMemory input fault number h = tt

pub named : (e : InputError) (r : RunError) (input : ℕ) (fault : ReadingFault) (number : ℕ) → r ≡ run_error_of e → IsNamed e input fault number → Names input fault number r
named e r input fault number is h = subst (Names input fault number) (sym is) (by_named e e.error.fault input fault number h)

by_memory : (e : InputError) (f : ReadingFault) → e.error.fault ≡ f → (other : InputError) → by_fault e f ≡ Reading other → other.error.fault ≢ reading.OutOfMemory
by_memory e reading.Magic is other q none = cc
by_memory e reading.BlockSize is other q none = cc
by_memory e reading.BlockNumber is other q none = cc
by_memory e reading.Truncated is other q none = cc
by_memory e reading.Trailing is other q none = cc
by_memory e reading.Order is other q none = cc
by_memory e reading.State is other q none = cc
by_memory e reading.Io is other q none = cc
by_memory e reading.OutOfMemory is other q none = cc

-- want of memory is no input's fault
pub never_memory : (e : InputError) (r : RunError) → r ≡ run_error_of e → (other : InputError) → r ≡ Reading other → other.error.fault ≢ reading.OutOfMemory
never_memory e r is other q = by_memory e e.error.fault refl other (sym is ∙ q)

-- ---- a table that has no report
one_reason : (P : Profile) (table : Table) (last : ℕ) (e why : SalvageError) → IsRefusedForBy P table last e → IsRefusedForBy P table last why → e ≡ why
one_reason P table last errors.LastRange errors.LastRange h g = refl
one_reason P table last errors.LastRange (errors.PastEnd n) h g = absurd (g.0 h)
one_reason P table last errors.LastRange errors.TooManyPaths h g = absurd (g.0 h)
one_reason P table last errors.LastRange errors.OutOfMemory h g = absurd g
one_reason P table last (errors.PastEnd n) errors.LastRange h g = absurd (h.0 g)
one_reason P table last (errors.PastEnd n) (errors.PastEnd m) h g = ap errors.PastEnd (let a : n ≤ m = h.1.least m g.1.past g.1.not_unknown in let b : m ≤ n = g.1.least n h.1.past h.1.not_unknown in omega (arith, a, b))
one_reason P table last (errors.PastEnd n) errors.TooManyPaths h g = absurd (h.1.not_unknown (g.1 n h.1.past))
one_reason P table last (errors.PastEnd n) errors.OutOfMemory h g = absurd g
one_reason P table last errors.TooManyPaths errors.LastRange h g = absurd (h.0 g)
one_reason P table last errors.TooManyPaths (errors.PastEnd n) h g = absurd (g.1.not_unknown (h.1 n g.1.past))
one_reason P table last errors.TooManyPaths errors.TooManyPaths h g = refl
one_reason P table last errors.TooManyPaths errors.OutOfMemory h g = absurd g
one_reason P table last errors.OutOfMemory why h g = absurd h

-- a volume with a report has no more nodes than there may be
not_too_many : (P : Profile) (M : Blocks) (last : ℕ) (r : Report) → IsReportBy P M last r → HasTooManyPathsBy P M last → ⊥
not_too_many P M last r is (f, e, more) = no_more_routes (view M f.space) f.root by.nodes_are.walks 65536 by.nodes_are.walk by.nodes_are.few more
  where
    by : ReportsNodes M f r
    by = subst (λ told. ReportsBy M told r) (is.volume_is ∙ e) is.by_volume

-- what is reported is not refused
not_reported : (P : Profile) (table : Table) (last : ℕ) (r : Report) (why : SalvageError) → IsReportBy P (state_of table) last r → IsRefusedForBy P table last why → ⊥
not_reported P table last r errors.LastRange is q = is.in_range q
not_reported P table last r (errors.PastEnd n) is q = q.1.not_unknown (is.nothing_past n q.1.past)
not_reported P table last r errors.TooManyPaths is q = not_too_many P (state_of table) last r is q.2
not_reported P table last r errors.OutOfMemory is q = q

-- what refuses a table is told, and no lawful volume agrees with it; or memory was wanted, and nothing is out
refused_as : (P : Profile) (table : Table) (last : ℕ) (old : Stream) {X : Type 0} (r : Result X SalvageError) (e : SalvageError) → r ≡ Err e → (r ≡ Err errors.LastRange → IsOutOfRange last)
    → ((n : ℕ) → r ≡ Err (errors.PastEnd n) → (¬ IsOutOfRange last) × IsPastEnd (state_of table) last n)
    → (r ≡ Err errors.TooManyPaths → (¬ IsOutOfRange last) × IsNothingPast (state_of table) last × HasTooManyPathsBy P (state_of table) last)
    → IsOfNoLawfulBy P (state_of table) last e → AnswersForBy P last old old (Err (salvage_run_error e)) table
refused_as P table last old r errors.LastRange is range past many none = (range is, none)
refused_as P table last old r (errors.PastEnd n) is range past many none = (past n is, none)
refused_as P table last old r errors.TooManyPaths is range past many none = (many is, none)
refused_as P table last old r errors.OutOfMemory is range past many none = nothing_out P old last table

pub refused_by : (P : Profile) (table : Table) (last : ℕ) (old : Stream) {X : Type 0} (r : Result X SalvageError) (e : SalvageError) (x : RunError) → x ≡ salvage_run_error e → r ≡ Err e
    → (r ≡ Err errors.LastRange → IsOutOfRange last) → ((n : ℕ) → r ≡ Err (errors.PastEnd n) → (¬ IsOutOfRange last) × IsPastEnd (state_of table) last n)
    → (r ≡ Err errors.TooManyPaths → (¬ IsOutOfRange last) × IsNothingPast (state_of table) last × HasTooManyPathsBy P (state_of table) last)
    → IsOfNoLawfulBy P (state_of table) last e → AnswersForBy P last old old (Err x) table
refused_by P table last old r e x same is range past many none = subst (λ z. AnswersForBy P last old old (Err z) table) (sym same) (refused_as P table last old r e is range past many none)

-- of a table that has no report, nothing but the reason is told
pub refuses : (P : Profile) (last : ℕ) (old new : Stream) (result : Result Bool RunError) (table : Table) (why : SalvageError) → AnswersForBy P last old new result table
    → IsRefusedForBy P table last why → MatchResult result (λ _. ⊥) (RefusesWith why)
refuses P last old new (Ok x) table why h q = not_reported P table last h.report why h.headline.report_is q
refuses P last old new (Err (Reading e)) table why h q = tt
refuses P last old new (Err (Salvage e)) table why h q = one_reason P table last e why h.0 q
refuses P last old new (Err Write) table why h q = not_reported P table last h.report why h.headline.report_is q
refuses P last old new (Err OutOfMemory) table why h q = tt

-- ---- counts of faults, where no input was to blame

-- the input to blame did not fail, so no count moved
pub counts_kept : {R : Type 0} (remaining : R → Option (List ℕ)) (faults : R → ℕ) (olds news : List R) (e : InputError) → InputFails remaining faults olds news e → e.error.fault ≢ reading.Io
    → map faults news ≡ map faults olds
counts_kept remaining faults olds news e h not_io = ap (map faults) h.are ∙ map-append faults h.earlier_new (h.new ∷ h.later)
    ∙ (λ i. h.counts i ++ same i ∷ map faults h.later) ∙ sym (map-append faults h.earlier (h.old ∷ h.later)) ∙ ap (map faults) (sym h.were)
  where
    by_test : (b : Bool) → eqb (faults h.new) (faults h.old) ≡ b → faults h.new ≡ faults h.old
    by_test true q = eqb-true (faults h.new) (faults h.old) q
    by_test false q = absurd (not_io (h.io.1 (λ p. let t : true ≡ false = sym (eq-eqb (faults h.new) (faults h.old) p) ∙ q in let z : ⊥ = cc in z)))

    same : faults h.new ≡ faults h.old
    same = by_test (eqb (faults h.new) (faults h.old)) refl

-- want of memory while the inputs are joined is no failing device
by_kept : {R : Type 0} (remaining : R → Option (List ℕ)) (faults : R → ℕ) (olds news : List R) (e : InputError) → InputFails remaining faults olds news e
    → (f : ReadingFault) → e.error.fault ≡ f → IfNoInput (Err (by_fault e f)) (map faults news ≡ map faults olds)
by_kept remaining faults olds news e h reading.Magic is = tt
by_kept remaining faults olds news e h reading.BlockSize is = tt
by_kept remaining faults olds news e h reading.BlockNumber is = tt
by_kept remaining faults olds news e h reading.Truncated is = tt
by_kept remaining faults olds news e h reading.Trailing is = tt
by_kept remaining faults olds news e h reading.Order is = tt
by_kept remaining faults olds news e h reading.State is = tt
by_kept remaining faults olds news e h reading.Io is = tt
by_kept remaining faults olds news e h reading.OutOfMemory is = counts_kept remaining faults olds news e h (λ io. let t : reading.OutOfMemory ≡ reading.Io = sym is ∙ io in let z : ⊥ = cc in z)

pub run_counts : {R : Type 0} (remaining : R → Option (List ℕ)) (faults : R → ℕ) (olds news : List R) (e : InputError) (r : RunError) → r ≡ run_error_of e
    → InputFails remaining faults olds news e → IfNoInput (Err r) (map faults news ≡ map faults olds)
run_counts remaining faults olds news e r is h = subst (λ z. IfNoInput (Err z) (map faults news ≡ map faults olds)) (sym is) (by_kept remaining faults olds news e h e.error.fault refl)

pub if_no_input : (r : Result Bool RunError) {A : Type 0} → A → IfNoInput r A
if_no_input (Ok x) h = h
if_no_input (Err (Reading e)) h = tt
if_no_input (Err (Salvage e)) h = h
if_no_input (Err Write) h = h
if_no_input (Err OutOfMemory) h = h
