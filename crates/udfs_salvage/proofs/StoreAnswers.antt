-- Why a store of blocks has no report, and what that says of a table.
--     AnswersBy P M N r      the errors of a result are those of what is known
use Rattle.std.proofs.Common.{◌≡◌, refl, ap, subst, sym, arith, ℕ, Result, Ok, Err}
use Rattle.std.specs.Prelude.{◌↔◌, IfErr, IsErrOf}
use Rattle.udfs_volume.specs.declared.profiles.Profile.{Profile}
use Rattle.udfs_lattice.specs.Tables.{Table, state_of}
use Rattle.udfs_lattice.specs.Volumes.{Blocks}
use Rattle.udfs_salvage.specs.Reports.{Report, HasTooManyPathsBy, IsLookRefused, IsNothingPast, IsOutOfRange, IsPastEnd, IsReportBy, IsUnfit, MayWantMemoryBy}
use Rattle.udfs_salvage.specs.Stores.{IfTold, IsRefused, IsStoreRefused}
use Rattle.udfs_salvage.specs.TreeReports.{IsOfNoLawfulBy}
use Rattle.udfs_salvage.specs.declared.errors.SalvageError.{SalvageError}
use Rattle.udfs_salvage.specs.declared.errors.SalvageError.TheVariants as errors
use Rattle.udfs_salvage.specs.declared.errors.StoreError.{StoreError}
use Rattle.udfs_salvage.specs.declared.errors.StoreError.TheVariants.{Salvage, Unread}
use Rattle.udfs_salvage.proofs.TreeReports.{out_of_range, past_end, too_many}

-- each error comes where it is due
pub record AnswersBy {X : Type 0} (P : Profile) (M : Blocks) (N : ℕ) (r : Result X SalvageError) : Type 0 where
  pub range : IsErrOf r errors.LastRange ↔ IsOutOfRange N
  pub past : (n : ℕ) → (IsErrOf r (errors.PastEnd n) ↔ ((¬ IsOutOfRange N) × IsPastEnd M N n))
  pub too_many : IsErrOf r errors.TooManyPaths → (¬ IsOutOfRange N) × IsNothingPast M N × HasTooManyPathsBy P M N
  pub memory : IsErrOf r errors.OutOfMemory → (¬ IsOutOfRange N) × IsNothingPast M N × MayWantMemoryBy P M N
  pub of_no_lawful : IfErr r (IsOfNoLawfulBy P M N)

-- where there is a report, none was due
pub of_report : {X : Type 0} (P : Profile) (M : Blocks) (N : ℕ) (report : Report) (x : X) → IsReportBy P M N report → AnswersBy P M N (Ok x)
of_report P M N report x h = record {
  range = ((λ e. absurd (let z : ⊥ = cc in z)), λ out. absurd (h.in_range out));
  past = λ n. ((λ e. absurd (let z : ⊥ = cc in z)), λ p. absurd (p.1.not_unknown (h.nothing_past n p.1.past)));
  too_many = λ e. absurd (let z : ⊥ = cc in z);
  memory = λ e. absurd (let z : ⊥ = cc in z);
  of_no_lawful = tt;
}

-- the least block past the end is one block
one_past : (M : Blocks) (N m n : ℕ) → IsPastEnd M N m → IsPastEnd M N n → m ≡ n
one_past M N m n p q = let up = p.least n q.past q.not_unknown in let down = q.least m p.past p.not_unknown in omega (arith, up, down)

-- where there is none, the error is the reason
pub of_refusal : {X : Type 0} (P : Profile) (M : Blocks) (N : ℕ) (e : SalvageError) → IsRefused P M N e → AnswersBy {X = X} P M N (Err e)
of_refusal P M N errors.LastRange h = record {
  range = ((λ e. h), λ out. refl);
  past = λ n. ((λ e. absurd (let z : ⊥ = cc in z)), λ p. absurd (p.0 h));
  too_many = λ e. absurd (let z : ⊥ = cc in z);
  memory = λ e. absurd (let z : ⊥ = cc in z);
  of_no_lawful = out_of_range P M N h;
}
of_refusal P M N (errors.PastEnd m) h = record {
  range = ((λ e. absurd (let z : ⊥ = cc in z)), λ out. absurd (h.0 out));
  past = λ n. ((λ e. (h.0, subst (IsPastEnd M N) (let z : m ≡ n = cc in z) h.1)), λ p. ap (λ k. Err (errors.PastEnd k)) (one_past M N m n h.1 p.1));
  too_many = λ e. absurd (let z : ⊥ = cc in z);
  memory = λ e. absurd (let z : ⊥ = cc in z);
  of_no_lawful = past_end P M N m h.1;
}
of_refusal P M N errors.TooManyPaths h = record {
  range = ((λ e. absurd (let z : ⊥ = cc in z)), λ out. absurd (h.0 out));
  past = λ n. ((λ e. absurd (let z : ⊥ = cc in z)), λ p. absurd (p.1.not_unknown (h.1 n p.1.past)));
  too_many = λ e. h;
  memory = λ e. absurd (let z : ⊥ = cc in z);
  of_no_lawful = too_many P M N h.2;
}
of_refusal P M N errors.OutOfMemory h = record {
  range = ((λ e. absurd (let z : ⊥ = cc in z)), λ out. absurd (h.0 out));
  past = λ n. ((λ e. absurd (let z : ⊥ = cc in z)), λ p. absurd (p.1.not_unknown (h.1 n p.1.past)));
  too_many = λ e. absurd (let z : ⊥ = cc in z);
  memory = λ e. h;
  of_no_lawful = tt;
}

-- the last block was judged
pub unfit_store : (P : Profile) (M : Blocks) (N : ℕ) (e : SalvageError) → IsUnfit M N e → IsRefused P M N e
unfit_store P M N errors.LastRange h = h
unfit_store P M N (errors.PastEnd n) h = h
unfit_store P M N errors.TooManyPaths h = absurd h
unfit_store P M N errors.OutOfMemory h = absurd h

-- and the volume was looked at
pub look_store : (P : Profile) (M : Blocks) (N : ℕ) → ¬ IsOutOfRange N → IsNothingPast M N → (e : StoreError) → IfTold (IsLookRefused P M N) e → IsStoreRefused P M N e
look_store P M N fits none (Salvage errors.LastRange) h = absurd h
look_store P M N fits none (Salvage (errors.PastEnd n)) h = absurd h
look_store P M N fits none (Salvage errors.TooManyPaths) h = (fits, none, h)
look_store P M N fits none (Salvage errors.OutOfMemory) h = (fits, none, h)
look_store P M N fits none Unread h = (fits, none)

-- the same error of another result
pub err_same : {X Y E : Type 0} (e x : E) → IsErrOf {T = X} {E = E} (Err e) x → IsErrOf {T = Y} {E = E} (Err e) x
err_same e x h = ap Err (let z : e ≡ x = cc in z)

-- where a store says of each block what a table does, its states are the table's
pub states_same : (M : Blocks) (t : Table) → ((n : ℕ) → state_of t n ≡ M n) → M ≡ state_of t
states_same M t held = λ i n. sym (held n) i
