-- What a job's file leaves where only some bytes can be in it.
use Rattle.std.proofs.Common.{◌≡◌, ◌≢◌, IfOk, OnErr, Result, Ok, Err, ◌⊎◌, ℕ, List, Option, Some, inl, inr, refl, ap, subst, ◌∙◌, ⊎_elim, le_refl}
use Rattle.udfs_host_fs.specs.Disk.{Disk, After, Goes, IsOwn, Replaced}
use Rattle.udfs_host_fs.specs.Jobs.{HoldsSome, LeavesSome, ReplacedBySome}
use Rattle.udfs_common.specs.Jobs.{AreOnly}
use Rattle.udfs_common.specs.Keeping.{IsKept}

whole_only : (bytes : List ℕ) (Is : List ℕ → Type 0) (left before : Option (List ℕ)) → AreOnly Is bytes → (left ≡ before) ⊎ LeavesSome Is left → (left ≡ before) ⊎ (left ≡ Some bytes)
whole_only bytes Is left before only (inl same) = inl same
whole_only bytes Is left before only (inr some) = inr (some.2 ∙ ap Some (only some.0 some.1))

pub replaced_only : (path bytes : List ℕ) (Is : List ℕ → Type 0) (d c : Disk) → AreOnly Is bytes → ReplacedBySome path Is d c → Replaced path bytes d c
replaced_only path bytes Is d c only by = record { whole = whole_only bytes Is (c path) (d path) only by.whole; others = by.others }

-- a crash at any moment of the call
pub put_each : {F : Type 0} (moment : F → ℕ) (may_leave : F → Disk → Type 0) (left_since : F → ℕ → Disk → Type 0) (path bytes : List ℕ) (Is : List ℕ → Type 0) → ((f : F) (c : Disk) → left_since f (moment f) c → may_leave f c) → (old new : F) →
    AreOnly Is bytes → Goes moment may_leave left_since old new (ReplacedBySome path Is) → (c : Disk) → left_since new (moment old) c → After (may_leave old) (Replaced path bytes) c
put_each moment may_leave left_since path bytes Is only_now old new only goes c since =
    ⊎_elim
    (λ before. (c, only_now old c before, record { whole = inl refl; others = λ q own other. refl }))
    (λ after. (after.0, after.1, replaced_only path bytes Is after.0 c only after.2))
    (goes.since (moment old) c (le_refl (moment old)) since)

-- and once it is done
pub kept_only : (holds : List ℕ → Option (Option (List ℕ))) (may_leave : Disk → Type 0) (path bytes : List ℕ) (Is : List ℕ → Type 0) → AreOnly Is bytes → HoldsSome Is (holds path) → ((c : Disk) → may_leave c → LeavesSome Is (c path)) → IsKept holds may_leave path bytes
kept_only holds may_leave path bytes Is only held durable =
    record {
      held = held.2 ∙ ap (λ (b : List ℕ). Some (Some b)) (only held.0 held.1);
      durable = λ c left. let some = durable c left in some.2 ∙ ap Some (only some.0 some.1);
    }

pub held_only : (held : Option (Option (List ℕ))) (bytes : List ℕ) (Is : List ℕ → Type 0) → AreOnly Is bytes → HoldsSome Is held → held ≡ Some (Some bytes)
held_only held bytes Is only some = some.2 ∙ ap (λ (b : List ℕ). Some (Some b)) (only some.0 some.1)

-- what is said of all other paths than one is said of all others than where that leads
pub else_at : {path real : List ℕ} (Same : List ℕ → Type 0) → path ≡ real → ((q : List ℕ) → q ≢ path → (¬ IsOwn path q) → Same q) → (q : List ℕ) → q ≢ real → (¬ IsOwn real q) → Same q
else_at {path} {real} Same leads others q apart other = others q (λ e. apart (e ∙ leads)) (λ own. other (subst (λ (p : List ℕ). IsOwn p q) leads own))

-- what follows from a fault inside
pub inside_as : {U X E A B : Type 0} (result : Result (Result U X) E) → (A → B) → IfOk result (λ done. OnErr done A) → IfOk result (λ done. OnErr done B)
inside_as (Ok (Ok u)) f h = tt
inside_as (Ok (Err x)) f h = f h
inside_as (Err e) f h = tt

-- and from one outside
pub outside_as : {X E A B : Type 0} (result : Result X E) → (A → B) → OnErr result A → OnErr result B
outside_as (Ok x) f h = tt
outside_as (Err e) f h = f h
