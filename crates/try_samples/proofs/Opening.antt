-- A new file was not synced yet.
use Rattle.std.proofs.Common.{◌≡◌, arith, inl, refl, subst, sym}
use Rattle.std.specs.Prelude.{ℕ, ◌∷◌, List, Option, Some, None, length}
use Rattle.udfs_calls.proofs.SomeCrash.{later_unknown}
use Rattle.udfs_calls.specs.Lawful.{IsLawfulLog}
use Rattle.udfs_calls.specs.Log.{IsOpen, Log, after, number_now}
use Rattle.udfs_calls.specs.Log.Call.{created}

pub open_now : (old new : Option Log) (path : List ℕ) (number : Option ℕ) → IsLawfulLog old → new ≡ after (created path) old → number ≡ number_now old → IsOpen new number
open_now None new path number lawful e n = subst (λ l. IsOpen l number) (sym e) tt
open_now (Some log) new path number lawful e n = subst (λ l. IsOpen l number) (sym e) (subst (IsOpen (Some (record { start = log.start; calls = created path ∷ log.calls }))) (sym n)
    (inl refl, later_unknown log.start log.calls (length log.calls) lawful (omega arith)))
