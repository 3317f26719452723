-- Runs that are contiguous, and where the last one ends.
use Rattle.std.specs.Prelude.{◌≡◌, ℕ, ◌+◌, ◌<◌, ◌^◌, List, [], ◌∷◌, Option, None, Some}
use Rattle.udfs_rescue.specs.declared.run.Run.{Run}

-- each run begins where the one before ended, and the first at this position; all end below 2 ^ 63
abbrev pub RunsFrom : ℕ → List Run → Type 0
RunsFrom p [] = Unit {0}
RunsFrom p (r ∷ rs) = (r.at ≡ p) × (p + r.size < 2 ^ 63) × RunsFrom (p + r.size) rs

-- the first begins anywhere
abbrev pub AreRuns : List Run → Type 0
AreRuns [] = Unit {0}
AreRuns (r ∷ rs) = (r.at < 2 ^ 63) × RunsFrom r.at (r ∷ rs)

-- where the last run ends; there is no end without a run
abbrev pub end_of_runs : List Run → Option ℕ
end_of_runs [] = None
end_of_runs (r ∷ []) = Some (r.at + r.size)
end_of_runs (r ∷ s ∷ rs) = end_of_runs (s ∷ rs)

-- the runs are contiguous from one position to another (internal)
abbrev pub RunsTo : ℕ → List Run → ℕ → Type 0
RunsTo p [] e = p ≡ e
RunsTo p (r ∷ rs) e = (r.at ≡ p) × (p + r.size < 2 ^ 63) × RunsTo (p + r.size) rs e

-- where the next run is due, the runs so far end (internal)
abbrev pub DueAfter : Option ℕ → List Run → Type 0
DueAfter None rs = rs ≡ []
DueAfter (Some e) rs = (end_of_runs rs ≡ Some e) × ((p : ℕ) × (p < 2 ^ 63) × RunsTo p rs e)
