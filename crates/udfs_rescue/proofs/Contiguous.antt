-- The runs of a mapfile stand one behind the other.
use Rattle.std.proofs.Common.{◌≡◌, ℕ, ◌+◌, ◌^◌, ◌<◌, true, List, [], ◌∷◌, ◌++◌, Option, None, Some, refl, sym, ap, subst, ◌∙◌, arith}
use Rattle.std.proofs.lemmas.Bool.Decides.{nat_tests}
use Rattle.udfs_rescue.specs.declared.run.Run.{Run}
use Rattle.udfs_rescue.specs.Runs.{RunsFrom, AreRuns, RunsTo, DueAfter, end_of_runs}
use Rattle.udfs_rescue.specs.Lines.{is_due}

runs_more : (p e : ℕ) (rs : List Run) (r : Run) → RunsTo p rs e → r.at ≡ e → e + r.size < 2 ^ 63 → RunsTo p (rs ++ r ∷ []) (r.at + r.size)
runs_more p e [] r h is fits = (is ∙ sym h, omega arith, omega arith)
runs_more p e (x ∷ xs) r h is fits = (h.0, h.1, runs_more (p + x.size) e xs r h.2 is fits)

runs_from : (p e : ℕ) (rs : List Run) → RunsTo p rs e → RunsFrom p rs
runs_from p e [] h = tt
runs_from p e (r ∷ rs) h = (h.0, h.1, runs_from (p + r.size) e rs h.2)

are_runs : (p e : ℕ) (rs : List Run) → p < 2 ^ 63 → RunsTo p rs e → AreRuns rs
are_runs p e [] fits h = tt
are_runs p e (r ∷ rs) fits h = (omega (arith, h.0), subst (λ n. RunsFrom n (r ∷ rs)) (sym h.0) (runs_from p e (r ∷ rs) h))

end_last : (rs : List Run) (r : Run) → end_of_runs (rs ++ r ∷ []) ≡ Some (r.at + r.size)
end_last [] r = refl
end_last (x ∷ []) r = refl
end_last (x ∷ y ∷ xs) r = end_last (y ∷ xs) r

pub due_more : (due : Option ℕ) (rs : List Run) (r : Run) → DueAfter due rs → is_due due r.at ≡ true → r.at + r.size < 2 ^ 63 → DueAfter (Some (r.at + r.size)) (rs ++ r ∷ [])
due_more None rs r h is fits = (end_last rs r, subst (λ l. (p : ℕ) × (p < 2 ^ 63) × RunsTo p (l ++ r ∷ []) (r.at + r.size)) (sym h) (r.at, omega arith, (refl, fits, refl)))
due_more (Some e) rs r h is fits =
    let same : e ≡ r.at = grind (arith, nat_tests) in
    (end_last rs r, (h.1.0, h.1.1, runs_more h.1.0 e rs r h.1.2 (sym same) (omega arith)))

pub due_runs : (due : Option ℕ) (rs : List Run) → DueAfter due rs → AreRuns rs
due_runs None rs h = subst AreRuns (sym h) tt
due_runs (Some e) rs h = are_runs h.1.0 e rs h.1.1 h.1.2

pub due_end : (due : Option ℕ) (rs : List Run) → DueAfter due rs → due ≡ end_of_runs rs
due_end None rs h = ap end_of_runs (sym h)
due_end (Some e) rs h = sym h.0
