-- As many folders are open before a node as its path has names.
use Rattle.std.proofs.Common.{◌≡◌, ◌∙◌, refl, ap, subst, arith, ℕ, ◌+◌, ◌-◌, ◌≤◌, List, [], ◌∷◌, length, take, drop}
use Rattle.std.specs.Prelude.{zero, suc, fold, nat_lt, if◌then◌else◌}
use Rattle.udfs_walk.specs.NodeFields.{NodeFields}
use Rattle.udfs_page.specs.Trees.{first_depth, with_rest}
use Rattle.udfs_page.specs.Nestings.{IsStepwise, open_after, open_behind}

-- behind a node as many folders are open as the next one needs
step : (d next : ℕ) → next ≤ d + 1 → (if nat_lt d next then d + 1 else d - (d - next)) ≡ next
step d next h = grind (arith, h)

pub nested_from : (ns : List NodeFields) (k : ℕ) → IsStepwise ns → fold open_behind (first_depth ns) (take k (with_rest ns)) ≡ first_depth (drop k ns)
nested_from [] zero h = refl
nested_from [] (suc k) h = refl
nested_from (n ∷ ns) zero h = refl
nested_from (n ∷ ns) (suc k) h =
    ap (λ before. fold open_behind before (take k (with_rest ns))) (step (length n.path) (first_depth ns) h.0) ∙ nested_from ns k h.1

pub nested : (ns : List NodeFields) (k : ℕ) → IsStepwise ns → first_depth ns ≡ 0 → open_after ns k ≡ first_depth (drop k ns)
nested ns k h e = subst (λ d. fold open_behind d (take k (with_rest ns)) ≡ first_depth (drop k ns)) e (nested_from ns k h)
