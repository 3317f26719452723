-- The folders that are open between nodes.
--     open_after nodes k       how many folders have begun, and have not ended, after the first k nodes
--     IsStepwise nodes         no node is more than one folder further in than the one before it
use Rattle.std.specs.Prelude.{⊤, ℕ, ◌+◌, ◌-◌, ◌≤◌, nat_lt, List, [], ◌∷◌, fold, length, take, if◌then◌else◌}
use Rattle.udfs_walk.specs.NodeFields.{NodeFields}
use Rattle.udfs_page.specs.Trees.{first_depth, with_rest}

-- how many folders are open after a node, where `before` are open before it: it begins one, or folders end after it
abbrev pub open_behind : ℕ → NodeFields × List NodeFields → ℕ
open_behind before p = if nat_lt (length p.0.path) (first_depth p.1) then before + 1 else before - (length p.0.path - first_depth p.1)

-- how many are open after the first k nodes
abbrev pub open_after : List NodeFields → ℕ → ℕ
open_after nodes k = fold open_behind 0 (take k (with_rest nodes))

-- no node is more than one folder further in than the one before it
abbrev pub IsStepwise : List NodeFields → Type 0
IsStepwise [] = ⊤
IsStepwise (n ∷ ns) = (first_depth ns ≤ length n.path + 1) × IsStepwise ns
