use Rattle.std.proofs.Common.{◌≡◌, ◌<◌, ℕ, Some, slice_get}
use Rattle.udfs_walk.specs.NodeFields.{NodeFields}
use Rattle.udfs_lawfulness.proofs.names.is_twice.Given as goal

-- none of the nodes so far has the path
abbrev pub invariant-loop-first : goal.invariant-loop-first
invariant-loop-first l = (i : ℕ) (m n : NodeFields) → i < l.first → slice_get l.nodes i ≡ Some m → slice_get l.nodes l.at ≡ Some n → m.path ≡ n.path → ⊥
