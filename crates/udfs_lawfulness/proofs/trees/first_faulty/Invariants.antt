use Rattle.std.proofs.Common.{◌≡◌, ◌<◌, ℕ, false, Some, slice_get}
use Rattle.udfs_walk.specs.NodeFields.{NodeFields}
use Rattle.udfs_lawfulness.specs.Spelling.{is_faulty}
use Rattle.udfs_lawfulness.proofs.trees.first_faulty.Given as goal

-- none of the nodes so far is a loop or has a fault
abbrev pub invariant-loop-at : goal.invariant-loop-at
invariant-loop-at l = (i : ℕ) (n : NodeFields) → i < l.at → slice_get l.nodes i ≡ Some n → is_faulty n.standing ≡ false
