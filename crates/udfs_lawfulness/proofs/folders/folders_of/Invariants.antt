use Rattle.std.proofs.Common.{◌≡◌, ◌<◌, ℕ, [], Some, length, slice_get}
use Rattle.std.specs.Prelude.{slice_index}
use Rattle.udfs_walk.specs.NodeFields.{NodeFields}
use Rattle.udfs_lawfulness.specs.Spelling.{IsFolder}
use Rattle.udfs_lawfulness.proofs.folders.folders_of.Given as goal

-- the folders so far
pub record AreFirst (l : goal.Live-loop-at) : Type 0 where
  pub long : length l.folders.items ≡ l.at
  pub root : (n : NodeFields) → 0 < l.at → slice_get l.nodes 0 ≡ Some n → n.path ≡ []
  pub each : (at : ℕ) → 0 < at → at < l.at → IsFolder l.nodes at (slice_index l.folders.items at)

abbrev pub invariant-loop-at : goal.invariant-loop-at
invariant-loop-at l = AreFirst l
