use Rattle.std.proofs.Common.{◌≡◌, ◌<◌, ℕ, slice_get}
use Rattle.udfs_lawfulness.proofs.folders.begins_with.Given as goal

-- the names so far are the same
abbrev pub invariant-loop-index : goal.invariant-loop-index
invariant-loop-index l = (i : ℕ) → i < l.index → slice_get l.path i ≡ slice_get l.front i
