use Rattle.std.proofs.Common.{◌≡◌, ◌≤◌, ◌+◌, length, vec_capacity, vec_len}
use Rattle.std.specs.Vec.Iter.{into_iter_items}
use Rattle.udfs_walk.proofs.children.shared_entries.Given as goal

-- those so far, and there is room for those that are left
abbrev pub invariant-loop-entry : goal.invariant-loop-entry
invariant-loop-entry l = (l.children.items ≡ l.yielded) × (vec_len l.children + length (into_iter_items l.entry-iterator) ≤ vec_capacity l.children)
