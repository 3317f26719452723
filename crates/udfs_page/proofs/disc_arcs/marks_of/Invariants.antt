use Rattle.std.proofs.Common.{◌≡◌, ◌-◌, ◌≤◌, get_or, length, map}
use Rattle.std.specs.List.{range_with_len}
use Rattle.udfs_page.specs.Arcs.{arc_length, mark_of}
use Rattle.udfs_page.proofs.disc_arcs.marks_of.Given as goal

-- the arcs so far
abbrev pub invariant-loop-index : goal.invariant-loop-index
invariant-loop-index l = record {
  count : l.count ≡ length l.known;
  within : l.index ≤ l.count;
  marks : l.marks.items ≡ map (λ i. mark_of (get_or l.known i 0) (get_or l.conflicts i 0) (get_or l.needed i 0) (arc_length (length l.known) l.blocks i)) (range_with_len 0 l.index);
}

abbrev pub decreases-loop-index : goal.decreases-loop-index
decreases-loop-index l = l.count - l.index
