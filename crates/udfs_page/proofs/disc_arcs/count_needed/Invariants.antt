use Rattle.std.proofs.Common.{◌≡◌, ◌==◌, drop, length}
use Rattle.udfs_page.specs.Arcs.{arc_of}
use Rattle.udfs_page.proofs.Counts.{AreCounted}
use Rattle.udfs_page.proofs.disc_arcs.count_needed.Given as goal

-- the blocks so far
abbrev pub invariant-loop-block : goal.invariant-loop-block
invariant-loop-block l = record {
  size : length l.counts ≡ length l.fn.counts;
  counted : AreCounted (λ i n. arc_of (length l.fn.counts) l.blocks n == i) l.reread (drop l.block-index l.reread) l.counts;
}
