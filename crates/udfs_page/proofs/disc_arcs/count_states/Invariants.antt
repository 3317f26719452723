use Rattle.std.proofs.Common.{◌≡◌, ◌-◌, ◌==◌, ◌&&◌, length}
use Rattle.std.specs.List.{range_with_len}
use Rattle.udfs_page.specs.Arcs.{arc_of, is_counted}
use Rattle.udfs_page.proofs.Counts.{AreCounted}
use Rattle.udfs_page.proofs.disc_arcs.count_states.Given as goal

-- the blocks so far
abbrev pub invariant-loop-number : goal.invariant-loop-number
invariant-loop-number g l =
    let states = g.B.BlockStore.states l.store in record {
      size : length l.counts ≡ length l.fn.counts;
      counted : g.B.BlockStore.tells → AreCounted (λ i n. is_counted l.conflicts (states n) && arc_of (length l.fn.counts) l.blocks n == i)
          (range_with_len 0 l.blocks) (range_with_len l.number (l.blocks - l.number)) l.counts;
    }
