-- What was read so far stands at the front.
use Rattle.std.proofs.Common.{◌≡◌, ◌≤◌, ◌-◌, length, take, drop, IfSome}
use Rattle.udfs_index.proofs.stored.fill.Given as goal

abbrev pub invariant-loop-filled : goal.invariant-loop-filled
invariant-loop-filled g l =
    record {
      within : l.filled ≤ length l.buf;
      value : IfSome (g.S.Stored.content l.fn.stored) (λ all. take l.filled l.buf ≡ take l.filled (drop l.at all));
    }

abbrev pub decreases-loop-filled : goal.decreases-loop-filled
decreases-loop-filled g l = length l.buf - l.filled
