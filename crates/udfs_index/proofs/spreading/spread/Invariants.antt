-- The last blocks are spread, and the others stand where they stood.
use Rattle.std.proofs.Common.{◌*◌, ◌≤◌, drop}
use Rattle.udfs_index.proofs.SpreadLemmas.{Spread}
use Rattle.udfs_index.proofs.spreading.spread.Given as goal

abbrev pub invariant-loop-left : goal.invariant-loop-left
invariant-loop-left l =
    record {
      few : l.left ≤ l.many;
      spread : Spread l.fn.buf l.first l.many l.left (drop (2052 * l.many) l.fn.buf) l.buf;
    }

abbrev pub decreases-loop-left : goal.decreases-loop-left
decreases-loop-left l = l.left
