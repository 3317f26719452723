use Rattle.std.proofs.Common.{◌≡◌, ◌++◌, ◌≤◌, [], length, take}
use Rattle.udfs_osta.specs.Escapes.{escaped}
use Rattle.udfs_salvage.proofs.Putting.{PutsUpTo}
use Rattle.udfs_salvage.proofs.word_printing.put_escaped.Given as goal

-- what is put so far, and the piece that comes next
abbrev pub invariant-loop-count : goal.invariant-loop-count
invariant-loop-count g l =
    let W = g.W.Sink in
    record {
      put : PutsUpTo (W.stream l.fn.sink) (W.stream l.sink) l.fn.out l.out (escaped l.name) (take l.count l.piece ++ l.left);
      room : l.count ≤ 64;
      end : l.count ≡ 0 → take l.count l.piece ++ l.left ≡ [];
    }

abbrev pub decreases-loop-count : goal.decreases-loop-count
decreases-loop-count g l = length (take l.count l.piece ++ l.left)
