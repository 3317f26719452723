-- The entries before those that are left were counted.
use Rattle.std.proofs.Common.{◌≡◌, ◌≤◌, ◌+◌, count_by, length}
use Rattle.udfs_lattice.specs.Tables.{state_of}
use Rattle.udfs_index.specs.Comparing.{are_known, are_other, disagreeing, shared}
use Rattle.udfs_index.proofs.comparison.compare.Given as goal

abbrev pub invariant-loop-block : goal.invariant-loop-block
invariant-loop-block l =
    record {
      few : l.of + length l.block-iterator ≤ 4194304;
      fewer : l.blocks + length l.block-iterator ≤ 4194304;
      known : l.of + count_by (λ e. are_known (state_of l.before e.0) e.1) l.block-iterator ≡ shared l.before l.own;
      other : l.blocks + count_by (λ e. are_other (state_of l.before e.0) e.1) l.block-iterator ≡ disagreeing l.before l.own;
    }
