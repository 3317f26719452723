use Rattle.std.proofs.Common.{◌≡◌, length}
use Rattle.udfs_overview.specs.Narrow.{back_in, cost_of}
use Rattle.udfs_overview.proofs.narrow.back_in.Given as goal

-- what is left has the same end, and takes so many columns
abbrev pub invariant-loop-first : goal.invariant-loop-first
invariant-loop-first l = record {
  end : back_in l.columns l.rest ≡ back_in l.columns l.characters;
  cost : l.left ≡ cost_of l.rest;
}

abbrev pub decreases-loop-first : goal.decreases-loop-first
decreases-loop-first l = length l.rest
