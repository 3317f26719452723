use Rattle.std.proofs.Common.{ℕ, ◌≡◌, ◌-◌, ◌<◌, ◌≤◌, false}
use Rattle.udfs_overview.specs.Figures.{is_short_in}
use Rattle.udfs_overview.proofs.figures.unit_of.Given as goal

abbrev pub invariant-loop-unit : goal.invariant-loop-unit
invariant-loop-unit l = record {
  some : 1 ≤ l.unit;
  known : l.unit ≤ 8;
  longer : (u : ℕ) → 1 ≤ u → u < l.unit → is_short_in l.size u ≡ false;
}

abbrev pub decreases-loop-unit : goal.decreases-loop-unit
decreases-loop-unit l = 8 - l.unit
