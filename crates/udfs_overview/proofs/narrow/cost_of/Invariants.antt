use Rattle.std.proofs.Common.{◌≡◌, ◌≤◌, ◌*◌, take}
use Rattle.udfs_overview.specs.Narrow.{cost_of}
use Rattle.udfs_overview.proofs.narrow.cost_of.Given as goal

-- those so far, two for each at most
abbrev pub invariant-loop-character : goal.invariant-loop-character
invariant-loop-character l = record {
  columns : l.columns ≡ cost_of (take l.character-index l.characters);
  fits : l.columns ≤ 2 * l.character-index;
}
