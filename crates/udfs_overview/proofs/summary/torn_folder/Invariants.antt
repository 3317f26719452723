use Rattle.std.proofs.Common.{◌≡◌, length}
use Rattle.udfs_overview.specs.Summaries.{torn_folder}
use Rattle.udfs_overview.proofs.summary.torn_folder.Given as goal

-- those before are no torn directories
abbrev pub invariant-loop-first : goal.invariant-loop-first
invariant-loop-first l = torn_folder l.rest ≡ torn_folder l.nodes

abbrev pub decreases-loop-first : goal.decreases-loop-first
decreases-loop-first l = length l.rest
