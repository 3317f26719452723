use Rattle.std.proofs.Common.{◌≡◌, ◌++◌, drop, map}
use Rattle.std.specs.Prelude.{filter}
use Rattle.udfs_lost.specs.FoundNames.{torn_folders}
use Rattle.udfs_lost.proofs.FoundLemmas.{is_new}
use Rattle.udfs_lost.proofs.names_behind.torn_folders.Given as goal

-- those so far, and those of the rest that were not met, are all
abbrev pub invariant-loop-node : goal.invariant-loop-node
invariant-loop-node l = map (λ folder. folder.now) l.folders.items ++ filter (is_new l.met) (torn_folders (drop l.node-index l.nodes)) ≡ torn_folders l.nodes
