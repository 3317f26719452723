use Rattle.std.proofs.Common.{◌≡◌, map, take}
use Rattle.std.specs.Prelude.{filter_map}
use Rattle.udfs_overview.specs.Tallies.{torn_file}
use Rattle.udfs_overview.specs.TornFiles.{torn_now}
use Rattle.udfs_overview.proofs.tallies.torn_files.Given as goal

-- those so far
abbrev pub invariant-loop-node : goal.invariant-loop-node
invariant-loop-node g l = g.B.BlockStore.tells → map torn_now l.files.items ≡ filter_map (torn_file (g.B.BlockStore.states l.blocks)) (take l.node-index l.nodes)
