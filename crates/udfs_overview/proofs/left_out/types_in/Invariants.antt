use Rattle.std.proofs.Common.{◌≡◌, take}
use Rattle.std.specs.Prelude.{filter_map}
use Rattle.udfs_overview.specs.LeftOut.{left_out_type}
use Rattle.udfs_overview.proofs.left_out.types_in.Given as goal

-- those so far
abbrev pub invariant-loop-node : goal.invariant-loop-node
invariant-loop-node l = l.types.items ≡ filter_map left_out_type (take l.node-index l.nodes)
