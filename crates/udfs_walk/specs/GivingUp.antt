-- Why a walk over a store of blocks gave up.
--     IfTold P error          this holds of the error, where it is one of a table's walk too
--     nodes_gave_up why       the same reason, of nodes
use Rattle.std.specs.Prelude.{⊤}
use Rattle.udfs_lattice.specs.declared.blocks.GaveUp.{GaveUp}
use Rattle.udfs_lattice.specs.declared.blocks.GaveUp.TheVariants as gave_up
use Rattle.udfs_walk.specs.declared.answers.NodesError.{NodesError}
use Rattle.udfs_walk.specs.declared.answers.NodesError.TheVariants as error
use Rattle.udfs_walk.specs.declared.answers.NodesGaveUp.{NodesGaveUp}
use Rattle.udfs_walk.specs.declared.answers.NodesGaveUp.TheVariants.{TooManyPaths, OutOfMemory, Unread}

-- what holds of an error of a walk over a table; of a failed read nothing is said
abbrev pub IfTold : (NodesError → Type 0) → NodesGaveUp → Type 0
IfTold P TooManyPaths = P error.TooManyPaths
IfTold P OutOfMemory = P error.OutOfMemory
IfTold P Unread = ⊤

-- the same reason, of nodes
abbrev pub nodes_gave_up : GaveUp → NodesGaveUp
nodes_gave_up gave_up.OutOfMemory = OutOfMemory
nodes_gave_up gave_up.Unread = Unread
