-- The blocks that decide whether a tree is lawful, and are not known.
--     asks view n            a node lacks blocks that could hold something unlawful
--     tree_asked view nodes  those blocks, of all nodes
use Rattle.std.specs.Prelude.{ℕ, Bool, true, false, not, ◌&&◌, List, filter}
use Rattle.udfs_space.specs.Places.{View}
use Rattle.udfs_file.specs.declared.faults.Kind.{Kind}
use Rattle.udfs_file.specs.declared.faults.Kind.TheVariants.{Directory, File, Link, Other, Unread}
use Rattle.udfs_walk.specs.NodeFields.{NodeFields}
use Rattle.udfs_walk.specs.Rereads.{reread}
use Rattle.udfs_walk.specs.declared.standings.Standing.{Standing}
use Rattle.udfs_walk.specs.declared.standings.Standing.TheVariants.{Whole, Torn, Loop, Fault}
use Rattle.udfs_lawfulness.specs.Filled.{is_mapped}

-- whether it is read, and is no directory: then what its bytes are decides nothing
abbrev pub is_data : Kind → Bool
is_data Directory = false
is_data File = true
is_data Link = true
is_data (Other type) = true
is_data Unread = false

-- whether something is missing
abbrev pub is_torn : Standing → Bool
is_torn Whole = false
is_torn (Torn torn) = true
is_torn Loop = false
is_torn (Fault fault) = false

-- whether a torn node could be unlawful: not if it is no directory, and all allocation descriptors that it needs are known
abbrev pub asks : View → NodeFields → Bool
asks v n = is_torn n.standing && not (is_data n.kind && is_mapped v n.icb)

-- the blocks that such nodes lack, ascending and each once
abbrev pub tree_asked : View → List NodeFields → List ℕ
tree_asked v nodes = reread (filter (asks v) nodes)
