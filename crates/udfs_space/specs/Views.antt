-- A table and its places together, as the layers above take them.
--     view_now v           what such a pair is to the definitions
--     view_by states v     the same of a store whose states these are
use Rattle.udfs_lattice.specs.Tables.{state_of}
use Rattle.udfs_space.specs.Places.{View, view}
use Rattle.udfs_lattice.specs.Volumes.{Blocks}
use Rattle.udfs_space.specs.declared.views.View.{View as Pair}
use Rattle.udfs_space.specs.declared.views.StoreView.{StoreView}

-- what is known of the logical blocks of a table's space
abbrev pub view_now : Pair → View
view_now v = view (state_of v.table.now) v.space.now

-- what is known of the logical blocks of a store's space
abbrev pub view_by : {B : Type 0} → (B → Blocks) → StoreView B → View
view_by states v = view (states v.blocks.now) v.space.now
