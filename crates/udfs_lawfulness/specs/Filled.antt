-- A view with zeros in place of each block that is not known. Zeros are no descriptor, so with them a list of allocation descriptors that goes on in a
-- block that is not known is broken there, and one that is all known gives a body.
--     filled blocks            the table, with zeros in place of what is not known
--     is_mapped view a         all allocation descriptors that the entry at an address needs are known
use Rattle.std.specs.Prelude.{Bool, false, replicate}
use Rattle.udfs_lattice.specs.States.{State}
use Rattle.udfs_lattice.specs.Volumes.{Blocks}
use Rattle.udfs_lattice.specs.declared.facts.Fact.TheVariants.{Unknown, Known, Conflict}
use Rattle.udfs_tag.specs.declared.layouts.LongAd.{LongAd}
use Rattle.udfs_volume.specs.Sequence.{Bytes}
use Rattle.udfs_space.specs.Places.{View}
use Rattle.udfs_file.specs.Bodies.{body}
use Rattle.udfs_file.specs.TailBodies.{has_cells}
use Rattle.udfs_walk.specs.Targets.{Target, bad, unread, entry, target}

-- the bytes of a known block, and else zeros
abbrev pub bytes_or_zeros : State → Bytes
bytes_or_zeros Unknown = replicate 2048 0
bytes_or_zeros (Known bytes) = bytes
bytes_or_zeros Conflict = replicate 2048 0

-- the table, with zeros in place of each block that is not known
abbrev pub filled : Blocks → Blocks
filled blocks n = Known (bytes_or_zeros (blocks n))

-- the same of a view
abbrev pub filled_view : View → View
filled_view v = record { partitions = v.partitions; place = v.place; blocks = filled v.blocks; profile = v.profile }

-- whether what an address leads to has a body
abbrev pub target_has_cells : View → LongAd → Target → Bool
target_has_cells v a (bad f) = false
target_has_cells v a (unread n) = false
target_has_cells v a (entry e) = has_cells (body v a.reference a.block e)

-- whether the entry at an address has a body with zeros in place of all that is not known: then no allocation descriptor that it needs is unknown
abbrev pub is_mapped : View → LongAd → Bool
is_mapped v a = target_has_cells (filled_view v) a (target (filled_view v) a)
