-- How many names an entry has, as it says itself.
--     link_count bytes      the link count in the bytes of an entry
--     links_at view icb     that of the entry at an information control block, and 0 where its block is not known
use Rattle.std.specs.Prelude.{ℕ, List, Option, Some, None}
use Rattle.udfs_lattice.specs.States.{State}
use Rattle.udfs_lattice.specs.declared.facts.Fact.TheVariants.{Unknown, Known, Conflict}
use Rattle.udfs_tag.specs.Fields.{uint16_at}
use Rattle.udfs_space.specs.Places.{View, block_at}
use Rattle.udfs_walk.specs.Targets.{Icb}

-- the file link count (ECMA-167 4/14.9.6), which an extended file entry has at the same place (4/14.17.6)
abbrev pub link_count : List ℕ → ℕ
link_count bytes = uint16_at bytes 48

-- the link count in a block of which this is known
abbrev pub links_of : State → ℕ
links_of Unknown = 0
links_of (Known bytes) = link_count bytes
links_of Conflict = 0

-- the link count in a block, if there is one
abbrev pub links_in : Option (ℕ × State) → ℕ
links_in None = 0
links_in (Some block) = links_of block.1

-- the link count of the entry at an information control block
unfoldable pub links_at : View → Icb → ℕ
links_at view icb = links_in (block_at view icb.reference icb.block)
