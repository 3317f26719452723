-- What the address of an information control block leads to.
--     target view a        a fault, a block that is not known, or an entry
--     icb_of a             the information control block that an address names
--     icb_at r b           the one at a logical block of a partition
use Rattle.std.specs.Prelude.{ℕ, Bool, ◌==◌, ◌&&◌, Option, Some, None}
use Rattle.udfs_lattice.specs.States.{State}
use Rattle.udfs_lattice.specs.declared.facts.Fact.TheVariants.{Unknown, Known, Conflict}
use Rattle.udfs_tag.specs.Fields.{first_address}
use Rattle.udfs_tag.specs.declared.layouts.LbAddr.{LbAddr}
use Rattle.udfs_tag.specs.declared.layouts.LongAd.{LongAd}
use Rattle.udfs_space.specs.Places.{View, block_at}
use Rattle.udfs_file.specs.Addresses.{address_fault}
use Rattle.udfs_file.specs.Entries.{EntryFields, entry_fault, entry_of}
use Rattle.udfs_file.specs.declared.faults.NodeFault.{NodeFault}
use Rattle.udfs_file.specs.declared.faults.NodeFault.TheVariants.{Range}

-- a fault of the address or of the entry there, a block that is not known, or an entry
pub data Target : Type 0 where
  bad : NodeFault → Target
  unread : ℕ → Target
  entry : EntryFields → Target

-- an entry, unless there is a fault
abbrev pub entry_unless : Option NodeFault → EntryFields → Target
entry_unless None e = entry e
entry_unless (Some fault) e = bad fault

-- what is at logical block b, by what is known of block n that holds it
abbrev pub target_in : ℕ → ℕ → State → Target
target_in b n Unknown = unread n
target_in b n (Known bytes) = entry_unless (entry_fault bytes b) (entry_of bytes)
target_in b n Conflict = unread n

-- what an address leads to, by its fault and what is known of its block
abbrev pub target_at : Option NodeFault → ℕ → Option (ℕ × State) → Target
target_at (Some fault) b block = bad fault
target_at None b None = bad Range
target_at None b (Some block) = target_in b block.0 block.1

-- what an address leads to: a fault, a block that is not known, or an entry
unfoldable pub target : View → LongAd → Target
target view a = target_at (address_fault view a) a.block (block_at view a.reference a.block)

-- an information control block, by its logical block
abbrev pub Icb : Type 0
Icb = LbAddr

-- the information control block at a logical block of a partition
abbrev pub icb_at : ℕ → ℕ → Icb
icb_at r b = record { block = b; reference = r }

-- the information control block that an address names
abbrev pub icb_of : LongAd → Icb
icb_of a = first_address a

-- whether two information control blocks are one
abbrev pub is_icb : Icb → Icb → Bool
is_icb a b = (a.reference == b.reference) && (a.block == b.block)
