-- Addresses of single blocks (long_ad, ECMA-167 4/14.14.2), and the file set (4/14.1).
--     address_fault view a       what is wrong with an address
--     file_set view a            the address of the root's ICB
use Rattle.std.specs.Prelude.{ℕ, Bool, not, [], ◌∷◌, cond, ◌==◌, nat_le, ◌||◌, Option, Some, None, is_none}
use Rattle.udfs_lattice.specs.States.{State}
use Rattle.udfs_lattice.specs.declared.facts.Fact.TheVariants.{Unknown, Known, Conflict}
use Rattle.udfs_tag.specs.declared.layouts.LongAd.{LongAd}
use Rattle.udfs_tag.specs.Fields.{long_ad_at}
use Rattle.udfs_tag.specs.Faults.{first_fault}
use Rattle.udfs_tag.specs.Tags.{is_valid}
use Rattle.udfs_volume.specs.Answers.{Answer, found, holes, faulty}
use Rattle.udfs_volume.specs.declared.faults.VolumeFault.TheVariants.{FileSet}
use Rattle.udfs_space.specs.Places.{View, block_at}
use Rattle.udfs_file.specs.declared.faults.NodeFault.{NodeFault}
use Rattle.udfs_file.specs.declared.faults.NodeFault.TheVariants.{Reference, Range}

-- whether an address is not a recorded extent, is empty, or refers to no partition that there is
abbrev pub is_no_reference : View → LongAd → Bool
is_no_reference view a = not (a.kind == 0) || (a.length == 0) || nat_le view.partitions a.reference

-- a good address is a recorded extent that is not empty, in a partition that there is, at a block that has a
-- place there. One block of it is read.
abbrev pub address_fault : View → LongAd → Option NodeFault
address_fault view a = first_fault (
    (is_no_reference view a, Reference)
    ∷ (is_none (view.place a.reference a.block), Range)
    ∷ [])

-- the root's address, by what is known of block n, to which the file set's address leads
abbrev pub file_set_in : LongAd → ℕ → State → Answer LongAd
file_set_in a n Unknown = holes (n ∷ [])
file_set_in a n (Known bytes) = cond (is_valid bytes a.block 256) (found (long_ad_at bytes 400)) (faulty FileSet)
file_set_in a n Conflict = holes (n ∷ [])

-- the root's address in the file set descriptor at an address, by the fault of the address and what is known of its block
abbrev pub file_set_at : LongAd → Option NodeFault → Option (ℕ × State) → Answer LongAd
file_set_at a (Some fault) block = faulty FileSet
file_set_at a None None = faulty FileSet
file_set_at a None (Some block) = file_set_in a block.0 block.1

-- the root's address, as the file set descriptor at this address names it (ECMA-167 4/14.1)
unfoldable pub file_set : View → LongAd → Answer LongAd
file_set view a = file_set_at a (address_fault view a) (block_at view a.reference a.block)
