use Rattle.std.proofs.Common.{◌∙◌, ap, sym, is_none}
use Rattle.udfs_tag.specs.declared.layouts.LbAddr.{LbAddr}
use Rattle.udfs_space.specs.Places.{place, view}
use Rattle.udfs_file.specs.Addresses.{is_no_reference}
use Rattle.udfs_file.specs.declared.faults.NodeFault.TheVariants.{Reference, Range}
use Rattle.udfs_file.proofs.AddressLemmas.{first_of_two, second_of_two, none_of_two}
use Rattle.udfs_file.proofs.file_sets.address_fault.Goals as goal

pub returns-then-is_no_reference : goal.returns-then-is_no_reference
returns-then-is_no_reference c = λ blocks. sym (first_of_two (is_no_reference (view blocks c.args.space.now) c.args.address) (is_none (place c.args.space.now c.args.address.reference c.args.address.block))
    Reference Range (sym (c.is_no_reference.ensures blocks) ∙ c.if-is_no_reference.true))

pub returns-then-is_unplaced : goal.returns-then-is_unplaced
returns-then-is_unplaced c = λ blocks. sym (second_of_two (is_no_reference (view blocks c.args.space.now) c.args.address) (is_none (place c.args.space.now c.args.address.reference c.args.address.block))
    Reference Range (sym (c.is_no_reference.ensures blocks) ∙ c.if-is_no_reference.false) (sym (c.is_unplaced.ensures ∙ ap (λ (a : LbAddr). is_none (place c.args.space.now a.reference a.block)) c.address.ensures) ∙ c.if-is_unplaced.true))

pub returns : goal.returns
returns c = λ blocks. sym (none_of_two (is_no_reference (view blocks c.args.space.now) c.args.address) (is_none (place c.args.space.now c.args.address.reference c.args.address.block))
    Reference Range (sym (c.is_no_reference.ensures blocks) ∙ c.if-is_no_reference.false) (sym (c.is_unplaced.ensures ∙ ap (λ (a : LbAddr). is_none (place c.args.space.now a.reference a.block)) c.address.ensures) ∙ c.if-is_unplaced.false))
