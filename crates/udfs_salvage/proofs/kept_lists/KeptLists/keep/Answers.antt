use Rattle.std.proofs.Common.{◌<◌, ◌∙◌, ap, subst, Some}
use Rattle.std.specs.BTreeMap.{Updates}
use Rattle.std.specs.Ordering.{nat_cmp}
use Rattle.udfs_tag.specs.Fields.{number_of}
use Rattle.udfs_tag.specs.declared.layouts.LbAddr.{LbAddr}
use Rattle.udfs_space.specs.Views.{view_by}
use Rattle.udfs_salvage.proofs.KeptLists.{more_kept, no_fault_there}
use Rattle.udfs_salvage.proofs.kept_lists.KeptLists.keep.Goals as goal

pub returns : goal.returns
returns g c told =
    let none = no_fault_there c.address_fault.result _ c.is_some.result (c.address_fault.ensures (g.B.BlockStore.states c.args.view.blocks.now)) c.is_some.ensures c.if-is_some.false in
    more_kept (view_by g.B.BlockStore.states c.args.view) c.args.self.now.lists c.insert.new.self c.args.address c.in_ok-copied.field-0 (subst (λ (x : LbAddr). x.block < 4294967296) c.address.ensures c.number-number.ensures.block) none
    (c.in_ok-copied.ensures ∙ c.requires.full told c.in-Torn.torn c.in-Torn.is)
    (subst (λ k. Updates nat_cmp c.args.self.now.lists c.insert.new.self k (Some c.in_ok-copied.field-0)) (c.number-number.ensures.value ∙ ap number_of c.address.ensures) c.in_ok-insert.ensures.updates) (c.requires.lists told)
