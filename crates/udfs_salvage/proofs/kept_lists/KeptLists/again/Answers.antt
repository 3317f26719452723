use Rattle.std.proofs.Common.{◌<◌, ◌∙◌, ap, subst, sym}
use Rattle.std.specs.BTreeMap.{get}
use Rattle.std.specs.Ordering.{nat_cmp}
use Rattle.udfs_tag.specs.Fields.{number_of}
use Rattle.udfs_tag.specs.declared.layouts.LbAddr.{LbAddr}
use Rattle.udfs_space.specs.Views.{view_by}
use Rattle.udfs_walk.specs.Bare.{lists_at}
use Rattle.udfs_salvage.proofs.KeptLists.{no_fault_there, told_again}
use Rattle.udfs_salvage.proofs.kept_lists.KeptLists.again.Goals as goal

pub returns-in_ok-torn-in-Some : goal.returns-in_ok-torn-in-Some
returns-in_ok-torn-in-Some g c told =
    let none = no_fault_there c.address_fault.result _ c.is_some.result (c.address_fault.ensures (g.B.BlockStore.states c.args.view.blocks.now)) c.is_some.ensures c.if-is_some.false in
    told_again (lists_at (view_by g.B.BlockStore.states c.args.view) c.args.address) c.in_ok-torn-in-Some.torn c.in-Some.torn.now c.args.standing.now c.in-Torn.field-0 c.in-Torn.is c.in_ok-torn-in-Some.ensures
    (c.requires told c.args.address c.in-Some.torn.now (subst (λ (x : LbAddr). x.block < 4294967296) c.address.ensures c.number-number.ensures.block) none (sym (c.in-Some.ensures.value ∙ ap (get nat_cmp c.args.self.now.lists) (c.number-number.ensures.value ∙ ap number_of c.address.ensures))))
