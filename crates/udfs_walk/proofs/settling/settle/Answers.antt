use Rattle.std.proofs.Common.{◌∙◌, ap, subst, sym, true}
use Rattle.std.specs.Prelude.{Contains}
use Rattle.udfs_tag.specs.Fields.{number_of}
use Rattle.udfs_tag.specs.declared.layouts.LbAddr.{LbAddr}
use Rattle.udfs_space.specs.Views.{view_by}
use Rattle.udfs_file.specs.Bodies.{body}
use Rattle.udfs_file.specs.Entries.{entry_of}
use Rattle.udfs_file.specs.Stretches.{IsStanding}
use Rattle.udfs_walk.specs.Bare.{bare_standing, node_with}
use Rattle.udfs_walk.specs.Memos.{known_standing}
use Rattle.udfs_walk.specs.NodeFields.{NodeFields}
use Rattle.udfs_walk.specs.Standings.{body_standing}
use Rattle.udfs_walk.specs.Targets.{bad, entry, icb_of, target, unread}
use Rattle.udfs_walk.proofs.CountLemmas.{counted_once}
use Rattle.udfs_walk.proofs.MemoLemmas.{known_is}
use Rattle.udfs_walk.proofs.SettleLemmas.{not_waiting, waiting}
use Rattle.udfs_walk.proofs.settling.settle.Goals as goal

pub returns-then-not-waits-clause-settled : goal.returns-then-not-waits-clause-settled
returns-then-not-waits-clause-settled g c told = not_waiting (view_by g.B.BlockStore.states c.args.view) c.args.node.now (sym c.waits.ensures ∙ c.if-not-waits.true)

pub returns-then-not-waits-clause-within : goal.returns-then-not-waits-clause-within
returns-then-not-waits-clause-within g c start icbs at counted = counted_once start icbs c.args.memo.now c.args.walks.now counted

pub returns-in_err-known-in-Entry-clause-within : goal.returns-in_err-known-in-Entry-clause-within
returns-in_err-known-in-Entry-clause-within g c start icbs at counted =
    let icb = c.address.ensures ∙ ap (λ (n : NodeFields). icb_of n.icb) c.node.view_is in
    c.in_err-known-in-Entry.ensures.within start icbs (subst (λ (a : LbAddr). Contains icbs (number_of a)) (sym icb) at) counted

pub returns-in_ok-known-in-Entry-clause-settled : goal.returns-in_ok-known-in-Entry-clause-settled
returns-in_ok-known-in-Entry-clause-settled g c told =
    let v = view_by g.B.BlockStore.states c.args.view in
    let n = c.args.node.now in
    let e = entry_of c.in-Entry.entry in
    let icb = c.address.ensures ∙ ap (λ (n : NodeFields). icb_of n.icb) c.node.view_is in
    let standing = c.standing.ensures ∙ ap (known_standing true) (c.in_ok-known-in-Entry.ensures.known told)
    ∙ known_is v.profile e.kind true (body v c.address.result.reference c.address.result.block e)
    ∙ (λ i. bare_standing (body_standing v.profile e.kind true (body v (icb i).reference (icb i).block e))) in
    ap (λ n. node_with n c.standing.result) c.node.view_is ∙ ap (node_with n) standing
    ∙ waiting v n (entry e) (sym c.waits.ensures ∙ c.if-not-waits.false) (rw c.in-Entry.is at (c.in_ok-entry.ensures.value told) ∙ ap (λ (n : NodeFields). target v n.icb) c.node.view_is)

pub returns-in_ok-known-in-Entry-clause-counted : goal.returns-in_ok-known-in-Entry-clause-counted
returns-in_ok-known-in-Entry-clause-counted g c start icbs at counted =
    let icb = c.address.ensures ∙ ap (λ (n : NodeFields). icb_of n.icb) c.node.view_is in
    c.in_ok-known-in-Entry.ensures.counted start icbs (subst (λ (a : LbAddr). Contains icbs (number_of a)) (sym icb) at) counted

pub returns-in_ok-known-in-Entry-clause-within : goal.returns-in_ok-known-in-Entry-clause-within
returns-in_ok-known-in-Entry-clause-within g c start icbs at counted =
    let icb = c.address.ensures ∙ ap (λ (n : NodeFields). icb_of n.icb) c.node.view_is in
    c.in_ok-known-in-Entry.ensures.within start icbs (subst (λ (a : LbAddr). Contains icbs (number_of a)) (sym icb) at) counted

pub returns-in-Fault-clause-settled : goal.returns-in-Fault-clause-settled
returns-in-Fault-clause-settled g c told =
    let v = view_by g.B.BlockStore.states c.args.view in
    waiting v c.args.node.now (bad c.in-Fault.field-0) (sym c.waits.ensures ∙ c.if-not-waits.false) (rw c.in-Fault.is at (c.in_ok-entry.ensures.value told) ∙ ap (λ (n : NodeFields). target v n.icb) c.node.view_is)

pub returns-in-Fault-clause-within : goal.returns-in-Fault-clause-within
returns-in-Fault-clause-within g c start icbs at counted = counted_once start icbs c.args.memo.now c.args.walks.now counted

pub returns-in-Unread-clause-settled : goal.returns-in-Unread-clause-settled
returns-in-Unread-clause-settled g c told =
    let v = view_by g.B.BlockStore.states c.args.view in
    waiting v c.args.node.now (unread c.in-Unread.field-0) (sym c.waits.ensures ∙ c.if-not-waits.false) (rw c.in-Unread.is at (c.in_ok-entry.ensures.value told) ∙ ap (λ (n : NodeFields). target v n.icb) c.node.view_is)

pub returns-in-Unread-clause-within : goal.returns-in-Unread-clause-within
returns-in-Unread-clause-within g c start icbs at counted = counted_once start icbs c.args.memo.now c.args.walks.now counted

pub known-requires-clause-stands : goal.known-requires-clause-stands
known-requires-clause-stands g c told = subst (λ (a : LbAddr). IsStanding (view_by g.B.BlockStore.states c.args.view) a.reference a.block c.in-Entry.entry) (sym c.address.ensures)
    (rw c.in-Entry.is at (c.in_ok-entry.ensures.stands told))

pub returns-in_err-entry-clause-within : goal.returns-in_err-entry-clause-within
returns-in_err-entry-clause-within g c start icbs at counted = counted_once start icbs c.args.memo.now c.args.walks.now counted
