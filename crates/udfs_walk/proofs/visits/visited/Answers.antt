use Rattle.std.proofs.Common.{◌∙◌, ap, cond, false, nat_le, subst, sym}
use Rattle.std.specs.Prelude.{Contains}
use Rattle.std.specs.List.{list_any}
use Rattle.udfs_tag.specs.Fields.{number_of}
use Rattle.udfs_tag.specs.declared.layouts.LbAddr.{LbAddr}
use Rattle.udfs_space.specs.Views.{view_by}
use Rattle.udfs_file.specs.Bodies.{body}
use Rattle.udfs_file.specs.Entries.{entry_of}
use Rattle.udfs_file.specs.Stretches.{IsStanding}
use Rattle.udfs_walk.specs.Bare.{bare_standing}
use Rattle.udfs_walk.specs.Standings.{body_standing}
use Rattle.udfs_walk.specs.Nodes.{told, untold}
use Rattle.udfs_walk.specs.Targets.{bad, entry, is_icb, unread}
use Rattle.udfs_walk.specs.Visits.{end_at}
use Rattle.udfs_walk.specs.declared.standings.Standing.TheVariants.{Loop, Torn, Whole}
use Rattle.udfs_walk.proofs.TargetLemmas.{unsettled_is}
use Rattle.udfs_walk.proofs.visits.visited.Goals as goal

pub returns-in-Fault-clause-node : goal.returns-in-Fault-clause-node
returns-in-Fault-clause-node g c tells =
    let w = end_at c.args.address c.args.path c.args.above.now c.args.hidden in
    c.unread.ensures c.args.above.now ∙ unsettled_is (view_by g.B.BlockStore.states c.args.view) w (bad c.in-Fault.fault) (rw c.in-Fault.is at (c.in_ok-fault.ensures.value tells))

pub returns-in-Unread-clause-node : goal.returns-in-Unread-clause-node
returns-in-Unread-clause-node g c tells =
    let w = end_at c.args.address c.args.path c.args.above.now c.args.hidden in
    c.unread-in-Unread.ensures c.args.above.now ∙ ap (λ lists. untold w (Torn lists)) c.no_lists.ensures
    ∙ unsettled_is (view_by g.B.BlockStore.states c.args.view) w (unread c.in-Unread.field-0) (rw c.in-Unread.is at (c.in_ok-fault.ensures.value tells))

pub returns-in_ok-standing-in-Entry-clause-node : goal.returns-in_ok-standing-in-Entry-clause-node
returns-in_ok-standing-in-Entry-clause-node g c tells =
    let v = view_by g.B.BlockStore.states c.args.view in
    let w = end_at c.args.address c.args.path c.args.above.now c.args.hidden in
    let e = entry_of c.in-Entry.entry in
    let n = c.len-is_deep.ensures in
    let icb = c.address-icb.ensures in
    let loop = c.is_loop-is_loop.ensures ∙ ap (λ a. list_any (is_icb a) c.args.above.now) icb in
    c.read.ensures c.args.above.now ∙ (λ i. told (c.profile-profile.ensures i) w e c.in_ok-standing-in-Entry.standing) ∙ ap (told v.profile w e) (c.in_ok-standing-in-Entry.ensures.standing tells)
    ∙ (λ i. told v.profile w e (cond (loop i) Loop (cond (nat_le 64 (n i)) Whole (bare_standing (body_standing v.profile e.kind false (body v (icb i).reference (icb i).block e))))))
    ∙ unsettled_is v w (entry e) (rw c.in-Entry.is at (c.in_ok-fault.ensures.value tells))

pub returns-in_ok-standing-in-Entry-clause-counted : goal.returns-in_ok-standing-in-Entry-clause-counted
returns-in_ok-standing-in-Entry-clause-counted g c start icbs at counted =
    c.in_ok-standing-in-Entry.ensures.counted start icbs (subst (λ (a : LbAddr). Contains icbs (number_of a)) (sym c.address-icb.ensures) at) counted

pub entry_told-requires-clause-stands : goal.entry_told-requires-clause-stands
entry_told-requires-clause-stands g c tells = subst (λ (a : LbAddr). IsStanding (view_by g.B.BlockStore.states c.args.view) a.reference a.block c.in-Entry.entry) (sym c.address-icb.ensures)
    (rw c.in-Entry.is at (c.in_ok-fault.ensures.stands tells))
