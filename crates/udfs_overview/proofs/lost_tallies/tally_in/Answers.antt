use Rattle.std.proofs.Common.{◌∙◌, ap, inl, inr}
use Rattle.udfs_space.specs.Views.{view_by}
use Rattle.udfs_overview.specs.LostTallies.{lost_tally}
use Rattle.udfs_overview.proofs.LostTallying.{too_many_is, untold}
use Rattle.udfs_overview.proofs.lost_tallies.tally_in.Goals as goal

pub returns-in_ok-tally-in-Ok-clause-tallied : goal.returns-in_ok-tally-in-Ok-clause-tallied
returns-in_ok-tally-in-Ok-clause-tallied g c told =
    let v = view_by g.B.BlockStore.states c.args.view in
    inl (record { are_lost = c.in-Ok.ensures.trees told; is = c.in_ok-tally-in-Ok.ensures.value told ∙ ap (lost_tally v c.args.entries.now) c.deref.ensures.value })

pub returns-in_ok-tally-in-Err-clause-tallied : goal.returns-in_ok-tally-in-Err-clause-tallied
returns-in_ok-tally-in-Err-clause-tallied g c told =
    let v = view_by g.B.BlockStore.states c.args.view in
    let tally = c.in_ok-tally-in-Err.tally in
    let x = c.in_ok-tally-in-Err.ensures.value in
    inr (record {
      unfound = untold v c.args.entries.now c.in-Err.why x.0 (c.in-Err.ensures.refused told);
      none = c.new.ensures.items;
      is = too_many_is v c.args.entries.now tally c.in_ok-deleted.deleted x.1 (c.in_ok-deleted.ensures.value told);
    })
