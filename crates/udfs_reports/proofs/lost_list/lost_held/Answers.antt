use Rattle.std.proofs.Common.{inl, inr, refl}
use Rattle.udfs_common.proofs.VolumeLemmas.{of_disc}
use Rattle.udfs_reports.specs.LostListing.{IsRefusedLost, TellsLost}
use Rattle.udfs_reports.proofs.ToldVolumes.{if_err_by, if_ok_by, told_of}
use Rattle.udfs_reports.proofs.lost_list.lost_held.Goals as goal

pub returns-clause-printed : goal.returns-clause-printed
returns-clause-printed g c =
    let r = c.args.request.now in
    if_ok_by c.in-Ok-tell_lost.told (λ whole tells. told_of (of_disc (λ last. TellsLost c.args.form r.deleted r.volume.profile last _ _ whole) c.in-Ok.ensures.joined (tells tt c.in-Ok.disc.table refl))) c.in-Ok-tell_lost.ensures.printed

pub returns-clause-refused : goal.returns-clause-refused
returns-clause-refused g c =
    let r = c.args.request.now in
    if_err_by c.in-Ok-tell_lost.told (λ refusal refused. inr (inr (told_of (of_disc (λ last. IsRefusedLost c.args.form r.deleted r.volume.profile last _ _ refusal) c.in-Ok.ensures.joined (refused tt c.in-Ok.disc.table refl))))) c.in-Ok-tell_lost.ensures.refused

pub returns-in-Err-clause-refused : goal.returns-in-Err-clause-refused
returns-in-Err-clause-refused g c = inl (refl, inl c.in-Err.ensures.refused)
