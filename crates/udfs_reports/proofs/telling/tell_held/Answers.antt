use Rattle.std.proofs.Common.{inl, inr, refl}
use Rattle.udfs_common.proofs.VolumeLemmas.{of_disc}
use Rattle.udfs_reports.specs.Telling.{IsRefusedTelling, Tells}
use Rattle.udfs_reports.proofs.ToldVolumes.{if_err_by, if_ok_by, told_of}
use Rattle.udfs_reports.proofs.telling.tell_held.Goals as goal

pub returns-clause-printed : goal.returns-clause-printed
returns-clause-printed g c =
    if_ok_by c.in-Ok-tell.told (λ whole tells. told_of (of_disc (λ last. Tells (g.T.Telling.text c.args.telling.now) c.args.volume.now.profile last _ _ whole) c.in-Ok.ensures.joined (tells tt c.in-Ok.disc.table refl))) c.in-Ok-tell.ensures.printed

pub returns-clause-refused : goal.returns-clause-refused
returns-clause-refused g c =
    if_err_by c.in-Ok-tell.told (λ refusal refused. inr (inr (told_of (of_disc (λ last. IsRefusedTelling (g.T.Telling.text c.args.telling.now) c.args.volume.now.profile last _ _ refusal) c.in-Ok.ensures.joined (refused tt c.in-Ok.disc.table refl))))) c.in-Ok-tell.ensures.refused

pub returns-in-Err-clause-refused : goal.returns-in-Err-clause-refused
returns-in-Err-clause-refused g c = inl (refl, inl c.in-Err.ensures.refused)
