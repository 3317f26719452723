use Rattle.std.proofs.Common.{inl, inr, refl}
use Rattle.udfs_words.specs.Requests.{texts}
use Rattle.udfs_common.proofs.VolumeLemmas.{of_disc}
use Rattle.udfs_reports.specs.Rereading.{IsRefusedNumbers, TellsNumbers}
use Rattle.udfs_reports.proofs.ToldVolumes.{if_err_by, if_ok_by, told_of}
use Rattle.udfs_reports.proofs.reread.tell_held.Goals as goal

pub returns-clause-printed : goal.returns-clause-printed
returns-clause-printed g c =
    let r = c.args.request.now in
    if_ok_by c.in-Ok-tell_numbers.told (λ whole tells. told_of (of_disc (λ last. TellsNumbers (texts r.only.items) r.volume.profile last _ _ whole) c.in-Ok.ensures.joined (tells tt c.in-Ok.disc.table refl))) c.in-Ok-tell_numbers.ensures.printed

pub returns-clause-refused : goal.returns-clause-refused
returns-clause-refused g c =
    let r = c.args.request.now in
    if_err_by c.in-Ok-tell_numbers.told (λ refusal refused. inr (told_of (of_disc (λ last. IsRefusedNumbers (texts r.only.items) r.volume.profile last _ _ refusal) c.in-Ok.ensures.joined (refused tt c.in-Ok.disc.table refl)))) c.in-Ok-tell_numbers.ensures.refused

pub returns-in-Err-clause-refused : goal.returns-in-Err-clause-refused
returns-in-Err-clause-refused g c = inl (refl, inl c.in-Err.ensures.refused)
