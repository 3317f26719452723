use Rattle.std.proofs.Common.{inl, inr, refl}
use Rattle.udfs_words.specs.Requests.{texts}
use Rattle.udfs_common.proofs.StoredLemmas.{any_told}
use Rattle.udfs_reports.specs.Rereading.{IsRefusedNumbers, TellsNumbers}
use Rattle.udfs_reports.proofs.ToldVolumes.{if_err_by, if_ok_by, of_taken}
use Rattle.udfs_reports.proofs.reread.tell_stored.Goals as goal

pub returns-in-Err-clause-refused : goal.returns-in-Err-clause-refused
returns-in-Err-clause-refused g c = inl (refl, inr c.in-Err.ensures.refused)

pub returns-in-Ok-tell_index-clause-printed : goal.returns-in-Ok-tell_index-clause-printed
returns-in-Ok-tell_index-clause-printed g c =
    let r = c.args.request.now in
    if_ok_by c.in-Ok-tell_index.told (λ whole numbers. of_taken _ _ _ (λ last. TellsNumbers (texts r.only.items) r.volume.profile last _ _ whole) (any_told g.F.Stored.Stored.content) c.in-Ok.ensures.index numbers) c.in-Ok-tell_index.ensures.printed

pub returns-in-Ok-tell_index-clause-refused : goal.returns-in-Ok-tell_index-clause-refused
returns-in-Ok-tell_index-clause-refused g c =
    let r = c.args.request.now in
    if_err_by c.in-Ok-tell_index.told (λ refusal numbers. inr (of_taken _ _ _ (λ last. IsRefusedNumbers (texts r.only.items) r.volume.profile last _ _ refusal) (any_told g.F.Stored.Stored.content) c.in-Ok.ensures.index numbers)) c.in-Ok-tell_index.ensures.refused

pub returns-clause-refused : goal.returns-clause-refused
returns-clause-refused g c = inl (c.in-Err-tell_index.ensures.unread, inr c.unread_volume.ensures)
