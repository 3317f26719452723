use Rattle.std.proofs.Common.{inl, inr, refl}
use Rattle.udfs_common.proofs.StoredLemmas.{any_told}
use Rattle.udfs_reports.specs.Telling.{BeginsText, IsRefusedTelling, Tells}
use Rattle.udfs_reports.proofs.ToldVolumes.{if_err_by, if_ok_by, of_taken}
use Rattle.udfs_reports.proofs.telling.tell_stored.Goals as goal

pub returns-in-Err-clause-refused : goal.returns-in-Err-clause-refused
returns-in-Err-clause-refused g c = inl (refl, inr c.in-Err.ensures.refused)

pub returns-in-Ok-tell_index-clause-printed : goal.returns-in-Ok-tell_index-clause-printed
returns-in-Ok-tell_index-clause-printed g c =
    if_ok_by c.in-Ok-tell_index.told (λ whole lines. of_taken _ _ _ (λ last. Tells (g.T.Telling.text c.args.telling.now) c.args.volume.now.profile last _ _ whole) (any_told g.F.Stored.Stored.content) c.in-Ok.ensures.index lines) c.in-Ok-tell_index.ensures.printed

pub returns-in-Ok-tell_index-clause-refused : goal.returns-in-Ok-tell_index-clause-refused
returns-in-Ok-tell_index-clause-refused g c =
    if_err_by c.in-Ok-tell_index.told (λ refusal lines. inr (inr (of_taken _ _ _ (λ last. IsRefusedTelling (g.T.Telling.text c.args.telling.now) c.args.volume.now.profile last _ _ refusal) (any_told g.F.Stored.Stored.content) c.in-Ok.ensures.index lines))) c.in-Ok-tell_index.ensures.refused

pub returns-clause-refused : goal.returns-clause-refused
returns-clause-refused g c =
    inr (inl (c.unread_volume.ensures, of_taken _ _ _ (λ last. BeginsText (g.T.Telling.text c.args.telling.now) c.args.volume.now.profile last _ _) (any_told g.F.Stored.Stored.content) c.in-Ok.ensures.index c.in-Err-tell_index.ensures.unread))
