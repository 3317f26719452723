use Rattle.std.proofs.Common.{inl, inr, refl}
use Rattle.udfs_common.proofs.StoredLemmas.{any_told}
use Rattle.udfs_reports.specs.LostListing.{BeginsLost, IsRefusedLost, TellsLost}
use Rattle.udfs_reports.proofs.ToldVolumes.{if_err_by, if_ok_by, of_taken}
use Rattle.udfs_reports.proofs.lost_list.lost_stored.Goals as goal

pub returns-in-Err-clause-refused : goal.returns-in-Err-clause-refused
returns-in-Err-clause-refused g c = inl (refl, inr c.in-Err.ensures.refused)

pub returns-in-Ok-lost_of_index-clause-printed : goal.returns-in-Ok-lost_of_index-clause-printed
returns-in-Ok-lost_of_index-clause-printed g c =
    let r = c.args.request.now in
    if_ok_by c.in-Ok-lost_of_index.told (λ whole lines. of_taken _ _ _ (λ last. TellsLost c.args.form r.deleted r.volume.profile last _ _ whole) (any_told g.F.Stored.Stored.content) c.in-Ok.ensures.index lines) c.in-Ok-lost_of_index.ensures.printed

pub returns-in-Ok-lost_of_index-clause-refused : goal.returns-in-Ok-lost_of_index-clause-refused
returns-in-Ok-lost_of_index-clause-refused g c =
    let r = c.args.request.now in
    if_err_by c.in-Ok-lost_of_index.told (λ refusal lines. inr (inr (of_taken _ _ _ (λ last. IsRefusedLost c.args.form r.deleted r.volume.profile last _ _ refusal) (any_told g.F.Stored.Stored.content) c.in-Ok.ensures.index lines))) c.in-Ok-lost_of_index.ensures.refused

pub returns-clause-refused : goal.returns-clause-refused
returns-clause-refused g c =
    let r = c.args.request.now in
    inr (inl (c.unread_volume.ensures, of_taken _ _ _ (λ last. BeginsLost c.args.form r.deleted r.volume.profile last _ _) (any_told g.F.Stored.Stored.content) c.in-Ok.ensures.index c.in-Err-lost_of_index.ensures.unread))
