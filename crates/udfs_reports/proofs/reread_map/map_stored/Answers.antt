use Rattle.std.proofs.Common.{inl, inr, refl}
use Rattle.udfs_common.proofs.PutsLemmas.{says_wider, unbegun_as}
use Rattle.udfs_common.proofs.StoredLemmas.{any_told}
use Rattle.udfs_reports.specs.Rereading.{IsMapOf}
use Rattle.udfs_reports.proofs.ToldVolumes.{if_err_by, of_taken}
use Rattle.udfs_reports.proofs.reread_map.map_stored.Goals as goal

pub returns-in-Err-clause-puts : goal.returns-in-Err-clause-puts
returns-in-Err-clause-puts g c = unbegun_as _ _ _ _ _ g.met.F.Files.only_now

pub returns-in-Ok-map_of-clause-puts : goal.returns-in-Ok-map_of-clause-puts
returns-in-Ok-map_of-clause-puts g c =
    let r = c.args.request.now in
    says_wider c.in-Ok-map_of.told _ _
    (λ whole bytes is. of_taken _ _ _ (λ last. IsMapOf r last _ _ whole bytes) (any_told g.F.Stored.Stored.content) c.in-Ok.ensures.index (λ told t fits took. is told t (c.new-blocks.ensures t told fits took))) c.in-Ok-map_of.ensures.puts

pub returns-clause-puts : goal.returns-clause-puts
returns-clause-puts g c = rw c.in-Err-map_of.ensures.unread.0 (unbegun_as _ _ _ _ _ g.met.F.Files.only_now)

pub returns-in-Err-clause-why : goal.returns-in-Err-clause-why
returns-in-Err-clause-why g c = inl (refl, refl, inr c.in-Err.ensures.refused)

pub returns-in-Ok-map_of-clause-why : goal.returns-in-Ok-map_of-clause-why
returns-in-Ok-map_of-clause-why g c =
    if_err_by c.in-Ok-map_of.told
    (λ refusal why. inr (of_taken _ _ _ _ (any_told g.F.Stored.Stored.content) c.in-Ok.ensures.index (λ told t fits took. why told t (c.new-blocks.ensures t told fits took)))) c.in-Ok-map_of.ensures.why

pub unread_volume-requires : goal.unread_volume-requires
unread_volume-requires g c = rw c.in-Err-map_of.ensures.unread.0 c.requires

pub returns-clause-why : goal.returns-clause-why
returns-clause-why g c =
    let stays = c.in-Err-map_of.ensures.unread in
    inl (stays.0, stays.1, inr (rw stays.0 at c.unread_volume.ensures))
