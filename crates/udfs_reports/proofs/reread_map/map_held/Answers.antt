use Rattle.std.proofs.Common.{inl, inr, refl}
use Rattle.udfs_common.proofs.PutsLemmas.{says_wider, unbegun_as}
use Rattle.udfs_common.proofs.VolumeLemmas.{of_disc}
use Rattle.udfs_reports.specs.Rereading.{IsMapOf}
use Rattle.udfs_reports.proofs.ToldVolumes.{if_err_by, told_of}
use Rattle.udfs_reports.proofs.reread_map.map_held.Goals as goal

pub returns-in-Err-clause-puts : goal.returns-in-Err-clause-puts
returns-in-Err-clause-puts g c = unbegun_as _ _ _ _ _ g.met.F.Files.only_now

pub returns-clause-puts : goal.returns-clause-puts
returns-clause-puts g c =
    let r = c.args.request.now in
    says_wider c.in-Ok-map_of.told _ _ (λ whole bytes is. told_of (of_disc (λ last table. IsMapOf r last _ _ whole bytes table) c.in-Ok.ensures.joined (is tt c.in-Ok.disc.table refl))) c.in-Ok-map_of.ensures.puts

pub returns-clause-why : goal.returns-clause-why
returns-clause-why g c = if_err_by c.in-Ok-map_of.told (λ refusal why. inr (told_of (of_disc _ c.in-Ok.ensures.joined (why tt c.in-Ok.disc.table refl)))) c.in-Ok-map_of.ensures.why

pub returns-in-Err-clause-why : goal.returns-in-Err-clause-why
returns-in-Err-clause-why g c = inl (refl, refl, inl c.in-Err.ensures.refused)
