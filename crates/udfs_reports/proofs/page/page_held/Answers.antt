use Rattle.std.proofs.Common.{inl, inr, refl}
use Rattle.udfs_index.specs.Copying.{AreAllTold}
use Rattle.udfs_common.proofs.PutsLemmas.{says_wider}
use Rattle.udfs_common.proofs.VolumeLemmas.{of_disc}
use Rattle.udfs_common.specs.declared.refusal.Refusal.TheVariants.{Output}
use Rattle.udfs_reports.proofs.ToldVolumes.{if_err_by, told_then}
use Rattle.udfs_reports.specs.Paging.{IsPageOf}
use Rattle.udfs_reports.proofs.page.page_held.Goals as goal

pub returns-clause-puts : goal.returns-clause-puts
returns-clause-puts g c =
    let r = c.args.request.now in
    says_wider c.in-Ok-page_of.told _ _ (λ whole bytes is. told_then (λ last. IsPageOf r last whole bytes) (of_disc (λ last table. AreAllTold g.F.Stored.Stored.content → IsPageOf r last whole bytes table) c.in-Ok.ensures.joined is))
    (c.in-Ok-page_of.ensures.puts c.in-Ok.disc.table (λ told. (tt, refl)) Output)

pub returns-clause-why : goal.returns-clause-why
returns-clause-why g c =
    if_err_by c.in-Ok-page_of.told
    (λ refusal why. inr (inr (told_then _ (of_disc _ c.in-Ok.ensures.joined (why c.in-Ok.disc.table (λ told. (tt, refl)))))))
    c.in-Ok-page_of.ensures.why

pub returns-in-Err-clause-why : goal.returns-in-Err-clause-why
returns-in-Err-clause-why g c = inl (refl, c.in-Err.ensures.refused)
