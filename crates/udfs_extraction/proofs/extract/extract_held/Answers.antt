use Rattle.std.proofs.Common.{inl, inr, refl}
use Rattle.udfs_common.proofs.VolumeLemmas.{of_disc}
use Rattle.udfs_lattice.specs.Tables.{state_of}
use Rattle.udfs_salvage.specs.Reports.{IsReportBy, Report}
use Rattle.udfs_extraction.specs.ByRequest.{Makes}
use Rattle.udfs_extraction.specs.Refused.{MakingRefused}
use Rattle.udfs_extraction.proofs.StopLemmas.{refused_at, refused_of}
use Rattle.udfs_extraction.proofs.ToldVolumes.{told_of}
use Rattle.udfs_extraction.proofs.extract.extract_held.Goals as goal

pub returns-in-Err-clause-why : goal.returns-in-Err-clause-why
returns-in-Err-clause-why g c = inl (refl, refl, inl c.in-Err.ensures.refused)

pub returns-in-Err-clause-no_node : goal.returns-in-Err-clause-no_node
returns-in-Err-clause-no_node g c i is = refl

pub returns-in-Err-clause-spares : goal.returns-in-Err-clause-spares
returns-in-Err-clause-spares g c = inl refl

pub returns-in-Ok-make_all-clause-made : goal.returns-in-Ok-make_all-clause-made
returns-in-Ok-make_all-clause-made g c =
    let r = c.args.request.now in
    told_of (of_disc (λ last table. (report : Report) × IsReportBy r.volume.profile (state_of table) last report × Makes _ _ r _ _ _ _ _ last (state_of table) report _) c.in-Ok.ensures.joined (c.in-Ok-make_all.ensures.made tt c.in-Ok.disc.table refl))

pub returns-in-Err-Refused-clause-why : goal.returns-in-Err-Refused-clause-why
returns-in-Err-Refused-clause-why g c =
    let r = c.args.request.now in
    inr (inl (told_of (of_disc (λ last table. MakingRefused _ _ r _ _ _ _ _ last table c.in-Err-Refused.refusal) c.in-Ok.ensures.joined (refused_at _ _ _ _ c.in-Err-Refused.field-0-is (c.in-Err-Refused.ensures.why tt c.in-Ok.disc.table refl)))))

pub returns-in-Err-Refused-clause-no_node : goal.returns-in-Err-Refused-clause-no_node
returns-in-Err-Refused-clause-no_node g c i is = c.in-Err-Refused.ensures.no_node i (refused_of _ _ _ c.in-Err-Refused.field-0-is is)
