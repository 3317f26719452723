use Rattle.std.proofs.Common.{subst}
use Rattle.udfs_lattice.specs.Volumes.{Blocks}
use Rattle.udfs_salvage.specs.Headline.{HeadlineBy}
use Rattle.udfs_salvage.specs.Surveys.{survey_by}
use Rattle.udfs_reports.proofs.StoreListings.{untold_by}
use Rattle.udfs_salvage.proofs.StoreAnswers.{states_same}
use Rattle.udfs_reports.proofs.report.surveyed_in.Goals as goal

pub returns-in-Ok-clause-headline : goal.returns-in-Ok-clause-headline
returns-in-Ok-clause-headline g c told t holds =
    let same = states_same (g.B.BlockStore.states c.args.blocks.now) t (g.met.B.ReportStore.held c.args.blocks.now t holds) in
    subst (λ (bs : Blocks). HeadlineBy c.args.profile bs c.args.last (survey_by g.B.BlockStore.states c.in-Ok.survey)) same (c.in-Ok.ensures.headline told)

pub returns-in-Err-clause-refused : goal.returns-in-Err-clause-refused
returns-in-Err-clause-refused g c told t holds =
    let same = states_same (g.B.BlockStore.states c.args.blocks.now) t (g.met.B.ReportStore.held c.args.blocks.now t holds) in
    untold_by c.args.profile (g.B.BlockStore.states c.args.blocks.now) t c.args.last c.in-Err.why same (c.in-Err.ensures.refused told)
