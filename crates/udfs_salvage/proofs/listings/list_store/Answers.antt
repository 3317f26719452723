use Rattle.std.proofs.Common.{subst}
use Rattle.std.proofs.lemmas.Result.{IfErr-weaker, IfOk-weaker}
use Rattle.udfs_salvage.specs.Headline.{HeadlineBy}
use Rattle.udfs_salvage.specs.Listings.{listing_by}
use Rattle.udfs_salvage.specs.Reports.{IsLookRefused, IsReportBy}
use Rattle.udfs_salvage.specs.Stores.{IfTold, IsStoreRefused}
use Rattle.udfs_salvage.proofs.Headlines.{reports_keep_it}
use Rattle.udfs_salvage.proofs.StoreAnswers.{look_store, unfit_store}
use Rattle.udfs_salvage.proofs.listings.list_store.Goals as goal

pub returns-in-Ok-clause-headline : goal.returns-in-Ok-clause-headline
returns-in-Ok-clause-headline g c =
    let M = g.B.BlockStore.states c.args.blocks.now in
    IfOk-weaker c.look.result (λ r. g.B.BlockStore.tells → IsReportBy c.args.profile M c.args.last (listing_by g.B.BlockStore.states r)) (λ r. g.B.BlockStore.tells → HeadlineBy c.args.profile M c.args.last (listing_by g.B.BlockStore.states r))
    (λ r h told. reports_keep_it c.args.profile M c.args.last (listing_by g.B.BlockStore.states r) (h told)) c.look.ensures.report

pub returns-in-Ok-clause-refused : goal.returns-in-Ok-clause-refused
returns-in-Ok-clause-refused g c =
    let M = g.B.BlockStore.states c.args.blocks.now in
    IfErr-weaker c.look.result (λ e. g.B.BlockStore.tells → IfTold (IsLookRefused c.args.profile M c.args.last) e) (λ e. g.B.BlockStore.tells → IsStoreRefused c.args.profile M c.args.last e)
    (λ e h told. look_store c.args.profile M c.args.last c.in-Ok.ensures.range (c.in-Ok.ensures.good told) e (h told)) c.look.ensures.refused

pub returns-in-Err-clause-refused : goal.returns-in-Err-clause-refused
returns-in-Err-clause-refused g c told = unfit_store c.args.profile (g.B.BlockStore.states c.args.blocks.now) c.args.last c.in-Err.error (c.in-Err.ensures.bad told)

pub returns-in-Ok-clause-range : goal.returns-in-Ok-clause-range
returns-in-Ok-clause-range g c = IfOk-weaker c.look.result _ _ (λ r of. c.in-Ok.ensures.range) c.look.ensures.of
