use Rattle.std.proofs.Common.{◌≡◌, subst, sym}
use Rattle.udfs_salvage.specs.Found.{volume_now}
use Rattle.udfs_salvage.specs.Headline.{HeadlineBy}
use Rattle.udfs_salvage.specs.Listings.{listing_by}
use Rattle.udfs_salvage.specs.Reports.{IsReportBy}
use Rattle.udfs_salvage.specs.Surveys.{survey_by}
use Rattle.udfs_salvage.proofs.Surveying.{wants_memory}
use Rattle.udfs_salvage.proofs.surveys.survey_store.Goals as goal

pub returns-in-Ok-clause-report : goal.returns-in-Ok-clause-report
returns-in-Ok-clause-report g c told =
    let M = g.B.BlockStore.states c.args.blocks.now in
    let was = c.in_ok-listing.ensures in
    subst (IsReportBy c.args.profile M c.args.last) (sym (c.in-Ok.ensures.report told c.args.profile c.args.last (subst (λ b. IsReportBy c.args.profile (g.B.BlockStore.states b) c.args.last (listing_by g.B.BlockStore.states c.in_ok-listing.listing)) (sym was.of.0) (was.report told)))) (was.report told)

pub returns-in-Ok-clause-headline : goal.returns-in-Ok-clause-headline
returns-in-Ok-clause-headline g c told =
    let M = g.B.BlockStore.states c.args.blocks.now in
    let was = c.in_ok-listing.ensures in
    subst (HeadlineBy c.args.profile M c.args.last) (sym (c.in-Ok.ensures.report told c.args.profile c.args.last (subst (λ b. IsReportBy c.args.profile (g.B.BlockStore.states b) c.args.last (listing_by g.B.BlockStore.states c.in_ok-listing.listing)) (sym was.of.0) (was.report told)))) (was.headline told)

pub returns-in-Err-OutOfMemory-clause-refused : goal.returns-in-Err-OutOfMemory-clause-refused
returns-in-Err-OutOfMemory-clause-refused g c told =
    let M = g.B.BlockStore.states c.args.blocks.now in
    let is = c.in_ok-listing.ensures.report told in
    (is.in_range, is.nothing_past, wants_memory c.args.profile M c.args.last (volume_now c.in_ok-listing.listing.volume) is.volume_is c.in-Err-OutOfMemory.ensures.fault)

pub returns-in-Err-Unread-clause-refused : goal.returns-in-Err-Unread-clause-refused
returns-in-Err-Unread-clause-refused g c told = let is = c.in_ok-listing.ensures.report told in (is.in_range, is.nothing_past)
