use Rattle.std.proofs.Common.{Err, Ok}
use Rattle.std.specs.String.{string_bytes}
use Rattle.std.proofs.lemmas.Result.{err_from_is_err_and}
use Rattle.udfs_salvage.proofs.PublicLaws.{prints_then}
use Rattle.udfs_salvage.specs.Surveys.{survey_by}
use Rattle.udfs_overview.specs.Repeating.{given_now}
use Rattle.udfs_page.specs.Naming.{called_now}
use Rattle.udfs_page.specs.Pages.{page_html}
use Rattle.udfs_page.proofs.Passing.{stopped_first}
use Rattle.udfs_page.proofs.pages.write_page_by.Goals as goal

pub returns-in_err-put_page-clause-printed : goal.returns-in_err-put_page-clause-printed
returns-in_err-put_page-clause-printed g c told t holds =
    let p = err_from_is_err_and c.from_residual.result c.from_residual.ensures.1 in
    let s = c.args.survey.now in
    rw (p.1, p.2) (stopped_first (string_bytes c.new-text.result) (page_html (given_now c.args.given.now) (called_now c.args.called.now) s.profile t s.last (survey_by g.B.BlockStore.states s) c.args.answer.now) c.new-text.ensures.bytes (c.in_err-put_page.ensures.printed told t holds))

pub returns-in_err-flush-clause-printed : goal.returns-in_err-flush-clause-printed
returns-in_err-flush-clause-printed g c told t holds =
    let W = g.W.Sink in
    let p = err_from_is_err_and c.from_residual-in_err-flush.result c.from_residual-in_err-flush.ensures.1 in
    rw (p.1, p.2) (prints_then {X = Unit {0}} (W.stream c.flush.new.sink) (Err c.in_err-flush.field-0.0) c.new-text.ensures.bytes (c.in_ok-put_page.ensures.printed told t holds) c.in_err-flush.ensures.written)

pub returns-clause-printed : goal.returns-clause-printed
returns-clause-printed g c told t holds =
    let W = g.W.Sink in
    prints_then {X = Unit {0}} (W.stream c.flush.new.sink) (Ok tt) c.new-text.ensures.bytes (c.in_ok-put_page.ensures.printed told t holds) c.in_ok-flush.ensures.written
