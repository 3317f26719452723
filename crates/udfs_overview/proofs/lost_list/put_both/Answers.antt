use Rattle.std.proofs.Common.{refl}
use Rattle.std.specs.String.{string_bytes}
use Rattle.std.proofs.lemmas.Result.{err_from_is_err_and}
use Rattle.udfs_salvage.specs.Surveys.{survey_by}
use Rattle.udfs_overview.specs.FullLists.{lost_text}
use Rattle.udfs_overview.specs.NodeLists.{list_text}
use Rattle.udfs_overview.specs.Searched.{searched_now}
use Rattle.udfs_salvage.proofs.Printed.{passes_two_by, stopped_first_of}
use Rattle.udfs_overview.proofs.lost_list.put_both.Goals as goal

pub returns-in_err-put_list-clause-printed : goal.returns-in_err-put_list-clause-printed
returns-in_err-put_list-clause-printed g c told =
    let p = err_from_is_err_and c.from_residual.result c.from_residual.ensures.1 in
    let s = c.args.survey.now in
    let lost = c.args.lost.now in
    rw (p.1, p.2) (stopped_first_of _ (list_text c.args.form (g.B.BlockStore.states s.table.now) (survey_by g.B.BlockStore.states s)) (lost_text c.args.form c.args.deleted (searched_now g.B.BlockStore.states s lost) (survey_by g.B.BlockStore.states s).nodes lost.trees.items) _ refl (c.in_err-put_list.ensures.printed told))

pub returns-clause-printed : goal.returns-clause-printed
returns-clause-printed g c told =
    let W = g.W.Sink in
    let s = c.args.survey.now in
    let lost = c.args.lost.now in
    passes_two_by (W.stream c.put_lost.new.sink) (string_bytes c.put_lost.new.text) (list_text c.args.form (g.B.BlockStore.states s.table.now) (survey_by g.B.BlockStore.states s)) (lost_text c.args.form c.args.deleted (searched_now g.B.BlockStore.states s lost) (survey_by g.B.BlockStore.states s).nodes lost.trees.items) _ c.put_lost.result
    refl (c.in_ok-put_list.ensures.printed told) (c.put_lost.ensures.printed told)
