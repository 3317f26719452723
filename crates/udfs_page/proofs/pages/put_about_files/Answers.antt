use Rattle.std.proofs.Common.{◌∙◌, ap, map, subst, sym}
use Rattle.std.specs.String.{string_bytes}
use Rattle.udfs_volume.specs.Answers.{Answer}
use Rattle.udfs_space.specs.Places.{view}
use Rattle.udfs_walk.specs.Bare.{full_node}
use Rattle.udfs_salvage.specs.Found.{Found, found_now, volume_now}
use Rattle.udfs_salvage.specs.StorePrinting.{PassesOnBy}
use Rattle.udfs_salvage.specs.Surveys.{full_nodes, survey_by}
use Rattle.udfs_page.specs.Pages.{files_html}
use Rattle.udfs_page.specs.Trees.{tree_html}
use Rattle.udfs_page.proofs.pages.put_about_files.Goals as goal

pub returns-in-Open-clause-printed : goal.returns-in-Open-clause-printed
returns-in-Open-clause-printed g c told =
    let W = g.W.Sink in
    let s = c.args.survey.now in
    let T = g.B.BlockStore.states s.table.now in
    let opened = ap volume_now c.in-Open.is in
    subst (λ t. PassesOnBy (W.stream c.args.sink.now) (W.stream c.put_tree.new.sink) (string_bytes c.args.text.now) (string_bytes c.put_tree.new.text) t c.put_tree.result)
    (ap (λ v. tree_html v (map (full_node v) c.deref.result.now)) c.view_by-view.ensures.value
    ∙ ap (tree_html (view T (found_now c.in-Open.opened).space))
    (ap (λ (a : Answer Found). full_nodes T a c.deref.result.now) (sym opened) ∙ ap (full_nodes T (volume_now s.volume)) c.deref.ensures.value)
    ∙ ap (λ (a : Answer Found). files_html T a (survey_by g.B.BlockStore.states s)) (sym opened)) (c.put_tree.ensures.printed told)
