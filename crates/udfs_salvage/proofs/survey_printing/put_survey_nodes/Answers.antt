use Rattle.std.proofs.Common.{◌≡◌, ◌∙◌, ap, map, subst, sym}
use Rattle.udfs_volume.specs.Answers.{found}
use Rattle.udfs_space.specs.Views.{view_by}
use Rattle.udfs_walk.specs.Bare.{full_node}
use Rattle.udfs_salvage.specs.Found.{found_now, volume_now}
use Rattle.udfs_salvage.specs.NodeTexts.{nodes_text}
use Rattle.udfs_salvage.specs.Printing.{PutsMost}
use Rattle.udfs_salvage.specs.Surveys.{full_nodes}
use Rattle.udfs_salvage.proofs.survey_printing.put_survey_nodes.Goals as goal

pub returns-in-Open-clause-text : goal.returns-in-Open-clause-text
returns-in-Open-clause-text g c told =
    let W = g.W.Sink in
    let s = c.args.survey.now in
    let T = g.B.BlockStore.states s.table.now in
    let opened : volume_now s.volume ≡ found (found_now c.in-Open.opened) = ap volume_now c.in-Open.is in
    let listed : map (full_node (view_by g.B.BlockStore.states c.view_by-view.result)) c.deref.result.now ≡ full_nodes T (volume_now s.volume) s.nodes.items =
    ap (λ v. map (full_node v) c.deref.result.now) c.view_by-view.ensures.value
    ∙ ap (λ a. full_nodes T a c.deref.result.now) (sym opened)
    ∙ ap (full_nodes T (volume_now s.volume)) c.deref.ensures.value in
    subst (λ ns. PutsMost (W.stream c.args.sink.now) (W.stream c.put_full_nodes.new.sink) c.args.out.now c.put_full_nodes.new.out (nodes_text 0 ns) c.put_full_nodes.result)
    listed (c.put_full_nodes.ensures.text told)
