use Rattle.std.proofs.Common.{◌≡◌, ◌∙◌, ap, false}
use Rattle.std.specs.String.{string_bytes}
use Rattle.serde_json.specs.Written.{compact_text, has_float}
use Rattle.udfs_volume.specs.Answers.{found}
use Rattle.udfs_walk.specs.Bare.{full_node}
use Rattle.udfs_salvage.specs.Found.{found_now, volume_now}
use Rattle.udfs_salvage.specs.JsonNodes.{list_data, node_data, node_in}
use Rattle.udfs_salvage.specs.JsonReports.{nodes_data}
use Rattle.udfs_salvage.specs.Surveys.{full_nodes}
use Rattle.udfs_salvage.proofs.JsonFloats.{node_none, none_in}
use Rattle.udfs_salvage.proofs.JsonPieces.{survey_nodes}
use Rattle.udfs_salvage.proofs.Printed.{passes_same_by}
use Rattle.udfs_salvage.proofs.survey_json.put_survey_nodes.Goals as goal

pub put_value-requires : goal.put_value-requires
put_value-requires g c = ap has_float c.in_ok-value-in_default.ensures ∙ none_in (node_data false) c.deref-in_default.result.now (node_none false)

pub returns-in-Open-clause-text : goal.returns-in-Open-clause-text
returns-in-Open-clause-text g c told =
    let W = g.W.Sink in
    let s = c.args.survey.now in
    let opened : volume_now s.volume ≡ found (found_now c.in-Open.opened) = ap volume_now c.in-Open.is in
    passes_same_by (W.stream c.args.sink.now) (W.stream c.put_nodes.new.sink) (string_bytes c.args.text.now) (string_bytes c.put_nodes.new.text) _ _ c.put_nodes.result
    (ap (λ v. compact_text (list_data (λ n. node_in s.profile v (full_node v n)) c.deref.result.now)) c.view_by-view.ensures.value
    ∙ survey_nodes s.profile (g.B.BlockStore.states s.table.now) (volume_now s.volume) (found_now c.in-Open.opened) c.deref.result.now opened ∙ ap (λ xs. compact_text (nodes_data s.profile (g.B.BlockStore.states s.table.now) (volume_now s.volume) (full_nodes (g.B.BlockStore.states s.table.now) (volume_now s.volume) xs))) c.deref.ensures.value) (c.put_nodes.ensures.text told)
