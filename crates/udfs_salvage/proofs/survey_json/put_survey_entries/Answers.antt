use Rattle.std.proofs.Common.{◌≡◌, ◌∙◌, ap}
use Rattle.std.specs.String.{string_bytes}
use Rattle.serde_json.specs.Written.{compact_text, has_float}
use Rattle.udfs_volume.specs.Answers.{found}
use Rattle.udfs_walk.specs.Bare.{full_entry}
use Rattle.udfs_salvage.specs.Found.{found_now, volume_now}
use Rattle.udfs_salvage.specs.JsonNodes.{list_data, unnamed_data}
use Rattle.udfs_salvage.specs.Surveys.{full_entries, survey_by}
use Rattle.udfs_salvage.proofs.JsonFloats.{unnamed_none, none_in}
use Rattle.udfs_salvage.proofs.JsonPieces.{survey_entries}
use Rattle.udfs_salvage.proofs.Printed.{passes_same_by}
use Rattle.udfs_salvage.proofs.survey_json.put_survey_entries.Goals as goal

pub put_value-requires : goal.put_value-requires
put_value-requires g c = ap has_float c.in_ok-value-in_default.ensures ∙ none_in (unnamed_data c.has_two-two.result) c.deref-in_default.result.now (unnamed_none c.has_two-two.result)

pub returns-in-Open-clause-text : goal.returns-in-Open-clause-text
returns-in-Open-clause-text g c told =
    let W = g.W.Sink in
    let s = c.args.survey.now in
    let opened : volume_now s.volume ≡ found (found_now c.in-Open.opened) = ap volume_now c.in-Open.is in
    passes_same_by (W.stream c.args.sink.now) (W.stream c.put_entries.new.sink) (string_bytes c.args.text.now) (string_bytes c.put_entries.new.text) _ _ c.put_entries.result
    (ap (λ v. compact_text (list_data (λ u. unnamed_data c.has_two-two.result (full_entry v u)) c.deref.result.now)) c.view_by-view.ensures.value
    ∙ survey_entries (g.B.BlockStore.states s.table.now) (volume_now s.volume) (found_now c.in-Open.opened) c.has_two-two.result c.deref.result.now opened
    ∙ ap (λ xs. compact_text (list_data (unnamed_data c.has_two-two.result) (full_entries (g.B.BlockStore.states s.table.now) (volume_now s.volume) xs))) c.deref.ensures.value
    ∙ ap (λ b. compact_text (list_data (unnamed_data b) (survey_by g.B.BlockStore.states s).unnamed)) c.has_two-two.ensures) (c.put_entries.ensures.text told)
