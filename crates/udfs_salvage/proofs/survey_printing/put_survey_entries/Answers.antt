use Rattle.std.proofs.Common.{◌≡◌, ◌∙◌, ap, map, subst, sym}
use Rattle.udfs_volume.specs.Answers.{found}
use Rattle.udfs_space.specs.Views.{view_by}
use Rattle.udfs_walk.specs.Bare.{full_entry}
use Rattle.udfs_salvage.specs.Found.{found_now, volume_now}
use Rattle.udfs_salvage.specs.NodeTexts.{unnamed_texts}
use Rattle.udfs_salvage.specs.Printing.{PutsMost}
use Rattle.udfs_salvage.specs.Surveys.{full_entries}
use Rattle.udfs_salvage.proofs.survey_printing.put_survey_entries.Goals as goal

pub returns-in-Open-clause-text : goal.returns-in-Open-clause-text
returns-in-Open-clause-text g c told =
    let W = g.W.Sink in
    let s = c.args.survey.now in
    let T = g.B.BlockStore.states s.table.now in
    let opened : volume_now s.volume ≡ found (found_now c.in-Open.opened) = ap volume_now c.in-Open.is in
    let listed : map (full_entry (view_by g.B.BlockStore.states c.view_by-view.result)) c.deref.result.now ≡ full_entries T (volume_now s.volume) s.unnamed.items =
    ap (λ v. map (full_entry v) c.deref.result.now) c.view_by-view.ensures.value
    ∙ ap (λ a. full_entries T a c.deref.result.now) (sym opened)
    ∙ ap (full_entries T (volume_now s.volume)) c.deref.ensures.value in
    subst (λ t. PutsMost (W.stream c.args.sink.now) (W.stream c.put_full_entries.new.sink) c.args.out.now c.put_full_entries.new.out t c.put_full_entries.result)
    (ap (unnamed_texts c.has_two-two.result) listed ∙ ap (λ b. unnamed_texts b (full_entries T (volume_now s.volume) s.unnamed.items)) c.has_two-two.ensures) (c.put_full_entries.ensures.text told)
