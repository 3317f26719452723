use Rattle.std.proofs.Common.{◌∙◌, ◌+◌, ap, sym}
use Rattle.std.specs.Prelude.{count_by}
use Rattle.udfs_volume.specs.Answers.{Answer}
use Rattle.udfs_salvage.specs.Found.{Found, volume_now}
use Rattle.udfs_overview.specs.Streams.{entry_has_streams, has_streams, stream_count, streams_by}
use Rattle.udfs_overview.proofs.Streaming.{streams_full}
use Rattle.udfs_overview.proofs.streams.count_streams.Goals as goal

pub returns-in_ok-nameless-in-Open-clause-value : goal.returns-in_ok-nameless-in-Open-clause-value
unfolding stream_count
returns-in_ok-nameless-in-Open-clause-value g c told =
    let s = c.args.survey.now in
    let T = g.B.BlockStore.states s.table.now in
    (λ i. c.in_ok-named-in-Open.ensures.value told i + c.in_ok-nameless-in-Open.ensures.value told i)
    ∙ (λ i. count_by (has_streams (c.view_by-view.ensures.value i)) (c.deref.ensures.value i) + count_by (entry_has_streams (c.view_by-view.ensures.value i)) (c.deref-in-Open.ensures.value i))
    ∙ ap (λ (a : Answer Found). streams_by T a s.nodes.items s.unnamed.items) (sym (ap volume_now c.in-Open.is))
    ∙ sym (streams_full T (volume_now s.volume) s.nodes.items s.unnamed.items)
