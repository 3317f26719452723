use Rattle.std.specs.String.{string_bytes}
use Rattle.udfs_page.proofs.Passing.{pushed_then_by}
use Rattle.udfs_page.proofs.lost_sections.put_section.Goals as goal

pub returns-clause-printed : goal.returns-clause-printed
returns-clause-printed g c told =
    let W = g.W.Sink in
    pushed_then_by _ (W.stream c.put_found.new.sink) _ _ (string_bytes c.put_found.new.text) _ _ c.put_found.result c.in_ok-push_lost_front.ensures (c.put_found.ensures.printed told)
