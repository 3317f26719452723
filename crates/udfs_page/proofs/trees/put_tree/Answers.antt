use Rattle.std.specs.String.{string_bytes}
use Rattle.udfs_page.proofs.Passing.{pushed_then_by}
use Rattle.udfs_page.proofs.trees.put_tree.Goals as goal

pub returns-clause-printed : goal.returns-clause-printed
returns-clause-printed g c told =
    let W = g.W.Sink in
    pushed_then_by _ (W.stream c.put_nodes.new.sink) _ _ (string_bytes c.put_nodes.new.text) _ _ c.put_nodes.result c.in_ok-push_markup.ensures (c.put_nodes.ensures.printed told)
