use Rattle.std.proofs.Common.{◌≡◌, rules, subst}
use Rattle.std.specs.String.{string_bytes}
use Rattle.udfs_space.specs.Views.{view_by}
use Rattle.udfs_salvage.specs.StorePrinting.{PassesOnBy}
use Rattle.udfs_overview.specs.FoundLists.{folders_found, full_names, tree_found}
use Rattle.udfs_overview.specs.LostLists.{lost_word}
use Rattle.udfs_overview.proofs.found_list.put_tree.Goals as goal

pub returns-clause-printed : goal.returns-clause-printed
unfolding tree_found
returns-clause-printed g c told =
    let W = g.W.Sink in
    let a = c.args in
    let names = full_names (view_by g.B.BlockStore.states a.view) a.lost.now in
    let word : c.deref.result.now ≡ lost_word a.two a.tree.now.folder = search rules in
    let nodes : c.deref-2.result.now ≡ a.tree.now.nodes.items = search rules in
    subst (λ w. PassesOnBy (W.stream a.sink.now) (W.stream c.put_nodes.new.sink) (string_bytes a.text.now) (string_bytes c.put_nodes.new.text) (folders_found a.form (view_by g.B.BlockStore.states a.view) a.two names w a.tree.now.nodes.items) c.put_nodes.result) word
    (subst (λ ns. PassesOnBy (W.stream a.sink.now) (W.stream c.put_nodes.new.sink) (string_bytes a.text.now) (string_bytes c.put_nodes.new.text) (folders_found a.form (view_by g.B.BlockStore.states a.view) a.two names c.deref.result.now ns) c.put_nodes.result) nodes (c.put_nodes.ensures.printed told))
