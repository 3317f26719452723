use Rattle.std.proofs.Common.{map, refl, false}
use Rattle.std.specs.Prelude.{flat_map}
use Rattle.std.specs.String.{string_bytes}
use Rattle.std.proofs.lemmas.Result.{err_from_is_err_and}
use Rattle.udfs_space.specs.Views.{view_by}
use Rattle.udfs_walk.specs.Bare.{full_entry}
use Rattle.udfs_lost.specs.LostFiles.{lost_files}
use Rattle.udfs_salvage.proofs.Printed.{passes_two_by}
use Rattle.udfs_page.specs.LostSections.{lost_files_html, lost_tree_html}
use Rattle.udfs_page.proofs.Passing.{stopped_before}
use Rattle.udfs_page.proofs.lost_sections.put_lost_in.Goals as goal

pub returns-in_err-put_trees-clause-printed : goal.returns-in_err-put_trees-clause-printed
returns-in_err-put_trees-clause-printed g c told =
    let p = err_from_is_err_and c.from_residual.result c.from_residual.ensures.1 in
    let v = view_by g.B.BlockStore.states c.args.view in
    let a = c.args in
    rw (p.1, p.2) (stopped_before _ _ _ _ (lost_files_html v a.two (lost_files v false a.trees.now (map (full_entry v) a.entries.now))) _ (c.in_err-put_trees.ensures.printed told))

pub returns-clause-printed : goal.returns-clause-printed
returns-clause-printed g c told =
    let W = g.W.Sink in
    let v = view_by g.B.BlockStore.states c.args.view in
    let a = c.args in
    passes_two_by (W.stream c.put_lost_files.new.sink) (string_bytes c.put_lost_files.new.text) (flat_map (lost_tree_html v a.two a.nodes.now) a.trees.now) (lost_files_html v a.two (lost_files v false a.trees.now (map (full_entry v) a.entries.now))) _ c.put_lost_files.result refl (c.in_ok-put_trees.ensures.printed told) (c.put_lost_files.ensures.printed told)
