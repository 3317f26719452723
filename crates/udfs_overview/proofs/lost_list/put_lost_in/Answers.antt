use Rattle.std.proofs.Common.{◌++◌, ap, map}
use Rattle.std.specs.List.{list_any}
use Rattle.std.specs.String.{string_bytes}
use Rattle.std.proofs.lemmas.Result.{err_from_is_err_and}
use Rattle.udfs_space.specs.Views.{view_by}
use Rattle.udfs_walk.specs.Bare.{full_entry}
use Rattle.udfs_walk.specs.Targets.{is_icb}
use Rattle.udfs_overview.specs.FoundLists.{found_lines}
use Rattle.udfs_overview.specs.LostLists.{Named, lost_lines}
use Rattle.udfs_salvage.proofs.Printed.{passes_two_by, stopped_first_of}
use Rattle.udfs_overview.proofs.lost_list.put_lost_in.Goals as goal

pub returns-in_err-put_by_block-clause-printed : goal.returns-in_err-put_by_block-clause-printed
returns-in_err-put_by_block-clause-printed g c told =
    let p = err_from_is_err_and c.from_residual-in_err-put_by_block.result c.from_residual-in_err-put_by_block.ensures.1 in
    let v = view_by g.B.BlockStore.states c.args.view in
    let a = c.args in
    let es = map (full_entry v) a.entries.now in
    let met : Named = λ icb. list_any (is_icb icb) c.in_ok-named.named in
    rw (p.1, p.2) (stopped_first_of _ (lost_lines a.form a.deleted v a.two met a.nodes.now es a.trees.now) (found_lines a.form a.deleted v a.two a.nodes.now es a.trees.now) _
    (ap (λ (n : Named). lost_lines a.form a.deleted v a.two n a.nodes.now es a.trees.now ++ found_lines a.form a.deleted v a.two a.nodes.now es a.trees.now) (λ i icb. c.in_ok-named.ensures.value told icb i)) (c.in_err-put_by_block.ensures.printed told))

pub returns-clause-printed : goal.returns-clause-printed
returns-clause-printed g c told =
    let W = g.W.Sink in
    let v = view_by g.B.BlockStore.states c.args.view in
    let a = c.args in
    let es = map (full_entry v) a.entries.now in
    let met : Named = λ icb. list_any (is_icb icb) c.in_ok-named.named in
    passes_two_by (W.stream c.put_found.new.sink) (string_bytes c.put_found.new.text) (lost_lines a.form a.deleted v a.two met a.nodes.now es a.trees.now) (found_lines a.form a.deleted v a.two a.nodes.now es a.trees.now) _ c.put_found.result
    (ap (λ (n : Named). lost_lines a.form a.deleted v a.two n a.nodes.now es a.trees.now ++ found_lines a.form a.deleted v a.two a.nodes.now es a.trees.now) (λ i icb. c.in_ok-named.ensures.value told icb i)) (c.in_ok-put_by_block.ensures.printed told) (c.put_found.ensures.printed told)
