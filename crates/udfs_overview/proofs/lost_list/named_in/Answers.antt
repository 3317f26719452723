use Rattle.std.proofs.Common.{◌&&◌, ◌∙◌, ap, map, not, sym}
use Rattle.std.specs.List.{list_any}
use Rattle.udfs_space.specs.Views.{view_by}
use Rattle.udfs_walk.specs.Bare.{full_entry}
use Rattle.udfs_walk.specs.Targets.{is_icb}
use Rattle.udfs_lost.specs.FoundNames.{is_found, unplaced}
use Rattle.udfs_overview.proofs.FoundPieces.{entries_found}
use Rattle.udfs_overview.proofs.lost_list.named_in.Goals as goal

pub returns-then-form-clause-value : goal.returns-then-form-clause-value
returns-then-form-clause-value g c told icb =
    let v = view_by g.B.BlockStore.states c.args.view in
    let a = c.args in
    ap (list_any (is_icb icb)) c.none.ensures ∙ sym (ap (λ b. not b && is_found v (unplaced v a.deleted a.trees.now (map (full_entry v) a.entries.now)) a.nodes.now a.trees.now icb) c.if-form.true)

pub returns-clause-value : goal.returns-clause-value
returns-clause-value g c told icb =
    let v = view_by g.B.BlockStore.states c.args.view in
    let a = c.args in
    c.in_ok-named.ensures.value told icb ∙ ap (λ us. is_found v us a.nodes.now a.trees.now icb) (c.in_ok-lost.ensures.value told)
    ∙ entries_found v a.deleted a.nodes.now a.trees.now a.entries.now icb
    ∙ sym (ap (λ b. not b && is_found v (unplaced v a.deleted a.trees.now (map (full_entry v) a.entries.now)) a.nodes.now a.trees.now icb) c.if-form.false)
