use Rattle.std.proofs.Common.{◌||◌, ◌∙◌, ap, map}
use Rattle.std.specs.Borrow.{Bor}
use Rattle.std.specs.List.{list_any}
use Rattle.udfs_space.specs.Views.{view_by}
use Rattle.udfs_walk.specs.NodeFields.{NodeFields}
use Rattle.udfs_walk.specs.Targets.{is_icb}
use Rattle.udfs_lost.specs.FoundNames.{is_found_at}
use Rattle.udfs_lost.proofs.ToldLemmas.{any_map}
use Rattle.udfs_lost.proofs.named_entries.with_nodes.Goals as goal

pub returns-clause-value : goal.returns-clause-value
returns-clause-value g c told icb =
    let v = view_by g.B.BlockStore.states c.args.view in
    let now : Bor NodeFields → NodeFields = λ folder. folder.now in
    c.in_ok-met.ensures.value told icb ∙ ap (λ b. list_any (is_icb icb) c.args.met || b)
    (any_map now (is_found_at v c.args.lost.now icb) c.deref.result.now ∙ ap (list_any (is_found_at v c.args.lost.now icb)) (ap (map now) c.deref.ensures.value ∙ c.in_ok-folders.ensures))
