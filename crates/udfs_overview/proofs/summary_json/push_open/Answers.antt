use Rattle.std.proofs.Common.{◌≡◌, ◌++◌, subst}
use Rattle.std.specs.Prelude.{OnOk}
use Rattle.std.specs.String.{string_bytes}
use Rattle.udfs_volume.specs.LayoutParts.{parts_now}
use Rattle.udfs_overview.proofs.SummaryObjects.{four_behind, open_pieces}
use Rattle.udfs_overview.proofs.summary_json.push_open.Goals as goal

pub returns : goal.returns
returns c =
    subst (λ x. OnOk c.push_ends.result (string_bytes c.push_ends.new.text ≡ string_bytes c.args.text.now ++ x)) (open_pieces c.args.figures.now (parts_now c.args.parts.now) c.args.answer.now)
    (four_behind c.push_ends.result _ _ _ _ _ _ _ _ _ c.in_ok-push_whole.ensures c.in_ok-push_nodes.ensures c.in_ok-push_names.ensures c.push_ends.ensures)
