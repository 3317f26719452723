use Rattle.std.proofs.Common.{◌≡◌, ◌++◌, subst}
use Rattle.std.specs.Prelude.{OnOk}
use Rattle.std.specs.String.{string_bytes}
use Rattle.udfs_overview.proofs.SummaryObjects.{remarks_pieces, three_behind}
use Rattle.udfs_overview.proofs.summary_json.push_remarks.Goals as goal

pub returns : goal.returns
returns c =
    subst (λ x. OnOk c.push_last.result (string_bytes c.push_last.new.text ≡ string_bytes c.args.text.now ++ x)) (remarks_pieces c.args.figures.now)
    (three_behind c.push_last.result _ _ _ _ _ _ _ c.in_ok-push_number.ensures c.in_ok-push_truth.ensures c.push_last.ensures)
