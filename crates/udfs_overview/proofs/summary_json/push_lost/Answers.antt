use Rattle.std.proofs.Common.{◌≡◌, ◌++◌, subst}
use Rattle.std.specs.Prelude.{OnOk}
use Rattle.std.specs.String.{string_bytes}
use Rattle.udfs_overview.proofs.SummaryObjects.{lost_pieces, seven_behind}
use Rattle.udfs_overview.proofs.summary_json.push_lost.Goals as goal

pub returns : goal.returns
returns c =
    subst (λ x. OnOk c.push_last.result (string_bytes c.push_last.new.text ≡ string_bytes c.args.text.now ++ x)) (lost_pieces c.args.lost.now)
    (seven_behind c.push_last.result _ _ _ _ _ _ _ _ _ _ _ _ _ _ _ c.in_ok-push_number.ensures c.in_ok-push_number-2.ensures c.in_ok-push_number-3.ensures c.in_ok-push_truth.ensures c.in_ok-push_number-4.ensures c.in_ok-push_number-5.ensures c.push_last.ensures)
