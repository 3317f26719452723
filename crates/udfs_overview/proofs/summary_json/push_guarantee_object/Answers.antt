use Rattle.std.proofs.Common.{◌≡◌, ◌++◌, subst}
use Rattle.std.specs.Prelude.{OnOk}
use Rattle.std.specs.String.{string_bytes}
use Rattle.udfs_overview.proofs.SummaryObjects.{four_behind, guarantee_pieces}
use Rattle.udfs_overview.proofs.summary_json.push_guarantee_object.Goals as goal

pub returns : goal.returns
returns c =
    subst (λ x. OnOk c.push_text.result (string_bytes c.push_text.new.text ≡ string_bytes c.args.text.now ++ x)) (guarantee_pieces c.args.answer.now)
    (four_behind c.push_text.result _ _ _ _ _ _ _ _ _ c.in_ok-push_open_count.ensures c.in_ok-push_state.ensures c.in_ok-push_told.ensures c.push_text.ensures)
