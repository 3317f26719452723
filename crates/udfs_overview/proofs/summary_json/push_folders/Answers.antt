use Rattle.std.proofs.Common.{◌≡◌, ◌++◌, subst}
use Rattle.std.specs.Prelude.{OnOk}
use Rattle.std.specs.String.{string_bytes}
use Rattle.udfs_overview.proofs.SummaryObjects.{folders_pieces, two_behind}
use Rattle.udfs_overview.proofs.summary_json.push_folders.Goals as goal

pub returns : goal.returns
returns c =
    subst (λ x. OnOk c.push_last.result (string_bytes c.push_last.new.text ≡ string_bytes c.args.text.now ++ x)) (folders_pieces c.args.tally.now)
    (two_behind c.push_last.result _ _ _ _ _ c.in_ok-push_number.ensures c.push_last.ensures)
