use Rattle.std.proofs.Common.{◌≡◌, ◌++◌, subst}
use Rattle.std.specs.Prelude.{OnOk}
use Rattle.std.specs.String.{string_bytes}
use Rattle.udfs_overview.proofs.SummaryObjects.{holes_pieces, six_behind}
use Rattle.udfs_overview.proofs.summary_json.push_holes.Goals as goal

pub returns : goal.returns
returns c =
    subst (λ x. OnOk c.push_text-2.result (string_bytes c.push_text-2.new.text ≡ string_bytes c.args.text.now ++ x)) (holes_pieces c.args.figures.now c.args.answer.now)
    (six_behind c.push_text-2.result _ _ _ _ _ _ _ _ _ _ _ _ _ c.in_ok-push_text.ensures c.in_ok-push_disc.ensures c.in_ok-push_guarantee_behind.ensures c.in_ok-push_lost_behind.ensures c.in_ok-push_profile.ensures c.push_text-2.ensures)
