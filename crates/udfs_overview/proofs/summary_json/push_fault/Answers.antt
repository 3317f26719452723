use Rattle.std.proofs.Common.{◌≡◌, ◌++◌, subst}
use Rattle.std.specs.Prelude.{OnOk}
use Rattle.std.specs.String.{string_bytes}
use Rattle.udfs_volume.specs.FaultNames.{volume_fault_name}
use Rattle.udfs_overview.proofs.SummaryObjects.{fault_pieces, seven_behind}
use Rattle.udfs_overview.proofs.summary_json.push_fault.Goals as goal

pub returns : goal.returns
returns c =
    subst (λ x. OnOk c.push_text-2.result (string_bytes c.push_text-2.new.text ≡ string_bytes c.args.text.now ++ x)) (fault_pieces c.args.figures.now (volume_fault_name c.args.fault) c.args.answer.now)
    (seven_behind c.push_text-2.result _ _ _ _ _ _ _ _ _ _ _ _ _ _ _ c.in_ok-push_text.ensures c.in_ok-push_disc.ensures c.in_ok-push_fault_name.ensures c.in_ok-push_guarantee_behind.ensures c.in_ok-push_lost_behind.ensures c.in_ok-push_profile.ensures c.push_text-2.ensures)
