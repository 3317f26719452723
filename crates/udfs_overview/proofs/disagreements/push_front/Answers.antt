use Rattle.std.specs.Prelude.{codes, decimal}
use Rattle.std.specs.String.{string_bytes}
use Rattle.udfs_overview.specs.Disagreements.{anchors_front}
use Rattle.udfs_overview.proofs.Chains.{last_appended}
use Rattle.udfs_overview.proofs.disagreements.push_front.Goals as goal

pub returns : goal.returns
unfolding anchors_front
returns c =
    last_appended c.push_decimal.result (string_bytes c.args.text.now) (string_bytes c.push_str.new.self) (string_bytes c.push_decimal.new.text)
    (codes "anchors differ: block ") (decimal c.args.one) c.in_ok-push_str.ensures.bytes c.push_decimal.ensures
