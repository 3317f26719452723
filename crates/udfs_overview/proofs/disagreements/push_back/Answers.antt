use Rattle.std.specs.Prelude.{codes, decimal}
use Rattle.std.specs.String.{string_bytes}
use Rattle.udfs_overview.specs.Disagreements.{anchors_back}
use Rattle.udfs_overview.proofs.Chains.{all_appended}
use Rattle.udfs_overview.proofs.disagreements.push_back.Goals as goal

pub returns : goal.returns
unfolding anchors_back
returns c =
    all_appended c.push_str-2.result (string_bytes c.args.text.now) (string_bytes c.push_str.new.self) (string_bytes c.push_decimal.new.text) (string_bytes c.push_str-2.new.self)
    (codes " opens another state of the disc than block ") (decimal c.args.other) (codes ": the volume is not lawful, and the guarantee does not hold for it")
    c.in_ok-push_str.ensures.bytes c.in_ok-push_decimal.ensures c.push_str-2.ensures.bytes
