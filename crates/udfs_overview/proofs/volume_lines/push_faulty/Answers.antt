use Rattle.std.proofs.Common.{◌++◌, ap, ◌∙◌}
use Rattle.std.specs.Prelude.{codes}
use Rattle.std.specs.String.{string_bytes}
use Rattle.udfs_overview.specs.VolumeLines.{fault_words}
use Rattle.udfs_overview.proofs.Chains.{all_appended}
use Rattle.udfs_overview.proofs.volume_lines.push_faulty.Goals as goal

pub returns : goal.returns
returns c =
    all_appended c.push_str-3.result (string_bytes c.args.text.now) (string_bytes c.push_str.new.self) (string_bytes c.push_str-2.new.self) (string_bytes c.push_str-3.new.self)
    (codes "does not open: ") (fault_words c.args.fault) (codes "\n") c.in_ok-push_str.ensures.bytes
    (c.in_ok-push_str-2.ensures.bytes ∙ ap (λ t. string_bytes c.push_str.new.self ++ t) c.fault_words.ensures) c.push_str-3.ensures.bytes
