use Rattle.std.specs.Prelude.{codes}
use Rattle.std.specs.String.{string_bytes}
use Rattle.udfs_overview.specs.VolumeLines.{holes_text}
use Rattle.udfs_overview.proofs.Chains.{all_appended}
use Rattle.udfs_overview.proofs.volume_lines.push_closed.Goals as goal

pub returns : goal.returns
returns c =
    all_appended c.push_str-2.result (string_bytes c.args.text.now) (string_bytes c.push_str.new.self) (string_bytes c.push_holes.new.text) (string_bytes c.push_str-2.new.self)
    (codes "does not open: ") (holes_text c.args.blocks.now) (codes "\n") c.in_ok-push_str.ensures.bytes c.in_ok-push_holes.ensures c.push_str-2.ensures.bytes
