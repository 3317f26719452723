use Rattle.std.proofs.Common.{◌∙◌, ◌++◌, ap, ℕ}
use Rattle.std.specs.Prelude.{codes}
use Rattle.std.specs.String.{string_bytes}
use Rattle.udfs_overview.specs.Figures.{grouped}
use Rattle.udfs_overview.proofs.Chains.{all_appended}
use Rattle.udfs_overview.proofs.volume_lines.push_before.Goals as goal

pub returns : goal.returns
returns c =
    all_appended c.push_str-2.result (string_bytes c.args.text.now) (string_bytes c.push_str.new.self) (string_bytes c.push_grouped.new.text) (string_bytes c.push_str-2.new.self)
    (codes "           the volume ends before block ") (grouped c.args.end) (codes ": is the size of the disc right?\n") c.in_ok-push_str.ensures.bytes (c.in_ok-push_grouped.ensures ∙ ap (λ (n : ℕ). string_bytes c.push_str.new.self ++ grouped n) c.from.ensures) c.push_str-2.ensures.bytes
