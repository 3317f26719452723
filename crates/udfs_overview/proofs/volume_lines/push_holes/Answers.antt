use Rattle.std.proofs.Common.{◌≡◌, ◌++◌, subst, arith, List, ℕ}
use Rattle.std.specs.Prelude.{codes, OnOk}
use Rattle.std.specs.String.{string_bytes}
use Rattle.udfs_overview.specs.VolumeLines.{numbers_text}
use Rattle.udfs_overview.proofs.Chains.{all_appended}
use Rattle.udfs_overview.proofs.HoleTexts.{several}
use Rattle.udfs_overview.proofs.volume_lines.push_holes.Goals as goal

pub returns-in_ok-push_numbers-in_default : goal.returns-in_ok-push_numbers-in_default
returns-in_ok-push_numbers-in_default c =
    let most = c.in_default.len_at_least in
    subst (λ (said : List ℕ). OnOk c.push_str-in_default-2.result (string_bytes c.push_str-in_default-2.new.self ≡ string_bytes c.args.text.now ++ said)) (several c.args.blocks.now (omega (arith, most)))
    (all_appended c.push_str-in_default-2.result (string_bytes c.args.text.now) (string_bytes c.push_str-in_default.new.self) (string_bytes c.push_numbers.new.text) (string_bytes c.push_str-in_default-2.new.self)
    (codes "at least one of the blocks ") (numbers_text c.args.blocks.now) (codes " is needed") c.in_ok-push_str-in_default.ensures.bytes c.in_ok-push_numbers-in_default.ensures c.push_str-in_default-2.ensures.bytes)
