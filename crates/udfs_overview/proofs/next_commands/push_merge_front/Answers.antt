use Rattle.std.proofs.Common.{◌∙◌, ap}
use Rattle.std.specs.Prelude.{◌++◌, codes, is_ok, if◌then◌else◌}
use Rattle.std.specs.String.{string_bytes}
use Rattle.udfs_overview.specs.NextCommands.{merge_front, table_path}
use Rattle.udfs_overview.specs.Repeating.{force_words, given_now, shell_path}
use Rattle.udfs_overview.proofs.Chains.{all_appended}
use Rattle.udfs_overview.proofs.next_commands.push_merge_front.Goals as goal

pub returns : goal.returns
unfolding merge_front
returns c =
    let g = given_now c.args.given.now in
    let one = string_bytes c.push_str.new.self in
    let two = string_bytes c.push_shell_path.new.text in
    all_appended c.push_str-2.result (string_bytes c.args.text.now) one two (string_bytes c.push_str-2.new.self)
    (codes "udfsalvage merge --out ") (shell_path (table_path g.files)) (force_words g.force)
    c.in_ok-push_str.ensures.bytes
    (c.in_ok-push_shell_path.ensures ∙ ap (λ p. one ++ shell_path p) c.table_path.ensures)
    (c.push_str-2.ensures.bytes ∙ ap (λ t. if is_ok c.push_str-2.result then two ++ t else two) c.force_words.ensures)
