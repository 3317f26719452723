use Rattle.std.proofs.Common.{◌∙◌, ap}
use Rattle.std.specs.Prelude.{◌++◌, codes}
use Rattle.std.specs.String.{string_bytes}
use Rattle.udfs_overview.specs.NextCommands.{forget_command, inputs_end}
use Rattle.udfs_overview.specs.Repeating.{force_words, given_now}
use Rattle.udfs_overview.proofs.Chains.{both_appended, last_appended}
use Rattle.udfs_overview.proofs.next_commands.push_forget.Goals as goal

pub returns : goal.returns
unfolding forget_command
returns c =
    let g = given_now c.args.given.now in
    let old = string_bytes c.args.text.now in
    let one = string_bytes c.push_str.new.self in
    let two = string_bytes c.push_str-2.new.self in
    let front = codes "udfsalvage forget --conflicts --out clean.tab" in
    last_appended c.push_inputs_end.result old two (string_bytes c.push_inputs_end.new.text) (front ++ force_words g.force) (inputs_end g)
    (both_appended old one two front (force_words g.force) c.in_ok-push_str.ensures.bytes (c.in_ok-push_str-2.ensures.bytes ∙ ap (λ t. one ++ t) c.force_words.ensures))
    c.push_inputs_end.ensures
