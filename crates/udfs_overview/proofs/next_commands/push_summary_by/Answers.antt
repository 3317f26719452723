use Rattle.std.specs.Prelude.{◌++◌, codes}
use Rattle.std.specs.String.{string_bytes}
use Rattle.udfs_overview.specs.NextCommands.{inputs_end, summary_command}
use Rattle.udfs_overview.specs.Repeating.{disc_words, given_now}
use Rattle.udfs_overview.proofs.Chains.{both_appended, last_appended}
use Rattle.udfs_overview.proofs.next_commands.push_summary_by.Goals as goal

pub returns : goal.returns
unfolding summary_command
returns c =
    let g = given_now c.args.given.now in
    let old = string_bytes c.args.text.now in
    let two = string_bytes c.push_disc_words.new.text in
    let words = disc_words g c.args.profile c.args.last in
    last_appended c.push_inputs_end.result old two (string_bytes c.push_inputs_end.new.text) (codes "udfsalvage summary" ++ words) (inputs_end g)
    (both_appended old (string_bytes c.push_str.new.self) two (codes "udfsalvage summary") words c.in_ok-push_str.ensures.bytes c.in_ok-push_disc_words.ensures)
    c.push_inputs_end.ensures
