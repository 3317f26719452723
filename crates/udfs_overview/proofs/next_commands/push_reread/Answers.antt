use Rattle.std.specs.Prelude.{codes}
use Rattle.std.specs.String.{string_bytes}
use Rattle.udfs_overview.specs.NextCommands.{inputs_end, reread_command}
use Rattle.udfs_overview.specs.Repeating.{disc_words, given_now}
use Rattle.udfs_overview.proofs.Chains.{four_appended}
use Rattle.udfs_overview.proofs.next_commands.push_reread.Goals as goal

pub returns : goal.returns
unfolding reread_command
returns c =
    let g = given_now c.args.given.now in
    four_appended c.push_inputs_end.result (string_bytes c.args.text.now) (string_bytes c.push_str.new.self) (string_bytes c.push_disc_words.new.text) (string_bytes c.push_str-2.new.self)
    (string_bytes c.push_inputs_end.new.text) (codes "udfsalvage reread") (disc_words g c.args.profile c.args.last) (codes " --group 16 --mapfile want.map") (inputs_end g)
    c.in_ok-push_str.ensures.bytes c.in_ok-push_disc_words.ensures c.in_ok-push_str-2.ensures.bytes c.push_inputs_end.ensures
