use Rattle.std.proofs.Common.{rules, ◌≡◌, Some, codes}
use Rattle.clap.specs.Matches.{first_value, found_of}
use Rattle.udfs_words.proofs.AskingLemmas.{given_size}
use Rattle.udfs_words.proofs.last.asked_size.Goals as goal

pub returns-in-Some : goal.returns-in-Some
returns-in-Some c =
    let given : first_value (found_of c.args.words.now) (codes "size") ≡ Some c.in-Some.size.now = search rules in
    given_size (found_of c.args.words.now) c.in-Some.size.now c.size_in.result given c.size_in.ensures
