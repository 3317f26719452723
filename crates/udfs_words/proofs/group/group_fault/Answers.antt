use Rattle.std.proofs.Common.{rules, ◌≡◌, Some, true, is_some, codes}
use Rattle.clap.specs.Matches.{first_value, found_of}
use Rattle.udfs_words.specs.Asking.{is_mapped}
use Rattle.udfs_words.proofs.GroupLemmas.{good}
use Rattle.udfs_words.proofs.group.group_fault.Goals as goal

pub returns : goal.returns
returns c =
    let given : first_value (found_of c.args.words.now) (codes "group") ≡ Some c.in-Some.number.now = search rules in
    let some : is_some c.size_by.result ≡ true = search rules in
    let mapped : is_mapped (found_of c.args.words.now) ≡ true = search rules in
    good (found_of c.args.words.now) c.in-Some.number.now c.size_by.result given some c.size_by.ensures mapped
