use Rattle.std.specs.Prelude.{codes}
use Rattle.std.specs.String.{string_bytes}
use Rattle.udfs_overview.specs.Sentences.{counted}
use Rattle.udfs_overview.proofs.Chains.{last_appended}
use Rattle.udfs_overview.proofs.moved_tags.push_many_moved.Goals as goal

pub returns : goal.returns
returns c =
    last_appended c.push_counted.result (string_bytes c.args.text.now) (string_bytes c.push_str.new.self) (string_bytes c.push_counted.new.text)
    (codes "Tags       ") (counted c.args.folders (codes " folders have tags that name another place\n")) c.in_ok-push_str.ensures.bytes c.push_counted.ensures
