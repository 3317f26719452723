use Rattle.std.specs.Prelude.{codes}
use Rattle.std.specs.String.{string_bytes}
use Rattle.udfs_overview.specs.Sentences.{counted}
use Rattle.udfs_overview.proofs.Chains.{last_appended}
use Rattle.udfs_overview.proofs.streams.push_many_streams.Goals as goal

pub returns : goal.returns
returns c =
    last_appended c.push_counted.result (string_bytes c.args.text.now) (string_bytes c.push_str.new.self) (string_bytes c.push_counted.new.text)
    (codes "Streams    ") (counted c.args.files (codes " files with named streams, which are ignored\n")) c.in_ok-push_str.ensures.bytes c.push_counted.ensures
