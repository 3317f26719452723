use Rattle.std.specs.Prelude.{◌++◌, codes}
use Rattle.std.specs.String.{string_bytes}
use Rattle.udfs_salvage.specs.Texts.{revision_text}
use Rattle.udfs_overview.specs.Widenings.{recorder_text}
use Rattle.udfs_overview.proofs.Chains.{four_appended, where_appended}
use Rattle.udfs_overview.proofs.widenings.push_reads.Goals as goal

pub returns : goal.returns
returns c =
    let three = string_bytes c.push_recorder.new.text in
    let new = string_bytes c.push_str-2.new.self in
    let end = codes ": add --profile wide" in
    four_appended c.push_str-2.result (string_bytes c.args.text.now) (string_bytes c.push_str.new.self) (string_bytes c.push_revision_name.new.text) three new
    (codes "UDF ") (revision_text c.args.revision) (recorder_text c.args.revision) end
    c.in_ok-push_str.ensures.bytes c.in_ok-push_revision_name.ensures c.in_ok-push_recorder.ensures
    (where_appended c.push_str-2.result new (three ++ end) three c.push_str-2.ensures.bytes)
