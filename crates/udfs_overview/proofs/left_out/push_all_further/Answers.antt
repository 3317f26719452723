use Rattle.std.specs.String.{string_bytes}
use Rattle.udfs_overview.specs.LeftOut.{further_type}
use Rattle.udfs_overview.proofs.Chains.{text_more_at}
use Rattle.udfs_overview.proofs.left_out.push_all_further.Goals as goal

pub loop-file_type-preserved : goal.loop-file_type-preserved
loop-file_type-preserved c =
    text_more_at further_type c.args.types.now c.loop-file_type.file_type-index 0 (string_bytes c.args.text.now) (string_bytes c.loop-file_type.text) (string_bytes c.push_further.new.text)
    c.loop-file_type-test.true c.loop-file_type.invariant c.in_ok-push_further.ensures
