use Rattle.std.specs.String.{string_bytes}
use Rattle.udfs_overview.specs.Repeating.{escaped_byte}
use Rattle.udfs_overview.proofs.Chains.{text_more_at}
use Rattle.udfs_overview.proofs.repeating.push_escaped_bytes.Goals as goal

pub loop-byte-preserved : goal.loop-byte-preserved
loop-byte-preserved c =
    text_more_at escaped_byte c.args.bytes.now c.loop-byte.byte-index 0 (string_bytes c.args.text.now) (string_bytes c.loop-byte.text) (string_bytes c.push_escaped_byte.new.text)
    c.loop-byte-test.true c.loop-byte.invariant c.in_ok-push_escaped_byte.ensures
