use Rattle.std.proofs.Common.{length}
use Rattle.std.specs.String.{string_bytes}
use Rattle.std.specs.Str.{encode_utf8_all}
use Rattle.udfs_osta.specs.Escapes.{shown}
use Rattle.udfs_osta.specs.Texts.{IsPartWritten}
use Rattle.udfs_osta.proofs.escapes.write_units.Given as goal

abbrev pub invariant-loop-rest : goal.invariant-loop-rest
invariant-loop-rest l = IsPartWritten (string_bytes l.fn.text) (string_bytes l.text) (encode_utf8_all (shown l.units)) (encode_utf8_all (shown l.rest))

abbrev pub decreases-loop-rest : goal.decreases-loop-rest
decreases-loop-rest l = length l.rest
