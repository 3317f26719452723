use Rattle.std.proofs.Common.{drop}
use Rattle.std.specs.List.{flat_map}
use Rattle.std.specs.String.{string_bytes}
use Rattle.std.specs.Str.{encode_utf8_all}
use Rattle.udfs_osta.specs.Escapes.{escape}
use Rattle.udfs_osta.specs.Texts.{IsPartWritten}
use Rattle.udfs_osta.proofs.escapes.write_escapes.Given as goal

abbrev pub invariant-loop-unit : goal.invariant-loop-unit
invariant-loop-unit l = IsPartWritten (string_bytes l.fn.text) (string_bytes l.text) (encode_utf8_all (flat_map escape l.units)) (encode_utf8_all (flat_map escape (drop l.unit-index l.units)))
