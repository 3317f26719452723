use Rattle.udfs_osta.proofs.Telling.{units_from_escaped}
use Rattle.udfs_osta.proofs.escapes.escaped_tells_units.Goals as goal

pub returns : goal.returns
returns c = units_from_escaped
