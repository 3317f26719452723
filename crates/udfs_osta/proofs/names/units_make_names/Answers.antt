use Rattle.udfs_osta.proofs.NameUnits.{IsName-units_of}
use Rattle.udfs_osta.proofs.names.units_make_names.Goals as goal

pub returns : goal.returns
returns c = IsName-units_of
