use Rattle.udfs_overview.proofs.SafeTelling.{units_from_safe_name}
use Rattle.udfs_overview.proofs.safe_names.safe_names_tell_units.Goals as goal

pub returns : goal.returns
returns c = units_from_safe_name
