use Rattle.udfs_overview.proofs.SafeParts.{characters_safe}
use Rattle.udfs_overview.proofs.safe_names.safe_names_are_safe.Goals as goal

pub returns : goal.returns
returns c = characters_safe
