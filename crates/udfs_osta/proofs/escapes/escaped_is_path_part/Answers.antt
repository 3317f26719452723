use Rattle.udfs_osta.proofs.PathParts.{IsPathPart-escaped}
use Rattle.udfs_osta.proofs.escapes.escaped_is_path_part.Goals as goal

pub returns : goal.returns
returns c = IsPathPart-escaped
