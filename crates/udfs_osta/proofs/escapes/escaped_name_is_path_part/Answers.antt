use Rattle.udfs_osta.proofs.PublicLaws.{escaped_name_is_path_part as law}
use Rattle.udfs_osta.proofs.escapes.escaped_name_is_path_part.Goals as goal

pub returns : goal.returns
returns c = law
