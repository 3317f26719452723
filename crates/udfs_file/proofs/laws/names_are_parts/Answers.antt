use Rattle.udfs_file.proofs.PublicLaws.{names_are_parts as law}
use Rattle.udfs_file.proofs.laws.names_are_parts.Goals as goal

pub returns : goal.returns
returns c = law
