use Rattle.udfs_lawfulness.proofs.PublicLaws.{bodies_are_bytes as law}
use Rattle.udfs_lawfulness.proofs.ecma_laws.bodies_are_bytes.Goals as goal

pub returns : goal.returns
returns c = law
