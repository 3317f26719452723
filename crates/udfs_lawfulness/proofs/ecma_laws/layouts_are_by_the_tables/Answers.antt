use Rattle.udfs_lawfulness.proofs.PublicLaws.{layouts_are_by_the_tables as law}
use Rattle.udfs_lawfulness.proofs.ecma_laws.layouts_are_by_the_tables.Goals as goal

pub returns : goal.returns
returns c = law
