use Rattle.udfs_lawfulness.proofs.PublicLaws.{tables_leave_out_no_byte as law}
use Rattle.udfs_lawfulness.proofs.ecma_laws.tables_leave_out_no_byte.Goals as goal

pub returns : goal.returns
returns c = law
