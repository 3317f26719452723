use Rattle.udfs_lattice.proofs.JoinLaws.{join_all-least}
use Rattle.udfs_lattice.proofs.PublicLaws.{tables_make_join, records_make_join}
use Rattle.udfs_lattice.proofs.laws.join_of_all.Goals as goal

pub returns : goal.returns
returns c = record { least = join_all-least; same = tables_make_join; records = records_make_join }
