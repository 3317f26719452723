use Rattle.udfs_lattice.specs.TableLaws.{same_table}
use Rattle.udfs_lattice.proofs.laws.states_make_the_table.Goals as goal

pub returns : goal.returns
returns c = same_table
