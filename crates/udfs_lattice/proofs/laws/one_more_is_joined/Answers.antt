use Rattle.udfs_lattice.proofs.PublicLaws.{record_added, entry_added, table_added, entry_before}
use Rattle.udfs_lattice.proofs.laws.one_more_is_joined.Goals as goal

pub returns : goal.returns
returns c = record { «record» = record_added; entry = entry_added; table = table_added; before = entry_before }
