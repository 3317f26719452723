use Rattle.udfs_lattice.proofs.PublicLaws.{entries_rise, entries_make_table, rising_are_entries, rising_make_table, few_entries, entries_tell_states}
use Rattle.udfs_lattice.proofs.laws.entries_make_the_table.Goals as goal

pub returns : goal.returns
returns c = record { rise = entries_rise; table = entries_make_table; entries = rising_are_entries; is_table = rising_make_table; few = few_entries; tell = entries_tell_states }
