use Rattle.std.proofs.Common.{length}
use Rattle.udfs_overview.proofs.next_commands.+table_path.Given as goal

abbrev pub decreases-table_path : goal.decreases-table_path
decreases-table_path l = length l.files.now
