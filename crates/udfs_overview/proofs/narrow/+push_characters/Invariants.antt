use Rattle.std.proofs.Common.{length}
use Rattle.udfs_overview.proofs.narrow.+push_characters.Given as goal

abbrev pub decreases-push_characters : goal.decreases-push_characters
decreases-push_characters l = length l.characters.now
