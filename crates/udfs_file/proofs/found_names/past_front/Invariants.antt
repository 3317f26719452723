use Rattle.std.proofs.Common.{◌≡◌, length}
use Rattle.udfs_file.specs.FoundNames.{behind_front}
use Rattle.udfs_file.proofs.found_names.past_front.Given as goal

-- what is behind the descriptors is the same
abbrev pub invariant-front : goal.invariant-front
invariant-front g l = g.B.BlockStore.tells → behind_front l.cursor ≡ behind_front l.fn.cursor

abbrev pub decreases-front : goal.decreases-front
decreases-front g l = length l.cursor
