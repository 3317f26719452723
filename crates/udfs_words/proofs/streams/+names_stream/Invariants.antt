use Rattle.std.proofs.Common.{length}
use Rattle.udfs_words.proofs.streams.+names_stream.Given as goal

abbrev pub decreases-names_stream : goal.decreases-names_stream
decreases-names_stream l = length l.paths.now
