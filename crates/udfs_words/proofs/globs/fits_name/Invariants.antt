use Rattle.std.proofs.Common.{◌≡◌, suc, map, length}
use Rattle.udfs_words.specs.Globs.{char_step, fits}
use Rattle.udfs_words.specs.GlobRows.{some_fits}
use Rattle.udfs_words.proofs.globs.fits_name.Given as goal

-- behind some place that is reached the name is what the rest of the pattern stands for
abbrev pub invariant-loop-first : goal.invariant-loop-first
invariant-loop-first l = record {
  places : length l.row.items ≡ suc (length l.name);
  fits : fits (map char_step l.pattern) l.name ≡ some_fits l.row.items (map char_step l.rest) l.name;
}

abbrev pub decreases-loop-first : goal.decreases-loop-first
decreases-loop-first l = length l.rest
