use Rattle.std.proofs.Common.{inr}
use Rattle.udfs_salvage.specs.Extraction.{filled}
use Rattle.udfs_extraction.proofs.WalkedLemmas.{from_nothing}
use Rattle.udfs_extraction.proofs.unnamed.fill_lost.Goals as goal

pub returns-in-Ok-clause-written : goal.returns-in-Ok-clause-written
returns-in-Ok-clause-written g c known written tells profile last u reported at lost =
    let w = c.in-Ok.ensures.wrote known profile last u c.requires.index (c.requires.entries known) reported at lost in
    (w.0, w.1, c.finish_file.ensures.kept written tells (filled 0 w.0) (from_nothing _ _ _ (c.requires.empty tells) w.2))

pub returns-in-None-clause-cause : goal.returns-in-None-clause-cause
returns-in-None-clause-cause g c known unwritten profile last u reported at lost =
    let other = c.gave_up.ensures.other c.in-None.is in
    inr (c.in-Err.ensures.cause (other.0, other.1, known, c.requires.index, c.requires.entries known, profile, last, u, reported, at, lost))
