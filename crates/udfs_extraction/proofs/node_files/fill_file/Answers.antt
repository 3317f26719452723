use Rattle.std.proofs.Common.{inr}
use Rattle.udfs_salvage.specs.Extraction.{fill_byte, filled}
use Rattle.udfs_extraction.proofs.WalkedLemmas.{from_nothing}
use Rattle.udfs_extraction.proofs.node_files.fill_file.Goals as goal

pub returns-in-Ok-clause-written : goal.returns-in-Ok-clause-written
returns-in-Ok-clause-written g c known written tells f root n from at offered =
    let w = c.in-Ok.ensures.wrote known f root n c.requires.index from at offered in
    (w.0, w.1, c.sync_file-fate.ensures.held written tells (filled (fill_byte c.args.fill) w.0) (from_nothing _ _ _ (c.requires.empty tells) w.2))

pub returns-in-None-clause-cause : goal.returns-in-None-clause-cause
returns-in-None-clause-cause g c known unwritten f root n from at offered =
    let other = c.gave_up.ensures.other c.in-None.is in
    inr (c.in-Err.ensures.cause (other.0, other.1, known, c.requires.index, f, root, n, from, at, offered))
