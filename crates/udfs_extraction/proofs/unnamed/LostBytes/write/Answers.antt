use Rattle.std.specs.Prelude.{⊤}
use Rattle.udfs_extraction.proofs.WalkedLemmas.{store_sink_failed}
use Rattle.udfs_extraction.proofs.unnamed.LostBytes.write.Goals as goal

pub returns-in-Ok-write_lost_by-clause-wrote : goal.returns-in-Ok-write_lost_by-clause-wrote
returns-in-Ok-write_lost_by-clause-wrote g c = λ known profile last u below are reported at lost. let w = c.in-Ok-write_lost_by.ensures.cells known profile last u reported are at lost in (w.0, w.1, w.2.given)

pub returns-in-Err-clause-cause : goal.returns-in-Err-clause-cause
returns-in-Err-clause-cause g c = λ lasts reads known below are profile last u reported at lost.
    let w = c.in-Err.ensures.cells known profile last u reported are at lost in
    store_sink_failed ⊤ g.W.Sink.stream _ _ _ c.in-Err.error lasts reads w.2
