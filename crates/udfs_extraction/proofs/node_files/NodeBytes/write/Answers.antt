use Rattle.std.specs.Prelude.{⊤}
use Rattle.udfs_extraction.proofs.WalkedLemmas.{store_sink_failed}
use Rattle.udfs_extraction.proofs.node_files.NodeBytes.write.Goals as goal

pub returns-in-Ok-write_node_by-clause-wrote : goal.returns-in-Ok-write_node_by-clause-wrote
returns-in-Ok-write_node_by-clause-wrote g c = λ known f root n below from at offered. let w = c.in-Ok-write_node_by.ensures.walked known f root n from at offered in (w.0, w.1, w.2.given)

pub returns-in-Err-clause-cause : goal.returns-in-Err-clause-cause
returns-in-Err-clause-cause g c = λ lasts reads known below f root n from at offered.
    let w = c.in-Err.ensures.walked known f root n from at offered in
    store_sink_failed ⊤ g.W.Sink.stream _ _ _ c.in-Err.error lasts reads w.2
