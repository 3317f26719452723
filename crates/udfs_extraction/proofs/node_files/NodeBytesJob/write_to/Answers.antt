use Rattle.udfs_extraction.proofs.node_files.NodeBytesJob.write_to.Goals as goal

pub returns-in-Err-clause-cause : goal.returns-in-Err-clause-cause
returns-in-Err-clause-cause g c = λ blames. c.in-Err.ensures.cause blames.0 blames.1 blames.2 blames.3 blames.4 blames.5 blames.6 blames.7 blames.8 blames.9
