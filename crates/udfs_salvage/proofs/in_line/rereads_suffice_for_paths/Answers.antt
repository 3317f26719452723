use Rattle.udfs_salvage.proofs.RereadingFor as law
use Rattle.udfs_salvage.proofs.in_line.rereads_suffice_for_paths.Goals as goal

pub returns : goal.returns
returns c = law.each_reread_for_suffices
