use Rattle.udfs_salvage.proofs.InLineLists as lists
use Rattle.udfs_salvage.proofs.in_line.rereads_for_all.Goals as goal

pub returns : goal.returns
returns c = lists.rereads_for_all
