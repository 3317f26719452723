use Rattle.udfs_salvage.proofs.InLineNames as names
use Rattle.udfs_salvage.proofs.in_line.asks_in_line.Goals as goal

pub returns : goal.returns
returns c = names.asks_in_line
