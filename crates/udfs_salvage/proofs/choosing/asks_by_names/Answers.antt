use Rattle.udfs_salvage.proofs.AskedNames as names
use Rattle.udfs_salvage.proofs.ChosenAll.{root_asks_for_all}
use Rattle.udfs_salvage.proofs.choosing.asks_by_names.Goals as goal

pub returns-clause-names : goal.returns-clause-names
returns-clause-names c = names.asks_by_names

pub returns-clause-all : goal.returns-clause-all
returns-clause-all c = root_asks_for_all
