use Rattle.udfs_salvage.proofs.SampleLawful.{some_lawful, some_lawful_by}
use Rattle.udfs_salvage.proofs.tree_laws.some_volume_is_lawful.Goals as goal

pub returns : goal.returns
returns c = record { strict = some_lawful; by_profile = some_lawful_by }
