use Rattle.udfs_lawfulness.proofs.LawfulVolumes.{lawful_has_structures, no_lawful_agrees}
use Rattle.udfs_lawfulness.proofs.laws.lawful_volumes_have_lawful_structures.Goals as goal

pub returns : goal.returns
returns c = record { structures = lawful_has_structures; none = no_lawful_agrees }
