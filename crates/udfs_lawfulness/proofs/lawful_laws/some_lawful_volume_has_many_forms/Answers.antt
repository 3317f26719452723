use Rattle.udfs_lawfulness.proofs.Lawful.{some_many_forms as law}
use Rattle.udfs_lawfulness.proofs.lawful_laws.some_lawful_volume_has_many_forms.Goals as goal

pub returns : goal.returns
returns c = law
