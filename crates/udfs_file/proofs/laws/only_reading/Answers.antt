use Rattle.udfs_file.proofs.Readings.{reads_law as law}
use Rattle.udfs_file.proofs.laws.only_reading.Goals as goal

pub returns : goal.returns
returns f = law
