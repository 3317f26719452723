use Rattle.udfs_file.proofs.PublicLaws.{wide_takes_tags as law}
use Rattle.udfs_file.proofs.laws.wide_takes_tags.Goals as goal

pub returns : goal.returns
returns f = law
