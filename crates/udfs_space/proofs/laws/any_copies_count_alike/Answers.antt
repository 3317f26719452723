use Rattle.udfs_space.proofs.PublicLaws.{any_copies as law}
use Rattle.udfs_space.proofs.laws.any_copies_count_alike.Goals as goal

pub returns : goal.returns
returns f = law
