use Rattle.udfs_walk.proofs.PublicLaws as public
use Rattle.udfs_walk.proofs.laws.some_walk.Goals as goal

pub returns : goal.returns
returns c = public.some_walk
