use Rattle.udfs_space.proofs.PublicLaws.{blocks_of_standard, blocks_of_standard_by}
use Rattle.udfs_space.proofs.laws.blocks_of_standard.Goals as goal

pub returns : goal.returns
returns f = record { strict = blocks_of_standard; by_profile = blocks_of_standard_by }
