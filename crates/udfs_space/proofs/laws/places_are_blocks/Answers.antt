use Rattle.udfs_space.proofs.PublicLaws.{places_are_blocks, places_are_blocks_by}
use Rattle.udfs_space.proofs.laws.places_are_blocks.Goals as goal

pub returns : goal.returns
returns f = record { strict = places_are_blocks; by_profile = places_are_blocks_by }
