-- The laws of this crate that proofs above it use. Each has the statement that the function of its name in src/laws.rt ensures:
-- those that end in `_by` for every profile, the others by the strict rules.
use Rattle.udfs_volume.specs.declared.profiles.Profile.{Profile}
use Rattle.udfs_volume.specs.declared.profiles.Profile.TheVariants.{Strict}
use Rattle.udfs_space.specs.Laws.{AnyCopies, PlaceLaw, PlaceLawBy, SpaceLaw, SpaceLawBy, StandardBlocks, StandardBlocksBy}
use Rattle.udfs_space.specs.Sample.{SampleSpace}
use Rattle.udfs_space.proofs.Counting as lawful
use Rattle.udfs_space.proofs.PlaceLaw as placed
use Rattle.udfs_space.proofs.StandardBlocks as standard
use Rattle.udfs_space.proofs.SampleLaw as sample

pub space_of_lawful_by : (profile : Profile) → SpaceLawBy profile
space_of_lawful_by = lawful.space_law

pub space_of_lawful : SpaceLaw
space_of_lawful = space_of_lawful_by Strict

pub any_copies : AnyCopies
any_copies = lawful.any_copies

pub places_are_blocks_by : (profile : Profile) → PlaceLawBy profile
places_are_blocks_by = placed.place_law

pub places_are_blocks : PlaceLaw
places_are_blocks = places_are_blocks_by Strict

pub blocks_of_standard_by : (profile : Profile) → StandardBlocksBy profile
blocks_of_standard_by = standard.standard_blocks

pub blocks_of_standard : StandardBlocks
blocks_of_standard = blocks_of_standard_by Strict

pub sample_places_are_lawful : SampleSpace
sample_places_are_lawful = sample.sample_space_law
