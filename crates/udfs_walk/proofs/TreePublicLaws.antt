-- The laws of this crate that proofs above it use. Each has the statement that the function of its name in src/laws.rt or
-- src/known_laws.rt ensures.
use Rattle.udfs_walk.specs.KnownLaws.{ChosenIsWanted, MissingIsWanted}
use Rattle.udfs_walk.specs.TreeLaws.{CompleteNodes, PartialNodes, OncePerPath, FewerRoutes, OneFile, RootInTree, OneReading, WholeAlike}
use Rattle.udfs_walk.specs.TreeSample.{SampleTree}
use Rattle.udfs_walk.specs.Sound.{SoundIsLawful}
use Rattle.udfs_walk.proofs.LawfulTrees as lawful
use Rattle.udfs_walk.proofs.SoundTrees as sound
use Rattle.udfs_walk.proofs.CompleteNodes as complete
use Rattle.udfs_walk.proofs.OneReading as readings
use Rattle.udfs_walk.proofs.PartNodes as parts
use Rattle.udfs_walk.proofs.PartRoutes as routes
use Rattle.udfs_walk.proofs.TreeSampleLaw as sample
use Rattle.udfs_walk.proofs.Wanted as wanted
use Rattle.udfs_walk.proofs.Chosen as chosen

pub complete_nodes : CompleteNodes
complete_nodes = complete.complete_nodes

pub partial_nodes : PartialNodes
partial_nodes = parts.partial_nodes

pub once_per_path : OncePerPath
once_per_path = parts.once_per_path

pub fewer_routes : FewerRoutes
fewer_routes some all blocks part whole root lawful = routes.fewer_routes some all part root lawful.nodes

pub one_file : OneFile
one_file = complete.one_file

pub root_is_in_tree : RootInTree
root_is_in_tree = complete.root_in_tree

pub one_reading : OneReading
one_reading = readings.one_reading

pub whole_alike : WholeAlike
whole_alike = readings.whole_alike

pub missing_is_wanted : MissingIsWanted
missing_is_wanted = wanted.missing_is_wanted

pub chosen_is_wanted : ChosenIsWanted
chosen_is_wanted = chosen.chosen_is_wanted

pub sample_tree_is_lawful : SampleTree
sample_tree_is_lawful = sample.sample_tree_law

pub sound_is_lawful : SoundIsLawful
sound_is_lawful all blocks c has root = (sound.sound_is_lawful all blocks c has root, lawful.lawful_is_sound all blocks c root)
