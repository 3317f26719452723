-- The laws of this crate that proofs above it use. Each has the statement that the function of its name in src/laws.rt ensures.
use Rattle.udfs_file.specs.Complete.{BodyLaw, DescriptorsAreShort, DirectoryLaw, FileSetLaw, NeverStops, StandardBodies, StandardDirectories}
use Rattle.udfs_file.specs.FoundNames.{FoundNamesAreThere}
use Rattle.udfs_file.specs.Laws.{BodyLength, NamesAreParts, PartialBodies, PartialDescriptors, PartialFileSet, TailKeepsBodies, WideTakesTags}
use Rattle.udfs_file.specs.Sample.{HaveSampleFiles, SampleFileSet}
use Rattle.udfs_file.proofs.BodyLengths as lengths
use Rattle.udfs_file.proofs.EntryNames as names
use Rattle.udfs_file.proofs.FileSets as sets
use Rattle.udfs_file.proofs.FoundLemmas as found
use Rattle.udfs_file.proofs.PartFronts as fronts
use Rattle.udfs_file.proofs.PartialBodies as parts
use Rattle.udfs_file.proofs.Readings as readings
use Rattle.udfs_file.proofs.WholeBodies as bodies
use Rattle.udfs_file.proofs.SampleLaw as sample
use Rattle.udfs_file.proofs.KeptBodies as tails
use Rattle.udfs_file.proofs.MovedTags as tags
use Rattle.udfs_file.proofs.StandardBodies as standard
use Rattle.udfs_file.proofs.StandardDirectories as listed

pub partial_file_set : PartialFileSet
partial_file_set = sets.partial_file_set

pub file_set_is_read : FileSetLaw
file_set_is_read = sets.file_set_law

pub partial_bodies : PartialBodies
partial_bodies = parts.partial_bodies

pub partial_descriptors : PartialDescriptors
partial_descriptors = fronts.part_ids

pub body_is_read : BodyLaw
body_is_read = bodies.body_law

pub the_tail_keeps_bodies : TailKeepsBodies
the_tail_keeps_bodies = tails.tail_keeps

pub wide_takes_tags : WideTakesTags
wide_takes_tags = tags.wide_takes_tags

pub body_has_its_length : BodyLength
body_has_its_length = lengths.body_length

pub directory_is_read : DirectoryLaw
directory_is_read = readings.directory_law

pub complete_directory_never_stops : NeverStops
complete_directory_never_stops = readings.never_stops

pub sample_file_set_is_found : SampleFileSet
sample_file_set_is_found = sample.sample_file_set_law

pub sample_files_are_read : HaveSampleFiles
sample_files_are_read = sample.sample_files

pub names_are_parts : NamesAreParts
names_are_parts = names.names_are_parts

pub standard_bodies_are_read : StandardBodies
standard_bodies_are_read = standard.standard_bodies

pub standard_directories_are_read : StandardDirectories
standard_directories_are_read = listed.standard_directories

pub descriptors_are_short : DescriptorsAreShort
descriptors_are_short = listed.descriptors_are_short

pub found_names_are_there : FoundNamesAreThere
found_names_are_there = found.found_names_are_there
