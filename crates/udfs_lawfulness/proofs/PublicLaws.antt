-- The laws of this crate, each with the statement that the function of its name in src/laws.rt ensures.
use Rattle.udfs_lawfulness.specs.EcmaLaws.{AllocationExtentLaw, AnchorLaw, AreaLaw, BodyBytesLaw, DirectoryLaw, EntryLaw, ExtentAdLaw, FileLaw, FileSetLaw, IdentifierLaw, LabelLaw, LayoutLaw, LongAdLaw, NameLaw, PartitionLaw, ShortAdLaw, SoundTagLaw, SparingLaw, StampLaw, TablesFollowOn, TagLaw, VolumeLaw}
use Rattle.udfs_lawfulness.proofs.AreaTables as areas
use Rattle.udfs_lawfulness.proofs.BodyBytes as bodies
use Rattle.udfs_lawfulness.proofs.EntryTables as entries
use Rattle.udfs_lawfulness.proofs.ExtentTables as extents
use Rattle.udfs_lawfulness.proofs.FileTables as files
use Rattle.udfs_lawfulness.proofs.IdentifierTables as identifiers
use Rattle.udfs_lawfulness.proofs.LayoutTables as layouts
use Rattle.udfs_lawfulness.proofs.LawfulRows as rows
use Rattle.udfs_lawfulness.proofs.SparingTables as sparing
use Rattle.udfs_lawfulness.proofs.TagTables as tags
use Rattle.udfs_lawfulness.proofs.TextTables as texts
use Rattle.udfs_lawfulness.proofs.VolumeTables as volumes

pub tables_leave_out_no_byte : TablesFollowOn
tables_leave_out_no_byte = rows.tables_follow_on

pub tags_are_by_the_table : TagLaw
tags_are_by_the_table = tags.tag_law

pub sound_tags_are_by_the_table : SoundTagLaw
sound_tags_are_by_the_table = tags.sound_tag_law

pub anchors_are_by_the_table : AnchorLaw
anchors_are_by_the_table = volumes.anchor_law

pub partitions_are_by_the_table : PartitionLaw
partitions_are_by_the_table = volumes.partition_law

pub logical_volumes_are_by_the_table : VolumeLaw
logical_volumes_are_by_the_table = volumes.volume_law

pub sparing_tables_are_by_the_table : SparingLaw
sparing_tables_are_by_the_table = sparing.sparing_law

pub file_sets_are_by_the_table : FileSetLaw
file_sets_are_by_the_table = identifiers.file_set_law

pub entries_are_by_the_table : EntryLaw
entries_are_by_the_table = entries.entry_law

pub extents_of_the_volume_are_by_the_table : ExtentAdLaw
extents_of_the_volume_are_by_the_table = extents.extent_ad_law

pub short_descriptors_are_by_the_table : ShortAdLaw
short_descriptors_are_by_the_table = extents.short_ad_law

pub long_descriptors_are_by_the_table : LongAdLaw
long_descriptors_are_by_the_table = extents.long_ad_law

pub areas_are_by_the_table : AreaLaw
areas_are_by_the_table = areas.area_law

pub continuations_are_by_the_table : AllocationExtentLaw
continuations_are_by_the_table = areas.allocation_extent_law

pub identifiers_are_by_the_table : IdentifierLaw
identifiers_are_by_the_table = identifiers.identifier_law

pub names_are_by_the_table : NameLaw
names_are_by_the_table = identifiers.name_law

pub labels_are_by_the_table : LabelLaw
labels_are_by_the_table = texts.label_law

pub stamps_are_by_the_table : StampLaw
stamps_are_by_the_table = texts.stamp_law

pub files_are_by_the_tables : FileLaw
files_are_by_the_tables = files.file_law

pub directories_are_by_the_tables : DirectoryLaw
directories_are_by_the_tables = files.directory_law

pub bodies_are_bytes : BodyBytesLaw
bodies_are_bytes = bodies.body_bytes_law

pub layouts_are_by_the_tables : LayoutLaw
layouts_are_by_the_tables = layouts.layout_law
