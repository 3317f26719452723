-- The laws of this crate that proofs above it use. Each has the statement that the function of its name in src/laws.rt ensures:
-- those that end in `_by` for every profile, the others by the strict rules.
use Rattle.udfs_volume.specs.declared.profiles.Profile.{Profile}
use Rattle.udfs_volume.specs.declared.profiles.Profile.TheVariants.{Strict}
use Rattle.udfs_volume.specs.Laws.{AscendingRises, EqualCopiesAreLawful, EqualCopiesAreLawfulBy, FoundBounds, FoundBoundsBy, LayoutLaw, LayoutLawBy, MainLayoutBy, StandardLayout, StandardLayoutBy, StrictSequence}
use Rattle.udfs_volume.specs.Primaries.{PrimariesMayDiffer}
use Rattle.udfs_volume.specs.Sample.{SampleLayout}
use Rattle.udfs_volume.proofs.Choosing as choosing
use Rattle.udfs_volume.proofs.EqualCopies.{equal_copies}
use Rattle.udfs_volume.proofs.PrimariesLaw as primaries
use Rattle.udfs_volume.proofs.ReserveLaw as lawful
use Rattle.udfs_volume.proofs.StandardLaw as standard
use Rattle.udfs_volume.proofs.Extents as extents
use Rattle.udfs_volume.proofs.Rising as rising
use Rattle.udfs_volume.proofs.SampleLaw as sample

pub layout_of_lawful_by : (profile : Profile) → LayoutLawBy profile
layout_of_lawful_by = lawful.layout_law

-- it is what the main sequence gives
pub main_sequence_counts : (profile : Profile) → MainLayoutBy profile
main_sequence_counts = lawful.main_counts

pub layout_of_lawful : LayoutLaw
layout_of_lawful = layout_of_lawful_by Strict

pub layout_of_standard_by : (profile : Profile) → StandardLayoutBy profile
layout_of_standard_by = standard.standard_layout_law

pub layout_of_standard : StandardLayout
layout_of_standard = layout_of_standard_by Strict

pub layout_is_bounded_by : (profile : Profile) → FoundBoundsBy profile
layout_is_bounded_by = choosing.layout_is_bounded

pub layout_is_bounded : FoundBounds
layout_is_bounded = layout_is_bounded_by Strict

pub ascending_rises : AscendingRises
ascending_rises = rising.rising_ascending

pub sample_layout_is_lawful : SampleLayout
sample_layout_is_lawful = sample.sample_layout_law

pub equal_copies_are_lawful_by : (profile : Profile) → EqualCopiesAreLawfulBy profile
equal_copies_are_lawful_by = equal_copies

pub equal_copies_are_lawful : EqualCopiesAreLawful
equal_copies_are_lawful = equal_copies_are_lawful_by Strict

pub primaries_may_differ : PrimariesMayDiffer
primaries_may_differ = primaries.primaries_may_differ

pub strict_sequence : StrictSequence
strict_sequence = extents.strict_sequence
