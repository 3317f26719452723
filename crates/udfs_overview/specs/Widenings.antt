-- What the wide rules make of a volume that the strict ones refuse.
--     widening_by rules blocks last     whether they read its layout
--     widening_text widening         what is said of it, if they may
use Rattle.std.specs.Prelude.{ℕ, ◌++◌, ◌==◌, cond, List, [], codes, if◌then◌else◌}
use Rattle.udfs_lattice.specs.Volumes.{Blocks}
use Rattle.udfs_volume.specs.Answers.{Answer, found, holes, faulty}
use Rattle.udfs_volume.specs.Layout.{Layout, layout_by}
use Rattle.udfs_volume.specs.declared.profiles.Profile.{Profile}
use Rattle.udfs_volume.specs.declared.profiles.Profile.TheVariants as profile
use Rattle.udfs_salvage.specs.Texts.{revision_text}
use Rattle.udfs_overview.specs.Disagreements.{has_room}
use Rattle.udfs_overview.specs.declared.widenings.Widening.{Widening}
use Rattle.udfs_overview.specs.declared.widenings.Widening.TheVariants as wide

-- the layout by the wide rules: of this revision, or found once more blocks are known, or none
abbrev pub widened : Answer Layout → Widening
widened (found l) = wide.Reads l.revision
widened (holes blocks) = wide.Wants
widened (faulty f) = wide.No

-- where the layout by the strict rules has a fault
abbrev pub widened_from : Answer Layout → Answer Layout → Widening
widened_from (found l) other = wide.No
widened_from (holes blocks) other = wide.No
widened_from (faulty f) other = widened other

-- of a disc that has room for a volume
abbrev pub widening_in : Blocks → ℕ → Widening
widening_in blocks last = cond (has_room last) (widened_from (layout_by profile.Strict blocks last) (layout_by profile.Wide blocks last)) wide.No

-- where the strict rules were taken
unfoldable pub widening_by : Profile → Blocks → ℕ → Widening
widening_by profile.Strict blocks last = widening_in blocks last
widening_by profile.Wide blocks last = wide.No

-- what records discs of this revision
unfoldable pub recorder_text : ℕ → List ℕ
recorder_text revision = if revision == 0x0200 then codes " (a camcorder or recorder disc)" else []

-- what is said of it
abbrev pub widening_text : Widening → List ℕ
widening_text wide.No = []
widening_text wide.Wants = codes "a disc that the wide rules may read: add --profile wide"
widening_text (wide.Reads revision) = codes "UDF " ++ revision_text revision ++ recorder_text revision ++ codes ": add --profile wide"
