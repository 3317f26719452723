-- Where what is lost of a volume is looked for.
--     Searched                           a view, whether there are two partitions, and the entries that no name leads to
--     of_placed blocks p                 all of a volume that is known by its layout and the places of its blocks
--     without_root profile blocks last   that, where these are found
--     searched profile blocks last report    the volume of a report, and where it does not open, what is known of it without its file set
--     searched_of states survey          the same of a survey of a store, where these are its states
--     looked_in blocks report lost       the same, as what was found tells
--     searched_now states survey lost    the same as the code has it
use Rattle.std.specs.Prelude.{ℕ, Bool, List, Option, Some, None, cond, map, option_map}
use Rattle.udfs_lattice.specs.Volumes.{Blocks}
use Rattle.udfs_volume.specs.Answers as answer
use Rattle.udfs_volume.specs.Answers.{Answer}
use Rattle.udfs_volume.specs.LayoutParts.{parts_now}
use Rattle.udfs_volume.specs.declared.profiles.Profile.{Profile}
use Rattle.udfs_space.specs.Places.{View, view}
use Rattle.udfs_walk.specs.Bare.{full_entry}
use Rattle.udfs_walk.specs.declared.answers.Unnamed.{Unnamed}
use Rattle.udfs_lost.specs.PlacedVolumes.{Placed, all_entries, has_two, if_found, placed_by}
use Rattle.udfs_salvage.specs.Found.{Found, volume_now}
use Rattle.udfs_salvage.specs.Reports.{Report}
use Rattle.udfs_salvage.specs.Surveys.{full_entries, survey_by}
use Rattle.udfs_salvage.specs.declared.surveys.Survey as code_survey
use Rattle.udfs_overview.specs.Disagreements.{has_room}
use Rattle.udfs_overview.specs.declared.lost_found.Lost.{Lost}
use Rattle.udfs_overview.specs.declared.lost_found.Rootless.{Rootless}

-- where it is looked for: what is known there, whether there are two partitions, and the entries that no name leads to
pub record Searched : Type 0 where
  pub view : View
  pub two : Bool
  pub entries : List Unnamed

-- all of a volume by its layout and the places of its blocks alone, so that no name leads to an entry
abbrev pub of_placed : Blocks → Placed → Searched
of_placed blocks p = record { view = view blocks p.space; two = has_two p.layout; entries = all_entries blocks p }

-- that of a disc that has room for a volume, where the layout and the places are found
unfoldable pub without_root : Profile → Blocks → ℕ → Option Searched
without_root profile blocks last = cond (has_room last) (option_map (of_placed blocks) (if_found (placed_by profile blocks last))) None

-- a volume that opens; and in place of one that does not, this
abbrev pub searched_by : Option Searched → Blocks → Answer Found → List Unnamed → Option Searched
searched_by closed blocks (answer.found f) entries = Some (record { view = view blocks f.space; two = has_two f.layout; entries = entries })
searched_by closed blocks (answer.holes unread) entries = closed
searched_by closed blocks (answer.faulty fault) entries = closed

-- the volume of a report; where it does not open, what is known of it without its file set
abbrev pub searched : Profile → Blocks → ℕ → Report → Option Searched
searched profile blocks last report = searched_by (without_root profile blocks last) blocks report.volume report.unnamed

-- the same of a survey
abbrev pub searched_of : {B : Type 0} → (B → Blocks) → code_survey.Survey B → Option Searched
searched_of states s = searched s.profile (states s.table.now) s.last (survey_by states s)

-- ---- the same things of the code

-- what is known of a volume without its file set
abbrev pub rootless_now : Blocks → Rootless → Searched
rootless_now blocks r = record {
  view = view blocks r.volume.space;
  two = has_two (parts_now r.volume.parts);
  entries = map (full_entry (view blocks r.volume.space)) r.entries.items;
}

-- where what was found of a report tells that it was looked for
abbrev pub looked_in : Blocks → Report → Lost → Option Searched
looked_in blocks r lost = searched_by (option_map (rootless_now blocks) lost.rootless) blocks r.volume r.unnamed

-- where the survey and what was found tell that it was looked for
abbrev pub searched_now : {B : Type 0} → (B → Blocks) → code_survey.Survey B → Lost → Option Searched
searched_now states s lost = searched_by (option_map (rootless_now (states s.table.now)) lost.rootless) (states s.table.now) (volume_now s.volume)
    (full_entries (states s.table.now) (volume_now s.volume) s.unnamed.items)
