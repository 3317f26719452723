-- Reports of which the blocks and the holes of torn nodes were let go.
--     survey_by states survey      the report, with what is missing of the torn nodes found again
--     survey_now survey      the same over a table
--     IsNoFault volume       it has no fault
use Rattle.std.specs.Prelude.{◌≡◌, ⊤, List, map}
use Rattle.udfs_lattice.specs.Tables.{Table, state_of}
use Rattle.udfs_lattice.specs.Volumes.{Blocks}
use Rattle.udfs_volume.specs.Answers.{Answer, found, holes, faulty}
use Rattle.udfs_space.specs.Places.{view}
use Rattle.udfs_walk.specs.Bare.{full_entry, full_node}
use Rattle.udfs_walk.specs.NodeFields.{NodeFields}
use Rattle.udfs_walk.specs.declared.answers.Unnamed.{Unnamed}
use Rattle.udfs_salvage.specs.Found.{Found, volume_now}
use Rattle.udfs_salvage.specs.Reports.{Report}
use Rattle.udfs_salvage.specs.declared.surveys.Survey as code_survey

-- the nodes of a survey with what is missing of them; unchanged where the volume does not open
abbrev pub full_nodes : Blocks → Answer Found → List NodeFields → List NodeFields
full_nodes blocks (found f) nodes = map (full_node (view blocks f.space)) nodes
full_nodes blocks (holes listed) nodes = nodes
full_nodes blocks (faulty fault) nodes = nodes

-- the entries of a survey with what they lack
abbrev pub full_entries : Blocks → Answer Found → List Unnamed → List Unnamed
full_entries blocks (found f) entries = map (full_entry (view blocks f.space)) entries
full_entries blocks (holes listed) entries = entries
full_entries blocks (faulty fault) entries = entries

-- the report that a survey of a store represents, whose states these are
abbrev pub survey_by : {B : Type 0} → (B → Blocks) → code_survey.Survey B → Report
survey_by states s = record {
  volume = volume_now s.volume;
  nodes = full_nodes (states s.table.now) (volume_now s.volume) s.nodes.items;
  unnamed = full_entries (states s.table.now) (volume_now s.volume) s.unnamed.items;
  reread = s.reread.items;
}

-- the same of a table's
abbrev pub survey_now : code_survey.Survey Table → Report
survey_now = survey_by state_of

-- it has no fault
abbrev pub IsNoFault : Answer Found → Type 0
IsNoFault (found f) = ⊤
IsNoFault (holes listed) = ⊤
IsNoFault (faulty fault) = ⊥
