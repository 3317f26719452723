-- The pieces in which the JSON object of a summary is written. Only private contracts cite these.
use Rattle.std.specs.Prelude.{List, ℕ, ◌++◌, codes}
use Rattle.serde_json.specs.Data.{boolean, string}
use Rattle.serde_json.specs.Written.{compact_text}
use Rattle.udfs_volume.specs.Layout.{Layout}
use Rattle.udfs_salvage.specs.Texts.{revision_text}
use Rattle.udfs_lawfulness.specs.declared.answers.Lawfulness.{Lawfulness}
use Rattle.udfs_overview.specs.SummaryJson.{disc_data, files_data, folders_data, guarantee_data, is_at_least, label_data, lost_data, others_data, profile_name, remarks_data, unnamed_data}
use Rattle.udfs_overview.specs.declared.lost_tallies.LostTally.{LostTally}
use Rattle.udfs_overview.specs.declared.summary_figures.Figures.{Figures}

-- the object of a volume that opens, up to its files
unfoldable pub whole_piece : Figures → List ℕ
whole_piece f =
    (codes "{\"all_whole\":" ++ compact_text (boolean f.all_whole)) ++ (codes ",\"at_least\":" ++ compact_text (boolean (is_at_least f.tally)))
    ++ codes ",\"disc\":" ++ compact_text (disc_data f.last f.disc)

-- what is counted of its nodes
unfoldable pub nodes_piece : Figures → Lawfulness → List ℕ
nodes_piece f a =
    codes ",\"files\":" ++ compact_text (files_data f.tally) ++ codes ",\"folders\":" ++ compact_text (folders_data f.tally) ++ (codes ",\"guarantee\":" ++ compact_text (guarantee_data a))

-- its label, what is lost, and what else there is
unfoldable pub names_piece : Figures → Layout → LostTally → List ℕ
names_piece f l t =
    codes ",\"label\":" ++ compact_text (label_data l.label) ++ (codes ",\"lost\":" ++ compact_text (lost_data t)) ++ codes ",\"others\":" ++ compact_text (others_data f.tally)

-- the rest of it
unfoldable pub ends_piece : Figures → Layout → List ℕ
ends_piece f l =
    (codes ",\"profile\":" ++ compact_text (string (profile_name f.profile))) ++ codes ",\"remarks\":" ++ compact_text (remarks_data f)
    ++ (codes ",\"revision\":" ++ compact_text (string (revision_text l.revision))) ++ codes ",\"state\":\"ok\",\"unnamed\":" ++ compact_text (unnamed_data f.unnamed) ++ codes "}"
