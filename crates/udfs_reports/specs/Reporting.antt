-- What a command prints of a report in the form that is asked for.
--     form_text form profile table last report     its text, or its JSON and a line feed
use Rattle.std.specs.Prelude.{ℕ, List}
use Rattle.udfs_lattice.specs.Tables.{Table}
use Rattle.udfs_volume.specs.declared.profiles.Profile.{Profile}
use Rattle.udfs_salvage.specs.JsonReports.{json_text_by}
use Rattle.udfs_salvage.specs.NodeTexts.{report_text_by}
use Rattle.udfs_salvage.specs.Reports.{Report}
use Rattle.udfs_salvage.specs.Texts.{line}
use Rattle.udfs_words.specs.declared.forms.Form.{Form}
use Rattle.udfs_words.specs.declared.forms.Form.TheVariants.{Text, Json}

-- a report's text, or its JSON and a line feed
abbrev pub form_text : Form → Profile → Table → ℕ → Report → List ℕ
form_text Text profile table last report = report_text_by profile table last report
form_text Json profile table last report = line (json_text_by profile table last report)
