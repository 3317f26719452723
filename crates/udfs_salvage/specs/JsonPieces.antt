-- The pieces in which the JSON of a report is written. Only private contracts cite these.
--     more_values f xs      further values, each after a comma
use Rattle.std.specs.Prelude.{ℕ, Bool, true, false, List, [], ◌∷◌, ◌++◌, codes, flat_map, Option, Some}
use Rattle.serde_json.specs.Data.{Data, boolean, string}
use Rattle.serde_json.specs.Written.{compact_text}
use Rattle.udfs_lattice.specs.Tables.{Table, known_count, conflict_count}
use Rattle.udfs_volume.specs.Answers.{Answer}
use Rattle.udfs_volume.specs.declared.profiles.Profile.{Profile}
use Rattle.udfs_volume.specs.declared.profiles.Profile.TheVariants.{Strict, Wide}
use Rattle.udfs_file.specs.declared.faults.Kind.{Kind}
use Rattle.udfs_walk.specs.NodeFields.{NodeFields}
use Rattle.udfs_walk.specs.declared.answers.Unnamed.{Unnamed}
use Rattle.udfs_walk.specs.declared.standings.Standing.{Standing}
use Rattle.udfs_salvage.specs.Found.{Found}
use Rattle.udfs_salvage.specs.NodeTexts.{kind_name, path_name, standing_name}
use Rattle.udfs_walk.specs.Rereads.{holes_of, missing_of}
use Rattle.udfs_salvage.specs.JsonNodes.{count, hole_data, list_data, size_data, time_data}
use Rattle.udfs_salvage.specs.JsonReports.{label_data_of, volume_data}

-- further values, each after a comma
abbrev pub more_values : {A : Type 0} → (A → Data) → List A → List ℕ
more_values f xs = flat_map (λ x. 44 ∷ compact_text (f x)) xs

-- the object of a node up to its holes
unfoldable pub node_front : Bool → List ℕ
node_front hidden = codes "{\"hidden\":" ++ (compact_text (boolean hidden) ++ codes ",\"holes\":")

-- the object of an entry up to its holes
unfoldable pub entry_front : ℕ → List ℕ
entry_front block = codes "{\"block\":" ++ (compact_text (count block) ++ codes ",\"holes\":")

-- what is between the holes and the missing blocks
unfoldable pub kind_piece : Kind → List ℕ
kind_piece k = codes ",\"kind\":" ++ (compact_text (string (kind_name k)) ++ codes ",\"missing\":")

-- the holes, the kind and the missing blocks
abbrev pub told_piece : Standing → Kind → List ℕ
told_piece s k = compact_text (list_data hole_data (holes_of s)) ++ (kind_piece k ++ compact_text (list_data count (missing_of s)))

-- what ends an object: the mark of a body that is read by the tail of its last extent, if it is, and the brace
abbrev pub object_end : Bool → List ℕ
object_end true = codes ",\"tail\":true}"
object_end false = codes "}"

-- the standing, and the end of the object
unfoldable pub standing_piece : Bool → Standing → List ℕ
standing_piece tail s = codes ",\"standing\":" ++ (compact_text (string (standing_name s)) ++ object_end tail)

-- the size, and the standing
unfoldable pub end_piece : Bool → Option ℕ → Standing → List ℕ
end_piece tail size s = codes ",\"size\":" ++ (compact_text (size_data size) ++ standing_piece tail s)

-- the rest of the object of a node, after its missing blocks
unfoldable pub node_end : Bool → NodeFields → List ℕ
node_end tail n = codes ",\"modified\":" ++ (compact_text (time_data n.stamp) ++ (codes ",\"path\":" ++ (compact_text (string (path_name n.path)) ++ end_piece tail n.size n.standing)))

-- the partition reference where there are two partitions
abbrev pub reference_piece : Bool → ℕ → List ℕ
reference_piece true r = codes ",\"reference\":" ++ compact_text (count r)
reference_piece false r = []

-- the rest of the object of an entry, after its missing blocks
unfoldable pub entry_end : Bool → Unnamed → List ℕ
entry_end two u = codes ",\"modified\":" ++ (compact_text (time_data (Some u.stamp)) ++ (reference_piece two u.reference ++ end_piece false (Some u.size) u.standing))

-- how many blocks are in conflict, and how many are known
unfoldable pub counts_piece : Table → List ℕ
counts_piece table = codes "{\"conflict\":" ++ (compact_text (count (conflict_count table)) ++ (codes ",\"known\":" ++ compact_text (count (known_count table))))

-- the object of a report up to its nodes
unfoldable pub report_front : Table → ℕ → Answer Found → List ℕ
report_front table last volume =
    counts_piece table ++ (codes ",\"label\":" ++ (compact_text (label_data_of volume) ++ (codes ",\"last\":" ++ (compact_text (count last) ++ codes ",\"nodes\":"))))

-- what is between the nodes and the blocks to read again
abbrev pub reread_words : Profile → List ℕ
reread_words Strict = codes ",\"reread\":"
reread_words Wide = codes ",\"profile\":\"wide\",\"reread\":"

-- the rest of the object of a report, after its entries without names
unfoldable pub report_end : Answer Found → List ℕ
report_end volume = codes ",\"volume\":" ++ (compact_text (volume_data volume) ++ codes "}")
