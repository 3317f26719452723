-- The pieces of the JSON of a report are its text.
use Rattle.std.proofs.Common.{◌≡◌, refl, sym, ap, ◌∙◌, ℕ, Bool, true, false, List, [], ◌∷◌, ◌++◌, map, append_assoc}
use Rattle.std.proofs.lemmas.Simd.{map-map}
use Rattle.std.specs.Prelude.{Option, codes, Some}
use Rattle.serde_json.proofs.OnLiterals.{serde_json_on_literals}
use Rattle.serde_json.specs.Data.{Data, array, boolean, string}
use Rattle.serde_json.specs.View.{items_of}
use Rattle.serde_json.specs.Written.{compact_text, items_text}
use Rattle.udfs_lattice.specs.Tables.{Table, conflict_count, known_count, state_of}
use Rattle.udfs_lattice.specs.Volumes.{Blocks}
use Rattle.udfs_volume.specs.declared.profiles.Profile.{Profile}
use Rattle.udfs_volume.specs.declared.profiles.Profile.TheVariants.{Strict, Wide}
use Rattle.udfs_volume.specs.Answers.{Answer, found}
use Rattle.udfs_space.specs.Places.{View, view}
use Rattle.udfs_file.specs.declared.faults.Kind.{Kind}
use Rattle.udfs_walk.specs.Bare.{full_entry, full_node, lists_at, with_lists}
use Rattle.udfs_walk.specs.NodeFields.{NodeFields}
use Rattle.udfs_walk.specs.TornFields.{TornFields}
use Rattle.udfs_walk.specs.Targets.{icb_at}
use Rattle.udfs_walk.specs.UnnamedEntries.{address_of}
use Rattle.udfs_walk.specs.declared.answers.Unnamed.{Unnamed}
use Rattle.udfs_walk.specs.declared.standings.Standing.{Standing}
use Rattle.udfs_salvage.specs.Found.{Found}
use Rattle.udfs_salvage.specs.Reports.{Report}
use Rattle.udfs_salvage.specs.Surveys.{full_entries, full_nodes}
use Rattle.udfs_salvage.specs.NodeTexts.{kind_name, path_name}
use Rattle.udfs_salvage.specs.Texts.{has_two, line}
use Rattle.udfs_walk.specs.Rereads.{holes_of, missing_of}
use Rattle.udfs_salvage.specs.JsonNodes.{count, hole_data, list_data, node_data, node_in, size_data, tail_in, time_data, unnamed_data}
use Rattle.udfs_salvage.specs.JsonReports.{json_text_by, label_data_of, nodes_data, report_data_by, reread_data, volume_data}
use Rattle.udfs_salvage.specs.JsonPieces.{counts_piece, end_piece, entry_end, entry_front, kind_piece, more_values, node_end, node_front, object_end, reference_piece, report_end, report_front, reread_words, standing_piece, told_piece}
use Rattle.udfs_salvage.proofs.FullTexts.{same_name}

-- the values behind the first one, and the closing bracket
more_text : {A : Type 0} (f : A → Data) (xs : List A) → items_text true (items_of (map f xs)) ≡ more_values f xs ++ 93 ∷ []
more_text f [] = refl
more_text f (x ∷ xs) =
    ap (λ t. 44 ∷ (compact_text (f x) ++ t)) (more_text f xs)
    ∙ ap (λ t. 44 ∷ t) (sym (append_assoc (compact_text (f x)) (more_values f xs) (93 ∷ [])))

-- a list: its first value, those behind it, and the closing bracket
pub list_text : {A : Type 0} (f : A → Data) (x : A) (xs : List A) → (91 ∷ compact_text (f x)) ++ (more_values f xs ++ 93 ∷ []) ≡ compact_text (list_data f (x ∷ xs))
list_text f x xs = ap (λ t. 91 ∷ (compact_text (f x) ++ t)) (sym (more_text f xs))

-- pieces that are put together, in a row
in_row : (a b c holes d kind e missing rest : List ℕ) → (a ++ (b ++ c)) ++ ((holes ++ ((d ++ (kind ++ e)) ++ missing)) ++ rest) ≡ a ++ (b ++ (c ++ (holes ++ (d ++ (kind ++ (e ++ (missing ++ rest)))))))
in_row a b c holes d kind e missing rest = simp append_assoc

pub node_pieces : (tail : Bool) (n : NodeFields) → node_front n.hidden ++ (told_piece n.standing n.kind ++ node_end tail n) ≡ compact_text (node_data tail n)
unfolding node_front kind_piece node_end end_piece standing_piece node_data serde_json_on_literals
node_pieces true n =
    in_row (codes "{\"hidden\":") (compact_text (boolean n.hidden)) (codes ",\"holes\":") (compact_text (list_data hole_data (holes_of n.standing))) (codes ",\"kind\":")
    (compact_text (string (kind_name n.kind))) (codes ",\"missing\":") (compact_text (list_data count (missing_of n.standing))) (node_end true n)
node_pieces false n =
    in_row (codes "{\"hidden\":") (compact_text (boolean n.hidden)) (codes ",\"holes\":") (compact_text (list_data hole_data (holes_of n.standing))) (codes ",\"kind\":")
    (compact_text (string (kind_name n.kind))) (codes ",\"missing\":") (compact_text (list_data count (missing_of n.standing))) (node_end false n)

with_two : (a b c d rest : List ℕ) → a ++ (b ++ ((c ++ d) ++ rest)) ≡ a ++ (b ++ (c ++ (d ++ rest)))
with_two a b c d rest = ap (λ x. a ++ (b ++ x)) (append_assoc c d rest)

pub entry_pieces : (two : Bool) (u : Unnamed) → entry_front u.block ++ (told_piece u.standing u.kind ++ entry_end two u) ≡ compact_text (unnamed_data two u)
unfolding entry_front kind_piece entry_end end_piece standing_piece unnamed_data serde_json_on_literals
entry_pieces true u =
    in_row (codes "{\"block\":") (compact_text (count u.block)) (codes ",\"holes\":") (compact_text (list_data hole_data (holes_of u.standing))) (codes ",\"kind\":")
    (compact_text (string (kind_name u.kind))) (codes ",\"missing\":") (compact_text (list_data count (missing_of u.standing))) (entry_end true u)
    ∙ ap (λ x. codes "{\"block\":" ++ (compact_text (count u.block) ++ (codes ",\"holes\":" ++ (compact_text (list_data hole_data (holes_of u.standing)) ++ (codes ",\"kind\":"
    ++ (compact_text (string (kind_name u.kind)) ++ (codes ",\"missing\":" ++ (compact_text (list_data count (missing_of u.standing)) ++ x))))))))
    (with_two (codes ",\"modified\":") (compact_text (time_data (Some u.stamp))) (codes ",\"reference\":") (compact_text (count u.reference)) (end_piece false (Some u.size) u.standing))
entry_pieces false u =
    in_row (codes "{\"block\":") (compact_text (count u.block)) (codes ",\"holes\":") (compact_text (list_data hole_data (holes_of u.standing))) (codes ",\"kind\":")
    (compact_text (string (kind_name u.kind))) (codes ",\"missing\":") (compact_text (list_data count (missing_of u.standing))) (entry_end false u)

-- ---- nodes and entries whose blocks and holes are found where they are told

-- the lists are no part of the end of an object
same_end : (lists : TornFields) (tail : Bool) (size : Option ℕ) (s : Standing) → end_piece tail size (with_lists lists s) ≡ end_piece tail size s
unfolding end_piece standing_piece
same_end lists tail size s = ap (λ t. codes ",\"size\":" ++ (compact_text (size_data size) ++ (codes ",\"standing\":" ++ (compact_text (string t) ++ object_end tail)))) (same_name lists s)

same_node_end : (v : View) (tail : Bool) (n : NodeFields) → node_end tail (full_node v n) ≡ node_end tail n
unfolding node_end
same_node_end v tail n =
    ap (λ t. codes ",\"modified\":" ++ (compact_text (time_data n.stamp) ++ (codes ",\"path\":" ++ (compact_text (string (path_name n.path)) ++ t))))
    (same_end (lists_at v n.icb) tail n.size n.standing)

same_entry_end : (v : View) (two : Bool) (u : Unnamed) → entry_end two (full_entry v u) ≡ entry_end two u
unfolding entry_end
same_entry_end v two u =
    ap (λ t. codes ",\"modified\":" ++ (compact_text (time_data (Some u.stamp)) ++ (reference_piece two u.reference ++ t)))
    (same_end (lists_at v (address_of (icb_at u.reference u.block))) false (Some u.size) u.standing)

-- what stands before a node, and its pieces
node_behind : (front : List ℕ) (v : View) (tail : Bool) (n : NodeFields) (s : Standing) → s ≡ with_lists (lists_at v n.icb) n.standing
    → (front ++ node_front n.hidden) ++ (told_piece s n.kind ++ node_end tail n) ≡ front ++ compact_text (node_data tail (full_node v n))
node_behind front v tail n s is =
    append_assoc front (node_front n.hidden) (told_piece s n.kind ++ node_end tail n)
    ∙ ap (λ t. front ++ (node_front n.hidden ++ (told_piece t n.kind ++ node_end tail n))) is
    ∙ ap (λ t. front ++ (node_front n.hidden ++ (told_piece (with_lists (lists_at v n.icb) n.standing) n.kind ++ t))) (sym (same_node_end v tail n))
    ∙ ap (λ t. front ++ t) (node_pieces tail (full_node v n))

-- the same where the fields were read one by one
pub full_node_pieces : (front : List ℕ) (P : Profile) (v : View) (n : NodeFields) (hidden : Bool) (k : Kind) (s : Standing) (tail : Bool) → hidden ≡ n.hidden → k ≡ n.kind
    → s ≡ with_lists (lists_at v n.icb) n.standing → tail ≡ tail_in P v n.icb
    → (front ++ node_front hidden) ++ (told_piece s k ++ node_end tail n) ≡ front ++ compact_text (node_in P v (full_node v n))
full_node_pieces front P v n hidden k s tail same_hidden same_kind is marked =
    ap (λ h. (front ++ node_front h) ++ (told_piece s k ++ node_end tail n)) same_hidden
    ∙ ap (λ l. (front ++ node_front n.hidden) ++ (told_piece s l ++ node_end tail n)) same_kind
    ∙ node_behind front v tail n s is
    ∙ ap (λ t. front ++ compact_text (node_data t (full_node v n))) marked

-- the same of a node with another standing
pub told_by_fields : (front : List ℕ) (n : NodeFields) (hidden : Bool) (k : Kind) (s : Standing) (end : List ℕ) → hidden ≡ n.hidden → k ≡ n.kind
    → (front ++ node_front hidden) ++ (told_piece s k ++ end) ≡ (front ++ node_front n.hidden) ++ (told_piece s n.kind ++ end)
told_by_fields front n hidden k s end same_hidden same_kind =
    ap (λ h. (front ++ node_front h) ++ (told_piece s k ++ end)) same_hidden
    ∙ ap (λ l. (front ++ node_front n.hidden) ++ (told_piece s l ++ end)) same_kind

-- the same of an entry
pub full_entry_pieces : (front : List ℕ) (v : View) (two : Bool) (u : Unnamed) (s : Standing) → s ≡ with_lists (lists_at v (address_of (icb_at u.reference u.block))) u.standing
    → (front ++ entry_front u.block) ++ (told_piece s u.kind ++ entry_end two u) ≡ front ++ compact_text (unnamed_data two (full_entry v u))
full_entry_pieces front v two u s is =
    append_assoc front (entry_front u.block) (told_piece s u.kind ++ entry_end two u)
    ∙ ap (λ t. front ++ (entry_front u.block ++ (told_piece t u.kind ++ entry_end two u))) is
    ∙ ap (λ t. front ++ (entry_front u.block ++ (told_piece (with_lists (lists_at v (address_of (icb_at u.reference u.block))) u.standing) u.kind ++ t))) (sym (same_entry_end v two u))
    ∙ ap (λ t. front ++ t) (entry_pieces two (full_entry v u))

-- a list of values that are found where they are told
pub full_list : {A B : Type 0} (f : B → Data) (g : A → B) (xs : List A) → list_data (λ x. f (g x)) xs ≡ list_data f (map g xs)
full_list f g xs = ap (λ ds. array (items_of ds)) (sym (map-map f g xs))

-- where the volume opens, the nodes of a survey are told with what they lack
pub survey_nodes : (P : Profile) (M : Blocks) (a : Answer Found) (f : Found) (ns : List NodeFields) → a ≡ found f
    → compact_text (list_data (λ n. node_in P (view M f.space) (full_node (view M f.space) n)) ns) ≡ compact_text (nodes_data P M a (full_nodes M a ns))
survey_nodes P M a f ns is =
    ap compact_text (full_list (node_in P (view M f.space)) (full_node (view M f.space)) ns) ∙ ap (λ x. compact_text (nodes_data P M x (full_nodes M x ns))) (sym is)

-- the same of its entries
pub survey_entries : (M : Blocks) (a : Answer Found) (f : Found) (two : Bool) (us : List Unnamed) → a ≡ found f
    → compact_text (list_data (λ u. unnamed_data two (full_entry (view M f.space) u)) us) ≡ compact_text (list_data (unnamed_data two) (full_entries M a us))
survey_entries M a f two us is =
    ap compact_text (full_list (unnamed_data two) (full_entry (view M f.space)) us) ∙ ap (λ x. compact_text (list_data (unnamed_data two) (full_entries M x us))) (sym is)

-- ---- a report

-- the same of a report, whose front has two pieces
in_report : (a b c d e label f last g rest : List ℕ) → ((a ++ (b ++ (c ++ d))) ++ (e ++ (label ++ (f ++ (last ++ g))))) ++ rest ≡ a ++ (b ++ (c ++ (d ++ (e ++ (label ++ (f ++ (last ++ (g ++ rest))))))))
in_report a b c d e label f last g rest = simp append_assoc

-- the line ends behind it
in_line : (a nodes b rereads c unnamed d volume e z : List ℕ) → (a ++ (nodes ++ (b ++ (rereads ++ (c ++ (unnamed ++ (d ++ (volume ++ e)))))))) ++ z ≡ a ++ (nodes ++ (b ++ (rereads ++ (c ++ (unnamed ++ ((d ++ (volume ++ e)) ++ z))))))
in_line a nodes b rereads c unnamed d volume e z = simp append_assoc

-- the object of a report, key by key: what stands between the nodes and the blocks to read again is by the rules
pub keys_of : (P : Profile) (t : Table) (last : ℕ) (r : Report) →
    codes "{\"conflict\":" ++ (compact_text (count (conflict_count t)) ++ (codes ",\"known\":" ++ (compact_text (count (known_count t))
    ++ (codes ",\"label\":" ++ (compact_text (label_data_of r.volume) ++ (codes ",\"last\":" ++ (compact_text (count last)
    ++ (codes ",\"nodes\":" ++ (compact_text (nodes_data P (state_of t) r.volume r.nodes)
    ++ (reread_words P ++ (compact_text (list_data (reread_data (state_of t)) r.reread)
    ++ (codes ",\"unnamed\":" ++ (compact_text (list_data (unnamed_data (has_two r.volume)) r.unnamed)
    ++ (codes ",\"volume\":" ++ (compact_text (volume_data r.volume) ++ codes "}")))))))))))))))
    ≡ json_text_by P t last r
unfolding report_data_by serde_json_on_literals
keys_of Strict t last r = refl
keys_of Wide t last r = refl

pub report_pieces : (P : Profile) (t : Table) (last : ℕ) (r : Report) →
    report_front t last r.volume ++ (compact_text (nodes_data P (state_of t) r.volume r.nodes)
    ++ (reread_words P ++ (compact_text (list_data (reread_data (state_of t)) r.reread)
    ++ (codes ",\"unnamed\":" ++ (compact_text (list_data (unnamed_data (has_two r.volume)) r.unnamed)
    ++ (report_end r.volume ++ codes "\n"))))))
    ≡ line (json_text_by P t last r)
unfolding report_front counts_piece report_end
report_pieces P t last r =
    let nodes = compact_text (nodes_data P (state_of t) r.volume r.nodes) in
    let rereads = compact_text (list_data (reread_data (state_of t)) r.reread) in
    let unnamed = compact_text (list_data (unnamed_data (has_two r.volume)) r.unnamed) in
    let volume = compact_text (volume_data r.volume) in
    sym (in_line (report_front t last r.volume) nodes (reread_words P) rereads (codes ",\"unnamed\":") unnamed (codes ",\"volume\":") volume (codes "}") (codes "\n"))
    ∙ ap line (in_report (codes "{\"conflict\":") (compact_text (count (conflict_count t))) (codes ",\"known\":") (compact_text (count (known_count t)))
    (codes ",\"label\":") (compact_text (label_data_of r.volume)) (codes ",\"last\":") (compact_text (count last)) (codes ",\"nodes\":")
    (nodes ++ (reread_words P ++ (rereads ++ (codes ",\"unnamed\":" ++ (unnamed ++ (codes ",\"volume\":" ++ (volume ++ codes "}")))))))
    ∙ keys_of P t last r)

-- the same of a store's states, which are the table's
pub report_pieces_by : (P : Profile) (M : Blocks) (t : Table) (last : ℕ) (r : Report) → M ≡ state_of t →
    report_front t last r.volume ++ (compact_text (nodes_data P M r.volume r.nodes)
    ++ (reread_words P ++ (compact_text (list_data (reread_data M) r.reread)
    ++ (codes ",\"unnamed\":" ++ (compact_text (list_data (unnamed_data (has_two r.volume)) r.unnamed)
    ++ (report_end r.volume ++ codes "\n"))))))
    ≡ line (json_text_by P t last r)
report_pieces_by P M t last r same =
    ap (λ (blocks : Blocks). report_front t last r.volume ++ (compact_text (nodes_data P blocks r.volume r.nodes)
    ++ (reread_words P ++ (compact_text (list_data (reread_data blocks) r.reread)
    ++ (codes ",\"unnamed\":" ++ (compact_text (list_data (unnamed_data (has_two r.volume)) r.unnamed)
    ++ (report_end r.volume ++ codes "\n"))))))) same
    ∙ report_pieces P t last r
