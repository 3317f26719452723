-- The pieces of the objects of a summary are their texts.
use Rattle.std.proofs.Common.{◌≡◌, refl, ℕ, ◌+◌, List, ◌++◌, append_assoc, ◌∙◌, ap, subst}
use Rattle.std.specs.Prelude.{OnOk, Result, codes, decimal}
use Rattle.serde_json.proofs.OnLiterals.{serde_json_on_literals}
use Rattle.serde_json.specs.Data.{boolean, string}
use Rattle.serde_json.specs.Written.{compact_text}
use Rattle.udfs_volume.specs.Layout.{Layout}
use Rattle.udfs_salvage.specs.Texts.{revision_text}
use Rattle.udfs_lawfulness.specs.declared.answers.Lawfulness.{Lawfulness}
use Rattle.udfs_overview.specs.Guarantees.{guarantee_text}
use Rattle.udfs_overview.specs.SummaryJson.{disc_data, fault_data, files_data, folders_data, guarantee_data, guarantee_state, holes_data, is_at_least, label_data, lost_data, open_count, open_data, others_data, profile_name, remarks_data, unnamed_data}
use Rattle.udfs_overview.specs.SummaryPieces.{ends_piece, names_piece, nodes_piece, whole_piece}
use Rattle.udfs_overview.specs.declared.disc_tallies.DiscTally.{DiscTally}
use Rattle.udfs_overview.specs.declared.disc_tallies.UnnamedTally.{UnnamedTally}
use Rattle.udfs_overview.specs.declared.lost_tallies.LostTally.{LostTally}
use Rattle.udfs_overview.specs.declared.summary_figures.Figures.{Figures}
use Rattle.udfs_overview.specs.declared.tallies.Tally.{Tally}
use Rattle.udfs_overview.specs.declared.verdicts.Verdict.{Verdict}
use Rattle.udfs_overview.proofs.Chains.{both_appended, last_appended}

-- ---- texts that are appended one behind the other, the last of them where it could be

pub two_behind : {T E : Type 0} (r : Result T E) (old t1 new a1 a2 : List ℕ) → t1 ≡ old ++ a1 → OnOk r (new ≡ t1 ++ a2) → OnOk r (new ≡ old ++ (a1 ++ a2))
two_behind r old t1 new a1 a2 e1 h = last_appended r old t1 new a1 a2 e1 h

pub three_behind : {T E : Type 0} (r : Result T E) (old t1 t2 new a1 a2 a3 : List ℕ) → t1 ≡ old ++ a1 → t2 ≡ t1 ++ a2 → OnOk r (new ≡ t2 ++ a3) → OnOk r (new ≡ old ++ (a1 ++ a2 ++ a3))
three_behind r old t1 t2 new a1 a2 a3 e1 e2 h = two_behind r old t2 new (a1 ++ a2) a3 (both_appended old t1 t2 a1 a2 e1 e2) h

pub four_behind : {T E : Type 0} (r : Result T E) (old t1 t2 t3 new a1 a2 a3 a4 : List ℕ) → t1 ≡ old ++ a1 → t2 ≡ t1 ++ a2 → t3 ≡ t2 ++ a3 → OnOk r (new ≡ t3 ++ a4) → OnOk r (new ≡ old ++ (a1 ++ a2 ++ a3 ++ a4))
four_behind r old t1 t2 t3 new a1 a2 a3 a4 e1 e2 e3 h = three_behind r old t2 t3 new (a1 ++ a2) a3 a4 (both_appended old t1 t2 a1 a2 e1 e2) e3 h

pub five_behind : {T E : Type 0} (r : Result T E) (old t1 t2 t3 t4 new a1 a2 a3 a4 a5 : List ℕ) → t1 ≡ old ++ a1 → t2 ≡ t1 ++ a2 → t3 ≡ t2 ++ a3 → t4 ≡ t3 ++ a4 → OnOk r (new ≡ t4 ++ a5) → OnOk r (new ≡ old ++ (a1 ++ a2 ++ a3 ++ a4 ++ a5))
five_behind r old t1 t2 t3 t4 new a1 a2 a3 a4 a5 e1 e2 e3 e4 h = four_behind r old t2 t3 t4 new (a1 ++ a2) a3 a4 a5 (both_appended old t1 t2 a1 a2 e1 e2) e3 e4 h

pub six_behind : {T E : Type 0} (r : Result T E) (old t1 t2 t3 t4 t5 new a1 a2 a3 a4 a5 a6 : List ℕ) → t1 ≡ old ++ a1 → t2 ≡ t1 ++ a2 → t3 ≡ t2 ++ a3 → t4 ≡ t3 ++ a4 → t5 ≡ t4 ++ a5 → OnOk r (new ≡ t5 ++ a6) → OnOk r (new ≡ old ++ (a1 ++ a2 ++ a3 ++ a4 ++ a5 ++ a6))
six_behind r old t1 t2 t3 t4 t5 new a1 a2 a3 a4 a5 a6 e1 e2 e3 e4 e5 h = five_behind r old t2 t3 t4 t5 new (a1 ++ a2) a3 a4 a5 a6 (both_appended old t1 t2 a1 a2 e1 e2) e3 e4 e5 h

pub seven_behind : {T E : Type 0} (r : Result T E) (old t1 t2 t3 t4 t5 t6 new a1 a2 a3 a4 a5 a6 a7 : List ℕ) → t1 ≡ old ++ a1 → t2 ≡ t1 ++ a2 → t3 ≡ t2 ++ a3 → t4 ≡ t3 ++ a4 → t5 ≡ t4 ++ a5 → t6 ≡ t5 ++ a6 → OnOk r (new ≡ t6 ++ a7) → OnOk r (new ≡ old ++ (a1 ++ a2 ++ a3 ++ a4 ++ a5 ++ a6 ++ a7))
seven_behind r old t1 t2 t3 t4 t5 t6 new a1 a2 a3 a4 a5 a6 a7 e1 e2 e3 e4 e5 e6 h = six_behind r old t2 t3 t4 t5 t6 new (a1 ++ a2) a3 a4 a5 a6 a7 (both_appended old t1 t2 a1 a2 e1 e2) e3 e4 e5 e6 h

-- ---- pieces in a row

two_pairs : (f1 d1 f2 d2 e : List ℕ) → (f1 ++ d1) ++ (f2 ++ (d2 ++ e)) ≡ f1 ++ (d1 ++ (f2 ++ (d2 ++ e)))
two_pairs f1 d1 f2 d2 e = simp append_assoc

three_pairs : (f1 d1 f2 d2 f3 d3 e : List ℕ) → (f1 ++ d1) ++ (f2 ++ d2) ++ (f3 ++ (d3 ++ e)) ≡ f1 ++ (d1 ++ (f2 ++ (d2 ++ (f3 ++ (d3 ++ e)))))
three_pairs f1 d1 f2 d2 f3 d3 e = simp append_assoc

four_pairs : (f1 d1 f2 d2 f3 d3 f4 d4 e : List ℕ) → (f1 ++ d1) ++ (f2 ++ d2) ++ (f3 ++ d3) ++ (f4 ++ (d4 ++ e)) ≡ f1 ++ (d1 ++ (f2 ++ (d2 ++ (f3 ++ (d3 ++ (f4 ++ (d4 ++ e)))))))
four_pairs f1 d1 f2 d2 f3 d3 f4 d4 e = simp append_assoc

six_pairs : (f1 d1 f2 d2 f3 d3 f4 d4 f5 d5 f6 d6 e : List ℕ) → (f1 ++ d1) ++ (f2 ++ d2) ++ (f3 ++ d3) ++ (f4 ++ d4) ++ (f5 ++ d5) ++ (f6 ++ (d6 ++ e)) ≡ f1 ++ (d1 ++ (f2 ++ (d2 ++ (f3 ++ (d3 ++ (f4 ++ (d4 ++ (f5 ++ (d5 ++ (f6 ++ (d6 ++ e)))))))))))
six_pairs f1 d1 f2 d2 f3 d3 f4 d4 f5 d5 f6 d6 e = simp append_assoc

seven_pairs : (f1 d1 f2 d2 f3 d3 f4 d4 f5 d5 f6 d6 f7 d7 e : List ℕ) → (f1 ++ d1) ++ (f2 ++ d2) ++ (f3 ++ d3) ++ (f4 ++ d4) ++ (f5 ++ d5) ++ (f6 ++ d6) ++ (f7 ++ (d7 ++ e)) ≡ f1 ++ (d1 ++ (f2 ++ (d2 ++ (f3 ++ (d3 ++ (f4 ++ (d4 ++ (f5 ++ (d5 ++ (f6 ++ (d6 ++ (f7 ++ (d7 ++ e)))))))))))))
seven_pairs f1 d1 f2 d2 f3 d3 f4 d4 f5 d5 f6 d6 f7 d7 e = simp append_assoc

pub disc_pieces : (last : ℕ) (t : DiscTally) → (codes "{\"blocks\":" ++ decimal (last + 1)) ++ (codes ",\"conflicts\":" ++ decimal t.conflicts) ++ (codes ",\"known\":" ++ decimal t.known) ++ (codes ",\"needed\":" ++ decimal t.needed) ++ (codes ",\"not_known\":" ++ decimal t.not_known) ++ (codes ",\"places\":" ++ (decimal t.runs ++ codes "}")) ≡ compact_text (disc_data last t)
unfolding disc_data serde_json_on_literals
disc_pieces last t = six_pairs (codes "{\"blocks\":") (decimal (last + 1)) (codes ",\"conflicts\":") (decimal t.conflicts) (codes ",\"known\":") (decimal t.known) (codes ",\"needed\":") (decimal t.needed) (codes ",\"not_known\":") (decimal t.not_known) (codes ",\"places\":") (decimal t.runs) (codes "}")

pub files_pieces : (t : Tally) → (codes "{\"disputed\":" ++ decimal t.disputed) ++ (codes ",\"left_out\":" ++ decimal t.left_out) ++ (codes ",\"lost_bytes\":" ++ decimal t.lost_bytes) ++ (codes ",\"torn\":" ++ decimal t.torn_files) ++ (codes ",\"torn_bytes\":" ++ decimal t.torn_bytes) ++ (codes ",\"whole\":" ++ decimal t.whole_files) ++ (codes ",\"whole_bytes\":" ++ (decimal t.whole_bytes ++ codes "}")) ≡ compact_text (files_data t)
unfolding files_data serde_json_on_literals
files_pieces t = seven_pairs (codes "{\"disputed\":") (decimal t.disputed) (codes ",\"left_out\":") (decimal t.left_out) (codes ",\"lost_bytes\":") (decimal t.lost_bytes) (codes ",\"torn\":") (decimal t.torn_files) (codes ",\"torn_bytes\":") (decimal t.torn_bytes) (codes ",\"whole\":") (decimal t.whole_files) (codes ",\"whole_bytes\":") (decimal t.whole_bytes) (codes "}")

pub folders_pieces : (t : Tally) → (codes "{\"torn\":" ++ decimal t.torn_folders) ++ (codes ",\"whole\":" ++ (decimal t.whole_folders ++ codes "}")) ≡ compact_text (folders_data t)
unfolding folders_data serde_json_on_literals
folders_pieces t = two_pairs (codes "{\"torn\":") (decimal t.torn_folders) (codes ",\"whole\":") (decimal t.whole_folders) (codes "}")

pub others_pieces : (t : Tally) → (codes "{\"faulty\":" ++ decimal t.faulty) ++ (codes ",\"links_and_devices\":" ++ decimal t.others) ++ (codes ",\"loops\":" ++ decimal t.loops) ++ (codes ",\"unread\":" ++ (decimal t.unread ++ codes "}")) ≡ compact_text (others_data t)
unfolding others_data serde_json_on_literals
others_pieces t = four_pairs (codes "{\"faulty\":") (decimal t.faulty) (codes ",\"links_and_devices\":") (decimal t.others) (codes ",\"loops\":") (decimal t.loops) (codes ",\"unread\":") (decimal t.unread) (codes "}")

pub unnamed_pieces : (t : UnnamedTally) → (codes "{\"empty\":" ++ decimal t.empty) ++ (codes ",\"with_data\":" ++ (decimal t.with_data ++ codes "}")) ≡ compact_text (unnamed_data t)
unfolding unnamed_data serde_json_on_literals
unnamed_pieces t = two_pairs (codes "{\"empty\":") (decimal t.empty) (codes ",\"with_data\":") (decimal t.with_data) (codes "}")

pub lost_pieces : (t : LostTally) → (codes "{\"deleted\":" ++ decimal t.deleted) ++ (codes ",\"files_without_folder\":" ++ decimal t.files) ++ (codes ",\"folders\":" ++ decimal t.folders) ++ (codes ",\"too_many\":" ++ compact_text (boolean t.too_many)) ++ (codes ",\"torn\":" ++ decimal t.torn_files) ++ (codes ",\"whole\":" ++ decimal t.whole_files) ++ (codes ",\"whole_bytes\":" ++ (decimal t.whole_bytes ++ codes "}")) ≡ compact_text (lost_data t)
unfolding lost_data serde_json_on_literals
lost_pieces t = seven_pairs (codes "{\"deleted\":") (decimal t.deleted) (codes ",\"files_without_folder\":") (decimal t.files) (codes ",\"folders\":") (decimal t.folders) (codes ",\"too_many\":") (compact_text (boolean t.too_many)) (codes ",\"torn\":") (decimal t.torn_files) (codes ",\"whole\":") (decimal t.whole_files) (codes ",\"whole_bytes\":") (decimal t.whole_bytes) (codes "}")

pub remarks_pieces : (f : Figures) → (codes "{\"moved_folders\":" ++ decimal f.moved) ++ (codes ",\"spares_disagree\":" ++ compact_text (boolean f.spares_disagree)) ++ (codes ",\"with_streams\":" ++ (decimal f.streams ++ codes "}")) ≡ compact_text (remarks_data f)
unfolding remarks_data serde_json_on_literals
remarks_pieces f = three_pairs (codes "{\"moved_folders\":") (decimal f.moved) (codes ",\"spares_disagree\":") (compact_text (boolean f.spares_disagree)) (codes ",\"with_streams\":") (decimal f.streams) (codes "}")

guarantee_row : (f1 d1 f2 d2 f3 d3 e : List ℕ) → (f1 ++ d1) ++ (f2 ++ d2) ++ (f3 ++ d3) ++ e ≡ f1 ++ (d1 ++ (f2 ++ (d2 ++ (f3 ++ (d3 ++ e)))))
guarantee_row f1 d1 f2 d2 f3 d3 e = simp append_assoc

pub guarantee_pieces : (a : Lawfulness) → (codes "{\"not_known\":" ++ decimal (open_count a)) ++ (codes ",\"state\":" ++ compact_text (string (guarantee_state a))) ++ (codes ",\"text\":" ++ compact_text (string (guarantee_text a))) ++ codes "}" ≡ compact_text (guarantee_data a)
unfolding guarantee_data serde_json_on_literals
guarantee_pieces a =
    guarantee_row (codes "{\"not_known\":") (decimal (open_count a)) (codes ",\"state\":") (compact_text (string (guarantee_state a))) (codes ",\"text\":") (compact_text (string (guarantee_text a))) (codes "}")

holes_row : (a d g w l t f p e : List ℕ) → a ++ d ++ (g ++ w) ++ (l ++ t) ++ (f ++ p) ++ e ≡ a ++ (d ++ (g ++ (w ++ (l ++ (t ++ (f ++ (p ++ e)))))))
holes_row a d g w l t f p e = simp append_assoc

pub holes_pieces : (f : Figures) (a : Verdict) → codes "{\"disc\":" ++ compact_text (disc_data f.last f.disc) ++ (codes ",\"guarantee\":" ++ compact_text (guarantee_data a.lawfulness))
    ++ (codes ",\"lost\":" ++ compact_text (lost_data a.lost)) ++ (codes ",\"profile\":" ++ compact_text (string (profile_name f.profile))) ++ codes ",\"state\":\"holes\"}" ≡ compact_text (holes_data f a)
unfolding holes_data serde_json_on_literals
holes_pieces f a =
    holes_row (codes "{\"disc\":") (compact_text (disc_data f.last f.disc)) (codes ",\"guarantee\":") (compact_text (guarantee_data a.lawfulness)) (codes ",\"lost\":") (compact_text (lost_data a.lost)) (codes ",\"profile\":") (compact_text (string (profile_name f.profile))) (codes ",\"state\":\"holes\"}")

fault_row : (a d f n h w l t g p e : List ℕ) → a ++ d ++ (f ++ n) ++ (h ++ w) ++ (l ++ t) ++ (g ++ p) ++ e ≡ a ++ (d ++ (f ++ (n ++ (h ++ (w ++ (l ++ (t ++ (g ++ (p ++ e)))))))))
fault_row a d f n h w l t g p e = simp append_assoc

pub fault_pieces : (f : Figures) (name : List ℕ) (a : Verdict) → codes "{\"disc\":" ++ compact_text (disc_data f.last f.disc) ++ (codes ",\"fault\":" ++ compact_text (string name))
    ++ (codes ",\"guarantee\":" ++ compact_text (guarantee_data a.lawfulness)) ++ (codes ",\"lost\":" ++ compact_text (lost_data a.lost)) ++ (codes ",\"profile\":" ++ compact_text (string (profile_name f.profile))) ++ codes ",\"state\":\"fault\"}" ≡ compact_text (fault_data f name a)
unfolding fault_data serde_json_on_literals
fault_pieces f name a =
    fault_row (codes "{\"disc\":") (compact_text (disc_data f.last f.disc)) (codes ",\"fault\":") (compact_text (string name)) (codes ",\"guarantee\":") (compact_text (guarantee_data a.lawfulness)) (codes ",\"lost\":") (compact_text (lost_data a.lost)) (codes ",\"profile\":") (compact_text (string (profile_name f.profile))) (codes ",\"state\":\"fault\"}")

open_row : (a1 a2 b1 b2 c1 c2 f1 f2 g1 g2 h1 h2 l1 l2 t1 t2 o1 o2 p1 p2 r1 r2 v1 v2 u1 u2 e : List ℕ)
    → ((a1 ++ a2) ++ (b1 ++ b2) ++ c1 ++ c2) ++ (f1 ++ f2 ++ g1 ++ g2 ++ (h1 ++ h2)) ++ (l1 ++ l2 ++ (t1 ++ t2) ++ o1 ++ o2) ++ ((p1 ++ p2) ++ r1 ++ r2 ++ (v1 ++ v2) ++ u1 ++ u2 ++ e)
    ≡ a1 ++ (a2 ++ (b1 ++ (b2 ++ (c1 ++ (c2 ++ (f1 ++ (f2 ++ (g1 ++ (g2 ++ (h1 ++ (h2 ++ (l1 ++ (l2 ++ (t1 ++ (t2 ++ (o1 ++ (o2 ++ (p1 ++ (p2 ++ (r1 ++ (r2 ++ (v1 ++ (v2 ++ (u1 ++ (u2 ++ e)))))))))))))))))))))))))
open_row a1 a2 b1 b2 c1 c2 f1 f2 g1 g2 h1 h2 l1 l2 t1 t2 o1 o2 p1 p2 r1 r2 v1 v2 u1 u2 e = simp append_assoc

pub open_pieces : (f : Figures) (l : Layout) (a : Verdict) → whole_piece f ++ nodes_piece f a.lawfulness ++ names_piece f l a.lost ++ ends_piece f l ≡ compact_text (open_data f l a)
unfolding whole_piece nodes_piece names_piece ends_piece open_data serde_json_on_literals
open_pieces f l a =
    open_row (codes "{\"all_whole\":") (compact_text (boolean f.all_whole)) (codes ",\"at_least\":") (compact_text (boolean (is_at_least f.tally))) (codes ",\"disc\":") (compact_text (disc_data f.last f.disc))
    (codes ",\"files\":") (compact_text (files_data f.tally)) (codes ",\"folders\":") (compact_text (folders_data f.tally)) (codes ",\"guarantee\":") (compact_text (guarantee_data a.lawfulness)) (codes ",\"label\":") (compact_text (label_data l.label))
    (codes ",\"lost\":") (compact_text (lost_data a.lost)) (codes ",\"others\":") (compact_text (others_data f.tally)) (codes ",\"profile\":") (compact_text (string (profile_name f.profile))) (codes ",\"remarks\":") (compact_text (remarks_data f))
    (codes ",\"revision\":") (compact_text (string (revision_text l.revision))) (codes ",\"state\":\"ok\",\"unnamed\":") (compact_text (unnamed_data f.unnamed)) (codes "}")
