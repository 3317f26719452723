-- A table has one report, and what is promised holds of it.
use Rattle.std.proofs.Common.{◌≡◌, refl, sym, ◌∙◌, ap, subst, ℕ, ◌≤◌, List, [], length, map, true, false, Bool, nat_le}
use Rattle.std.specs.Prelude.{Contains}
use Rattle.std.proofs.lemmas.Bool.{leb-true, leb-false}
use Rattle.udfs_volume.specs.declared.profiles.Profile.{Profile}
use Rattle.udfs_lattice.specs.Tables.{state_of}
use Rattle.udfs_lattice.specs.Volumes.{Blocks, Volume, Agrees}
use Rattle.udfs_lattice.proofs.Inclusion.{in_nothing}
use Rattle.udfs_osta.specs.Escapes.{escaped}
use Rattle.udfs_osta.specs.Parts.{IsPathPart}
use Rattle.udfs_volume.specs.Answers.{Answer, found, holes, faulty}
use Rattle.udfs_space.specs.Places.{view}
use Rattle.udfs_walk.specs.NodeFields.{NodeFields}
use Rattle.udfs_walk.specs.Nodes.{node}
use Rattle.udfs_walk.specs.Rereads.{reread}
use Rattle.udfs_walk.specs.Routes.{Walked, IsWalk}
use Rattle.udfs_walk.specs.UnnamedEntries.{unnamed}
use Rattle.udfs_walk.proofs.PublicLaws.{more_routes, only_walk, paths_have_parts, some_walk}
use Rattle.udfs_salvage.specs.Found.{Found, volume_by}
use Rattle.udfs_salvage.specs.Headline.{OneReportBy, OneTextBy, ReportsKeepItBy, SomeReportBy}
use Rattle.udfs_salvage.specs.NodeTexts.{report_text_by}
use Rattle.udfs_salvage.specs.Reports.{Report, ReportsBy, IsReportBy}
use Rattle.udfs_salvage.specs.VolumeTrees.{IsLawfulBy}
use Rattle.udfs_salvage.proofs.Rereading.{met_is_reported, rereads_suffice, stays_whole}
use Rattle.udfs_salvage.proofs.TreeReports.{out_of_range, tells_tree, tells_whole_tree, too_many}
use Rattle.udfs_salvage.proofs.VolumeLaw.{tells_lawful}

-- ---- at most one
same_report : (r s : Report) → s.volume ≡ r.volume → s.nodes ≡ r.nodes → s.unnamed ≡ r.unnamed → s.reread ≡ r.reread → s ≡ r
same_report r s v n u w = λ i. record { volume = v i; nodes = n i; unnamed = u i; reread = w i }

same_by : (M : Blocks) (told : Answer Found) (r s : Report) → s.volume ≡ r.volume → ReportsBy M told r → ReportsBy M told s → s ≡ r
same_by M (found f) r s v x y = same_report r s v nodes (y.unnamed_is ∙ ap (unnamed (view M f.space) f.space) nodes ∙ sym x.unnamed_is) (y.reread_is ∙ ap reread nodes ∙ sym x.reread_is)
  where
    walks : y.nodes_are.walks ≡ x.nodes_are.walks
    walks = only_walk (view M f.space) f.root y.nodes_are.walks x.nodes_are.walks y.nodes_are.walk x.nodes_are.walk

    nodes : s.nodes ≡ r.nodes
    nodes = y.nodes_are.is ∙ ap (map (node (view M f.space))) walks ∙ sym x.nodes_are.is
same_by M (holes listed) r s v x y = same_report r s v (y.no_nodes ∙ sym x.no_nodes) (y.no_unnamed ∙ sym x.no_unnamed) (y.reread_is ∙ sym x.reread_is)
same_by M (faulty fault) r s v x y = same_report r s v (y.no_nodes ∙ sym x.no_nodes) (y.no_unnamed ∙ sym x.no_unnamed) (y.reread_is ∙ sym x.reread_is)

pub one_report : (P : Profile) → OneReportBy P
one_report P M N r s x y = same_by M r.volume r s same x.by_volume (subst (λ told. ReportsBy M told s) same y.by_volume)
  where
    same : s.volume ≡ r.volume
    same = y.volume_is ∙ sym x.volume_is

pub one_text : (P : Profile) → OneTextBy P
one_text P table N r s x y = ap (report_text_by P table N) (one_report P (state_of table) N r s x y)

-- ---- paths
parts_by : (M : Blocks) (told : Answer Found) (r : Report) → ReportsBy M told r → (n : NodeFields) → Contains r.nodes n → (part : List ℕ) → Contains n.path part → IsPathPart (escaped part)
parts_by M (found f) r x n i part j = paths_have_parts (view M f.space) f.root r.nodes x.nodes_are n i part j
parts_by M (holes listed) r x n i part j = in_nothing n (subst (λ z. Contains z n) x.no_nodes i)
parts_by M (faulty fault) r x n i part j = in_nothing n (subst (λ z. Contains z n) x.no_nodes i)

pub reports_keep_it : (P : Profile) → ReportsKeepItBy P
reports_keep_it P M N r x = record {
  report_is = x;
  only = λ s y. one_report P M N r s x y;
  parts = parts_by M r.volume r x.by_volume;
  volume = tells_lawful P M N r.volume x.volume_is;
  tree = tells_tree P M N r x;
  whole_tree = tells_whole_tree P M N r x;
  met = met_is_reported P M N r x;
  stays = stays_whole P M N r x;
  rereads = rereads_suffice P M N r x;
}

-- ---- under agreement, one
report_of : (P : Profile) (M : Blocks) (V : Volume) (N : ℕ) → IsLawfulBy P V N → Agrees M V N → (told : Answer Found) → volume_by P M N ≡ told
    → ((report : Report) → report.volume ≡ told → ReportsBy M told report → IsReportBy P M N report) → (report : Report) × IsReportBy P M N report
report_of P M V N l a (found f) e is = (r, is r refl (record { nodes_are = record { walks = w.0; walk = w.1; few = few; is = refl }; unnamed_is = refl; reread_is = refl }))
  where
    w : (walks : List Walked) × IsWalk (view M f.space) f.root walks
    w = some_walk (view M f.space) f.root

    few_by : (b : Bool) → nat_le (length w.0) 65536 ≡ b → length w.0 ≤ 65536
    few_by true q = leb-true (length w.0) 65536 q
    few_by false q = absurd (too_many P M N (f, e, more_routes (view M f.space) f.root w.0 65536 w.1 (leb-false (length w.0) 65536 q)) V l a)

    few : length w.0 ≤ 65536
    few = few_by (nat_le (length w.0) 65536) refl

    nodes : List NodeFields
    nodes = map (node (view M f.space)) w.0

    r : Report
    r = record { volume = found f; nodes = nodes; unnamed = unnamed (view M f.space) f.space nodes; reread = reread nodes }
report_of P M V N l a (holes listed) e is = (r, is r refl (record { no_nodes = refl; no_unnamed = refl; reread_is = refl }))
  where
    r : Report
    r = record { volume = holes listed; nodes = []; unnamed = []; reread = listed }
report_of P M V N l a (faulty fault) e is = (r, is r refl (record { no_nodes = refl; no_unnamed = refl; reread_is = refl }))
  where
    r : Report
    r = record { volume = faulty fault; nodes = []; unnamed = []; reread = [] }

pub some_report : (P : Profile) → SomeReportBy P
some_report P M V N l a = report_of P M V N l a (volume_by P M N) refl (λ report same by. record {
  in_range = λ out. out_of_range P M N out V l a;
  nothing_past = a.above;
  volume_is = same;
  by_volume = subst (λ told. ReportsBy M told report) (sym same) by;
})
