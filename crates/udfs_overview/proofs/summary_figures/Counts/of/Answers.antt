use Rattle.std.proofs.Common.{◌≡◌, ◌∙◌, ap, length, map, subst, sym}
use Rattle.std.proofs.lemmas.Simd.{map-map}
use Rattle.udfs_lattice.specs.Volumes.{Blocks}
use Rattle.udfs_salvage.specs.Found.{volume_now}
use Rattle.udfs_salvage.specs.Surveys.{survey_by}
use Rattle.udfs_overview.specs.DiscTallies.{disc_of}
use Rattle.udfs_overview.specs.SummaryFigures.{figures_in}
use Rattle.udfs_overview.specs.Tallies.{node_count, tally_of, tally_with, torn_files}
use Rattle.udfs_overview.specs.TornFiles.{row_now, torn_now}
use Rattle.udfs_overview.specs.TornLists.{AreShown, row_of}
use Rattle.udfs_overview.specs.declared.summary_figures.Figures.{Figures}
use Rattle.udfs_overview.proofs.Counting.{tally_counts_all, tally_full}
use Rattle.udfs_salvage.proofs.StoreAnswers.{states_same}
use Rattle.udfs_overview.proofs.summary_figures.Counts.of.Goals as goal

pub returns-clause-counted : goal.returns-clause-counted
unfolding tally_of
returns-clause-counted g c told t holds =
    let s = c.args.survey.now in
    let M = g.B.BlockStore.states s.table.now in
    let r = survey_by g.B.BlockStore.states s in
    let same = states_same M t (g.met.B.ReportStore.held s.table.now t holds) in
    let fs = c.in_ok-files.files.items in
    let torn : map torn_now fs ≡ torn_files M r.nodes = c.in_ok-files.ensures.value told in
    let tally : c.count_nodes-tally.result ≡ tally_of M r.nodes =
    c.count_nodes-tally.ensures ∙ (λ i. tally_with (map torn_now (c.deref-2.ensures.value i)) (c.deref.ensures.value i))
    ∙ ap (λ x. tally_with x s.nodes.items) torn ∙ sym (tally_full M (volume_now s.volume) (torn_files M r.nodes) s.nodes.items) in
    record {
      figures_are = c.in_ok-figures.ensures.value told ∙ (λ i. figures_in s.profile M (tally i) (c.count_disc.ensures told t holds i) s.last r)
          ∙ ap (λ (bs : Blocks). figures_in s.profile bs (tally_of bs r.nodes) (disc_of t s.last r.reread) s.last r) same;
      torn_are = subst (λ rows. AreShown rows c.in_ok-torn.torn.rows.items c.in_ok-torn.torn.count)
          (ap (map row_now) c.deref-3.ensures.value ∙ sym (map-map row_of torn_now fs) ∙ ap (map row_of) torn ∙ ap (λ (bs : Blocks). map row_of (torn_files bs r.nodes)) same) c.in_ok-torn.ensures;
    }

pub returns-clause-all : goal.returns-clause-all
unfolding tally_of figures_in
returns-clause-all g c told =
    let s = c.args.survey.now in
    let M = g.B.BlockStore.states s.table.now in
    let r = survey_by g.B.BlockStore.states s in
    let torn : map torn_now c.in_ok-files.files.items ≡ torn_files M r.nodes = c.in_ok-files.ensures.value told in
    let tally : c.count_nodes-tally.result ≡ tally_of M r.nodes =
    c.count_nodes-tally.ensures ∙ (λ i. tally_with (map torn_now (c.deref-2.ensures.value i)) (c.deref.ensures.value i))
    ∙ ap (λ x. tally_with x s.nodes.items) torn ∙ sym (tally_full M (volume_now s.volume) (torn_files M r.nodes) s.nodes.items) in
    ap (λ (f : Figures). node_count f.tally) (c.in_ok-figures.ensures.value told) ∙ tally_counts_all c.count_nodes-tally.result M r.nodes tally
