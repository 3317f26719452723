use Rattle.std.proofs.Common.{◌≡◌, ◌∙◌, ap, map, refl, subst}
use Rattle.std.specs.Prelude.{IfOk}
use Rattle.udfs_space.specs.Places.{view}
use Rattle.udfs_walk.specs.Bare.{full_node}
use Rattle.udfs_salvage.specs.Found.{found_now, volume_now}
use Rattle.udfs_overview.specs.Tallies.{torn_files}
use Rattle.udfs_overview.specs.TornFiles.{torn_now}
use Rattle.udfs_overview.proofs.SeenNodes.{seen_nodes}
use Rattle.udfs_overview.proofs.tallies.survey_torn.Goals as goal

pub returns-in-Open-clause-value : goal.returns-in-Open-clause-value
returns-in-Open-clause-value g c =
    let s = c.args.survey.now in
    let M = g.B.BlockStore.states s.table.now in
    let f = found_now c.in-Open.opened in
    subst (λ t. IfOk c.full_torn_files.result (λ files. g.B.BlockStore.tells → map torn_now files.items ≡ t))
    (ap (λ v. torn_files v.blocks (map (full_node v) c.deref.result.now)) c.view_by-view.ensures.value
    ∙ ap (torn_files M) (seen_nodes M (volume_now s.volume) f (view M f.space) c.deref.result.now s.nodes.items (ap volume_now c.in-Open.is) refl c.deref.ensures.value)) c.full_torn_files.ensures.value
