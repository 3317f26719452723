use Rattle.std.proofs.Common.{◌≡◌, ap, map, subst}
use Rattle.std.specs.Prelude.{IfOk}
use Rattle.udfs_lattice.specs.Volumes.{Blocks}
use Rattle.udfs_volume.specs.Answers.{found}
use Rattle.udfs_space.specs.Places.{View, view}
use Rattle.udfs_space.specs.Views.{view_by}
use Rattle.udfs_walk.specs.Bare.{full_node}
use Rattle.udfs_walk.specs.Routes.{HasMoreRoutes}
use Rattle.udfs_walk.specs.Walks.{AreNodes}
use Rattle.udfs_salvage.specs.Found.{found_now, volume_by}
use Rattle.udfs_lawfulness.specs.Lawfulness.{IsDecided}
use Rattle.udfs_lawfulness.specs.Left.{AreLeft}
use Rattle.udfs_lawfulness.proofs.Decided.{many_refute}
use Rattle.udfs_lawfulness.proofs.deciding.by_tree.Goals as goal

pub returns-in-Ok-clause-decided : goal.returns-in-Ok-clause-decided
returns-in-Ok-clause-decided g c told = λ profile last left opens.
    let f = found_now c.args.opened.now in
    let v = view_by g.B.BlockStore.states c.view_by-view.result in
    subst (λ (t : Blocks). AreLeft profile t last c.args.unread.items → volume_by profile t last ≡ found f → v ≡ view t f.space → AreNodes v f.root (map (full_node v) c.in-Ok.nodes.items)
    → IfOk c.by_nodes.result (IsDecided profile t last)) (ap (λ (u : View). u.blocks) c.view_by-view.ensures.value) (c.by_nodes.ensures.decided told profile last f)
    left opens c.view_by-view.ensures.value (c.in-Ok.ensures.value told)

pub returns-in-Err-TooManyPaths-clause-decided : goal.returns-in-Err-TooManyPaths-clause-decided
returns-in-Err-TooManyPaths-clause-decided g c told = λ profile last left opens.
    let f = found_now c.args.opened.now in
    many_refute profile (g.B.BlockStore.states c.args.blocks.now) last f opens
    (subst (λ (v : View). HasMoreRoutes v f.root 65536) c.view_by-view.ensures.value (rw c.in-Err-TooManyPaths.field-0-is at (c.in-Err-TooManyPaths.ensures.value told)))
