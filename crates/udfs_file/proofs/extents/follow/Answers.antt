use Rattle.std.proofs.Common.{◌∙◌, ap, Option, None, ℕ}
use Rattle.udfs_lattice.specs.States.{State}
use Rattle.udfs_tag.specs.declared.layouts.LbAddr.{LbAddr}
use Rattle.udfs_space.specs.Views.{view_by}
use Rattle.udfs_space.specs.Places.{block_at}
use Rattle.udfs_file.specs.Bodies.{next_if}
use Rattle.udfs_file.specs.declared.faults.NodeFault.{NodeFault}
use Rattle.udfs_file.proofs.extents.follow.Goals as goal

pub returns-in-Some-clause-value : goal.returns-in-Some-clause-value
returns-in-Some-clause-value g c told =
    ap (λ (o : Option NodeFault). next_if c.args.form c.args.d.block o (block_at (view_by g.B.BlockStore.states c.args.view) c.args.d.reference c.args.d.block))
    (c.in-Some.ensures.value (g.B.BlockStore.states c.args.view.blocks.now))

pub returns-in_ok-block-in-None-clause-value : goal.returns-in_ok-block-in-None-clause-value
returns-in_ok-block-in-None-clause-value g c told =
    c.area_at.ensures.value
    ∙ ap (λ (b : Option (ℕ × State)). next_if c.args.form c.args.d.block None b) (c.in_ok-block-in-None.ensures.value told)
    ∙ ap (λ (a : LbAddr). next_if c.args.form c.args.d.block None (block_at (view_by g.B.BlockStore.states c.args.view) a.reference a.block)) c.address.ensures
    ∙ ap (λ (o : Option NodeFault). next_if c.args.form c.args.d.block o (block_at (view_by g.B.BlockStore.states c.args.view) c.args.d.reference c.args.d.block))
    (c.in-None.ensures.value (g.B.BlockStore.states c.args.view.blocks.now))
