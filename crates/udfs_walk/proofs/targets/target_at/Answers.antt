use Rattle.std.proofs.Common.{◌∙◌, ap, sym, Some}
use Rattle.udfs_lattice.specs.States.{fact_now}
use Rattle.udfs_lattice.specs.declared.facts.Fact.TheVariants.{Unknown, Conflict}
use Rattle.udfs_tag.specs.declared.layouts.LbAddr.{LbAddr}
use Rattle.udfs_space.specs.Places.{block_at}
use Rattle.udfs_space.specs.Views.{view_by}
use Rattle.udfs_walk.proofs.TargetLemmas.{bad_target, no_block, block_target, entry_target, fault_target}
use Rattle.udfs_walk.proofs.targets.target_at.Goals as goal

pub returns-in-Some-clause-value : goal.returns-in-Some-clause-value
returns-in-Some-clause-value g c told = bad_target (view_by g.B.BlockStore.states c.args.view) c.args.address c.in-Some.fault (c.in-Some.ensures (g.B.BlockStore.states c.args.view.blocks.now))

pub returns-in-None-2-clause-value : goal.returns-in-None-2-clause-value
returns-in-None-2-clause-value g c told = no_block (view_by g.B.BlockStore.states c.args.view) c.args.address (c.in-None.ensures (g.B.BlockStore.states c.args.view.blocks.now))
    (rw c.in-None-2.is at (c.in_ok-block_at-in-None.ensures.value told) ∙ ap (λ (a : LbAddr). block_at (view_by g.B.BlockStore.states c.args.view) a.reference a.block) c.address.ensures)

pub returns-in-Unknown-clause-value : goal.returns-in-Unknown-clause-value
returns-in-Unknown-clause-value g c told = block_target (view_by g.B.BlockStore.states c.args.view) c.args.address c.in-Some-2.n Unknown (c.in-None.ensures (g.B.BlockStore.states c.args.view.blocks.now))
    (ap (λ f. Some (c.in-Some-2.n, fact_now f)) (sym c.in-Unknown.is) ∙ rw c.in-Some-2.is at (c.in_ok-block_at-in-None.ensures.value told) ∙ ap (λ (a : LbAddr). block_at (view_by g.B.BlockStore.states c.args.view) a.reference a.block) c.address.ensures)

pub returns-in-Conflict-clause-value : goal.returns-in-Conflict-clause-value
returns-in-Conflict-clause-value g c told = block_target (view_by g.B.BlockStore.states c.args.view) c.args.address c.in-Some-2.n Conflict (c.in-None.ensures (g.B.BlockStore.states c.args.view.blocks.now))
    (ap (λ f. Some (c.in-Some-2.n, fact_now f)) (sym c.in-Conflict.is) ∙ rw c.in-Some-2.is at (c.in_ok-block_at-in-None.ensures.value told) ∙ ap (λ (a : LbAddr). block_at (view_by g.B.BlockStore.states c.args.view) a.reference a.block) c.address.ensures)

pub returns-in-Ok-clause-value : goal.returns-in-Ok-clause-value
returns-in-Ok-clause-value g c told = entry_target (view_by g.B.BlockStore.states c.args.view) c.args.address c.in-Some-2.n c.in-Known.bytes.now c.in-Ok.entry (c.in-None.ensures (g.B.BlockStore.states c.args.view.blocks.now))
    (ap (λ f. Some (c.in-Some-2.n, fact_now f)) (sym c.in-Known.is) ∙ rw c.in-Some-2.is at (c.in_ok-block_at-in-None.ensures.value told) ∙ ap (λ (a : LbAddr). block_at (view_by g.B.BlockStore.states c.args.view) a.reference a.block) c.address.ensures)
    c.in-Ok.ensures.0 c.in-Ok.ensures.1

pub returns-in-Err-clause-value : goal.returns-in-Err-clause-value
returns-in-Err-clause-value g c told = fault_target (view_by g.B.BlockStore.states c.args.view) c.args.address c.in-Some-2.n c.in-Known.bytes.now c.in-Err.fault (c.in-None.ensures (g.B.BlockStore.states c.args.view.blocks.now))
    (ap (λ f. Some (c.in-Some-2.n, fact_now f)) (sym c.in-Known.is) ∙ rw c.in-Some-2.is at (c.in_ok-block_at-in-None.ensures.value told) ∙ ap (λ (a : LbAddr). block_at (view_by g.B.BlockStore.states c.args.view) a.reference a.block) c.address.ensures)
    c.in-Err.ensures
