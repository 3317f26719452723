use Rattle.std.proofs.Common.{◌∙◌, ap, None, Some}
use Rattle.udfs_lattice.specs.States.{fact_now}
use Rattle.udfs_tag.specs.declared.layouts.LbAddr.{LbAddr}
use Rattle.udfs_space.specs.Places.{block_at}
use Rattle.udfs_space.specs.Views.{view_by}
use Rattle.udfs_walk.specs.Targets.{icb_at}
use Rattle.udfs_lost.proofs.EntryLemmas.{links_block}
use Rattle.udfs_lost.proofs.links.link_count.Goals as goal

pub returns-in-Some-clause-value : goal.returns-in-Some-clause-value
returns-in-Some-clause-value g c told = let v = view_by g.B.BlockStore.states c.args.view in
    c.count_of.ensures ∙ links_block v (icb_at c.args.entry.now.reference c.args.entry.now.block) (Some (c.in-Some.field-0-0, fact_now c.in-Some.fact))
    (rw c.in-Some.is at (c.in_ok-fact.ensures.value told) ∙ ap (λ (a : LbAddr). block_at v a.reference a.block) c.address.ensures)

pub returns-in-None-clause-value : goal.returns-in-None-clause-value
returns-in-None-clause-value g c told = let v = view_by g.B.BlockStore.states c.args.view in
    links_block v (icb_at c.args.entry.now.reference c.args.entry.now.block) None
    (rw c.in-None.is at (c.in_ok-fact.ensures.value told) ∙ ap (λ (a : LbAddr). block_at v a.reference a.block) c.address.ensures)
