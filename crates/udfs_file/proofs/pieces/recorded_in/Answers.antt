use Rattle.std.proofs.Common.{◌∙◌, sym, ap, refl, inl, inr, Some}
use Rattle.udfs_lattice.specs.declared.facts.Fact.TheVariants.{Unknown, Conflict}
use Rattle.udfs_space.specs.Views.{view_by}
use Rattle.udfs_space.specs.Places.{block_now}
use Rattle.udfs_file.specs.Pieces.{byte_cells}
use Rattle.udfs_file.proofs.PieceCells.{none_cells, known_cells, gap_first}
use Rattle.udfs_file.proofs.pieces.recorded_in.Goals as goal

pub returns-in-None-clause-value : goal.returns-in-None-clause-value
returns-in-None-clause-value g c told = none_cells (view_by g.B.BlockStore.states c.args.view) c.args.run.address.reference c.args.run.address.block c.args.at c.args.count c.requires.inside
    (sym (c.in_ok-block_behind.ensures.value told) ∙ ap block_now c.in-None.is)
    ∙ ap (byte_cells _) (sym c.zeros.ensures)

pub returns-in-Some-default-Known-clause-value : goal.returns-in-Some-default-Known-clause-value
returns-in-Some-default-Known-clause-value g c told = known_cells (view_by g.B.BlockStore.states c.args.view) c.args.run.address.reference c.args.run.address.block c.args.at c.args.count c.in-Some-default-Known.field-0-0 c.in-Some-default-Known.bytes.now
    c.bytes_at.ensures.size c.requires.inside (sym (c.in_ok-block_behind.ensures.value told) ∙ ap block_now c.in-Some-default-Known.is ∙ ap (λ f. block_now (Some (c.in-Some-default-Known.field-0-0, f))) c.in-Some-default-Known.field-0-1-is)
    ∙ ap (byte_cells _) (sym c.bytes_at.ensures.value)

pub returns-in-Some-default-Unknown-clause-value : goal.returns-in-Some-default-Unknown-clause-value
returns-in-Some-default-Unknown-clause-value g c told =
    gap_first (view_by g.B.BlockStore.states c.args.view) c.args.run.address.reference c.args.run.address.block c.args.at c.args.count c.in-Some-default-Unknown.n Unknown c.requires.some (inl refl)
    (sym (c.in_ok-block_behind.ensures.value told) ∙ ap block_now c.in-Some-default-Unknown.is ∙ ap (λ f. block_now (Some (c.in-Some-default-Unknown.n, f))) c.in-Some-default-Unknown.field-0-1-is)

pub returns-in-Some-default-Conflict-clause-value : goal.returns-in-Some-default-Conflict-clause-value
returns-in-Some-default-Conflict-clause-value g c told =
    gap_first (view_by g.B.BlockStore.states c.args.view) c.args.run.address.reference c.args.run.address.block c.args.at c.args.count c.in-Some-default-Conflict.n Conflict c.requires.some (inr refl)
    (sym (c.in_ok-block_behind.ensures.value told) ∙ ap block_now c.in-Some-default-Conflict.is ∙ ap (λ f. block_now (Some (c.in-Some-default-Conflict.n, f))) c.in-Some-default-Conflict.field-0-1-is)
