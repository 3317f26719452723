use Rattle.std.proofs.Common.{◌∙◌, sym, ap, refl, inl, inr, Some}
use Rattle.udfs_lattice.specs.declared.facts.Fact.TheVariants.{Unknown, Conflict}
use Rattle.udfs_space.specs.Views.{view_now}
use Rattle.udfs_space.specs.Places.{block_now}
use Rattle.udfs_file.specs.Pieces.{byte_cells}
use Rattle.udfs_file.proofs.PieceCells.{none_cells, known_cells, gap_first}
use Rattle.udfs_file.proofs.pieces.recorded_piece.Goals as goal

pub returns-in-None : goal.returns-in-None
returns-in-None c = none_cells (view_now c.args.view) c.args.run.address.reference c.args.run.address.block c.args.at c.args.count c.requires.inside
    (sym c.block_behind.ensures.value ∙ ap block_now c.in-None.is)
    ∙ ap (byte_cells _) (sym c.zeros.ensures)

pub returns-in-Some-default-Known : goal.returns-in-Some-default-Known
returns-in-Some-default-Known c = known_cells (view_now c.args.view) c.args.run.address.reference c.args.run.address.block c.args.at c.args.count c.in-Some-default-Known.field-0-0 c.in-Some-default-Known.bytes.now
    c.bytes_at.ensures.size c.requires.inside (sym c.block_behind.ensures.value ∙ ap block_now c.in-Some-default-Known.is ∙ ap (λ f. block_now (Some (c.in-Some-default-Known.field-0-0, f))) c.in-Some-default-Known.field-0-1-is)
    ∙ ap (byte_cells _) (sym c.bytes_at.ensures.value)

pub returns-in-Some-default-Unknown : goal.returns-in-Some-default-Unknown
returns-in-Some-default-Unknown c =
    gap_first (view_now c.args.view) c.args.run.address.reference c.args.run.address.block c.args.at c.args.count c.in-Some-default-Unknown.n Unknown c.requires.some (inl refl)
    (sym c.block_behind.ensures.value ∙ ap block_now c.in-Some-default-Unknown.is ∙ ap (λ f. block_now (Some (c.in-Some-default-Unknown.n, f))) c.in-Some-default-Unknown.field-0-1-is)

pub returns-in-Some-default-Conflict : goal.returns-in-Some-default-Conflict
returns-in-Some-default-Conflict c =
    gap_first (view_now c.args.view) c.args.run.address.reference c.args.run.address.block c.args.at c.args.count c.in-Some-default-Conflict.n Conflict c.requires.some (inr refl)
    (sym c.block_behind.ensures.value ∙ ap block_now c.in-Some-default-Conflict.is ∙ ap (λ f. block_now (Some (c.in-Some-default-Conflict.n, f))) c.in-Some-default-Conflict.field-0-1-is)
