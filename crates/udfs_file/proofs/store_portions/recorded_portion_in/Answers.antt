use Rattle.std.proofs.Common.{◌≡◌, ◌∙◌, sym, ap, ◌+◌, ◌/◌, ◌%◌, arith, map, length, Some}
use Rattle.std.specs.List.{range_with_len}
use Rattle.udfs_space.specs.Places.{block_now}
use Rattle.udfs_space.specs.Views.{view_by}
use Rattle.udfs_file.specs.Bodies.{recorded_cell}
use Rattle.udfs_file.specs.Pieces.{byte_cells}
use Rattle.udfs_file.proofs.PieceCells.{known_cells}
use Rattle.udfs_file.proofs.PortionCells.{length-part, no_place}
use Rattle.udfs_file.proofs.store_portions.recorded_portion_in.Goals as goal

pub returns-in-None-clause-cells : goal.returns-in-None-clause-cells
returns-in-None-clause-cells g c told = let v = view_by g.B.BlockStore.states c.args.view in
    no_place v c.args.run.address.reference c.args.run.address.block c.args.at c.min-here.result (omega (arith, c.min-here.ensures))
    (sym (c.in_ok-block_behind.ensures.value told) ∙ ap block_now c.in-None.is)

pub returns-in-Some-default-Known-clause-cells : goal.returns-in-Some-default-Known-clause-cells
returns-in-Some-default-Known-clause-cells g c told = let v = view_by g.B.BlockStore.states c.args.view in
    let l : length c.bytes_at.result.now ≡ c.min-here.result = ap length c.bytes_at.ensures.value
    ∙ length-part c.in-Some-default-Known.bytes.now (c.args.at % 2048) c.min-here.result c.bytes_at.ensures.size (omega (arith, c.min-here.ensures)) in (
      Some (c.args.run.address.block + c.args.at / 2048),
      ap (λ k. map (recorded_cell v c.args.run.address.reference c.args.run.address.block) (range_with_len c.args.at k)) l
          ∙ known_cells v c.args.run.address.reference c.args.run.address.block c.args.at c.min-here.result c.in-Some-default-Known.field-0-0 c.in-Some-default-Known.bytes.now
          c.bytes_at.ensures.size (omega (arith, c.min-here.ensures))
          (sym (c.in_ok-block_behind.ensures.value told) ∙ ap block_now c.in-Some-default-Known.is
          ∙ ap (λ f. block_now (Some (c.in-Some-default-Known.field-0-0, f))) c.in-Some-default-Known.field-0-1-is)
          ∙ ap (byte_cells _) (sym c.bytes_at.ensures.value),
    )
