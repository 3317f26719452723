use Rattle.std.proofs.Common.{◌≡◌, [], ◌∙◌, length, ◌+◌, ◌*◌, ◌<◌, arith, length-append}
use Rattle.std.specs.Prelude.{is_none}
use Rattle.udfs_lattice.specs.Volumes.{first_known}
use Rattle.udfs_volume.specs.Layout.{blocks_in}
use Rattle.udfs_space.specs.Sparing.{copies, piece}
use Rattle.udfs_space.proofs.FirstCopies.{copy-none, copy-some, copy-piece}
use Rattle.udfs_space.proofs.Loops.{filter-some, filter-skip, flat-step}
use Rattle.udfs_space.proofs.copies.table_bytes.Goals as goal

pub returns-in_default-clause-holes : goal.returns-in_default-clause-holes
returns-in_default-clause-holes g c told =
    let less : c.loop-k.k < blocks_in c.args.map.now.size = omega (arith, c.loop-k-test.true, c.blocks_in-k-end.ensures) in
    filter-some (λ k. is_none (first_known (g.B.BlockStore.states c.args.blocks.now) (copies c.args.map.now.tables.items k))) c.loop-k.k (blocks_in c.args.map.now.size) _ less
    (copy-none (g.B.BlockStore.states c.args.blocks.now) c.deref.result.now c.args.map.now.tables.items c.loop-k.k c.in_ok-block.field-0 c.deref.ensures.value (c.in_ok-block.ensures.value told) c.in_default.is) (c.loop-k.invariant.none told)

pub loop-k-preserved : goal.loop-k-preserved
loop-k-preserved g c =
    let b = g.B.BlockStore.states c.args.blocks.now in
    let ts = c.args.map.now.tables.items in
    let n = blocks_in c.args.map.now.size in
    let less : c.loop-k.k < n = omega (arith, c.loop-k-test.true, c.blocks_in-k-end.ensures) in
    let sized : length c.in-Some.block ≡ 2048 → length c.loop-k.bytes.items + length c.in-Some.block ≡ 2048 * (c.loop-k.k + 1) = λ e. omega (arith, e, c.loop-k.invariant.size) in
    record {
      none = λ told. filter-skip (λ k. is_none (first_known b (copies ts k))) [] c.loop-k.k n _ less
          (copy-some b c.deref.result.now ts c.loop-k.k c.in_ok-block.field-0 c.in-Some.block c.deref.ensures.value (c.in_ok-block.ensures.value told) c.in-Some.is) (c.loop-k.invariant.none told);
      rest = λ told. rw c.in_ok-extend_from_slice.ensures.items (flat-step (λ k. piece (first_known b (copies ts k))) _ _ c.loop-k.k n _ less
          (copy-piece b c.deref.result.now ts c.loop-k.k c.in_ok-block.field-0 c.in-Some.block c.deref.ensures.value (c.in_ok-block.ensures.value told) c.in-Some.is) (c.loop-k.invariant.rest told));
      size = rw c.in_ok-extend_from_slice.ensures.items (length-append c.loop-k.bytes.items c.in-Some.block ∙ sized (rw c.in-Some.is at c.in_ok-block.ensures.size));
    }
