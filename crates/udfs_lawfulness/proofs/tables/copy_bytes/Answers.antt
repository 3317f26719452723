use Rattle.std.proofs.Common.{◌≡◌, ◌∙◌, ap, sym, length, length-append, ◌+◌, ◌*◌, ◌<◌, arith}
use Rattle.udfs_lattice.specs.States.{is_known}
use Rattle.udfs_volume.specs.Layout.{blocks_in}
use Rattle.udfs_lawfulness.specs.Tables.{known_bytes}
use Rattle.udfs_lawfulness.proofs.Rows.{all_next, all_stop, flat_step}
use Rattle.udfs_lawfulness.proofs.tables.copy_bytes.Goals as goal

pub returns-in_default-clause-known : goal.returns-in_default-clause-known
returns-in_default-clause-known g c told =
    let M = g.B.BlockStore.states c.args.blocks.now in
    let less : c.loop-k.k < blocks_in c.args.size = omega (arith, c.loop-k-test.true, c.blocks_in-k-end.ensures) in
    sym (c.loop-k.invariant.read told).known ∙ all_stop (λ k. is_known (M (c.args.place + k))) c.loop-k.k (blocks_in c.args.size) less (rw c.in_default.is at (c.in_ok-read.ensures.known told))

pub loop-k-preserved : goal.loop-k-preserved
loop-k-preserved g c =
    let M = g.B.BlockStore.states c.args.blocks.now in
    let n = blocks_in c.args.size in
    let less : c.loop-k.k < n = omega (arith, c.loop-k-test.true, c.blocks_in-k-end.ensures) in
    let sized : length c.in-Some.block ≡ 2048 → length c.loop-k.bytes.items + length c.in-Some.block ≡ 2048 * (c.loop-k.k + 1) = λ e. omega (arith, e, c.loop-k.invariant.size) in
    record {
      read = λ told. record {
        known = all_next (λ k. is_known (M (c.args.place + k))) c.loop-k.k n less (ap is_known (rw c.in-Some.is at (c.in_ok-read.ensures.known told))) ∙ (c.loop-k.invariant.read told).known;
        rest = rw c.in_ok-extend_from_slice.ensures.items (flat_step (λ k. known_bytes (M (c.args.place + k))) c.loop-k.bytes.items c.in-Some.block c.loop-k.k n _ less
            (sym (ap known_bytes (rw c.in-Some.is at (c.in_ok-read.ensures.known told)))) (c.loop-k.invariant.read told).rest);
      };
      size = rw c.in_ok-extend_from_slice.ensures.items (length-append c.loop-k.bytes.items c.in-Some.block ∙ sized (rw c.in-Some.is at c.in_ok-read.ensures.size));
    }
