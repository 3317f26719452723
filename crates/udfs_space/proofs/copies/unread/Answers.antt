use Rattle.std.proofs.Common.{◌<◌, arith}
use Rattle.std.proofs.lemmas.List.Elements.{All-push}
use Rattle.udfs_volume.specs.Layout.{blocks_in}
use Rattle.udfs_space.proofs.FirstCopies.{known-none, known-some}
use Rattle.udfs_space.proofs.Loops.{filter-keep, filter-skip}
use Rattle.udfs_space.proofs.copies.unread.Goals as goal
use Rattle.udfs_space.proofs.copies.unread.Goals.{in-Some, in-None+in_ok-push-in-None}

pub loop-k-preserved : goal.loop-k-preserved
loop-k-preserved g c =
    let b = g.B.BlockStore.states c.args.blocks.now in
    let ts = c.args.map.now.tables.items in
    let n = blocks_in c.args.map.now.size in
    let less : c.loop-k.k < n = omega (arith, c.loop-k-test.true, c.blocks_in-k-end.ensures) in
    elim c.match-known_copy.branch [
      | in-Some w ↦ record {
        rest = λ told. rw w.found-is (filter-skip _ _ _ n _ less
            (known-some b c.deref.result.now ts c.loop-k.k c.known_copy.result w.in-Some.field-0 c.deref.ensures.value (c.known_copy.ensures told) w.in-Some.is) (c.loop-k.invariant.rest told));
        below = rw w.found-is c.loop-k.invariant.below;
      }
      | in-None+in_ok-push-in-None w ↦ record {
        rest = λ told. rw w.found-is (rw w.in_ok-push-in-None.ensures.items (filter-keep _ _ _ n _ less
            (known-none b c.deref.result.now ts c.loop-k.k c.known_copy.result c.deref.ensures.value (c.known_copy.ensures told) w.in-None.is) (c.loop-k.invariant.rest told)));
        below = rw w.found-is (rw w.in_ok-push-in-None.ensures.items (All-push (λ k. k < n) _ _ c.loop-k.invariant.below less));
      }
    ]
