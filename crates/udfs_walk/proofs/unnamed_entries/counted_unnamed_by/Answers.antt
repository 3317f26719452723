use Rattle.std.proofs.Common.{arith, map, sym, subst}
use Rattle.std.specs.Prelude.{filter_map}
use Rattle.udfs_space.specs.Views.{view_by}
use Rattle.udfs_walk.specs.Bare.{full_entry}
use Rattle.udfs_walk.specs.NamedKeys.{AreNamed}
use Rattle.udfs_walk.specs.UnnamedEntries.{icbs_in, unnamed_at}
use Rattle.udfs_walk.proofs.NamedLemmas.{partition_next}
use Rattle.udfs_walk.proofs.unnamed_entries.counted_unnamed_by.Goals as goal

pub loop-reference-preserved : goal.loop-reference-preserved
loop-reference-preserved g c =
    let v = view_by g.B.BlockStore.states c.args.view in
    let more = c.in_ok-push_unnamed.ensures.walks in
    let so_far = c.loop-reference.invariant.1 in (
      λ told. partition_next (λ r. filter_map (unnamed_at v c.args.nodes.now) (icbs_in c.args.view.space.now r)) c.loop-reference.reference (map (full_entry v) c.loop-reference.found.items) (map (full_entry v) c.push_unnamed.new.found.items)
          (c.loop-reference.invariant.0 told)
          (c.in_ok-push_unnamed.ensures.found told c.args.nodes.now (subst (AreNamed v c.args.nodes.now) (sym c.deref.ensures.value) (c.in_ok-keys.ensures.named (g.B.BlockStore.states c.args.view.blocks.now)))),
      omega (arith, more, so_far),
    )
