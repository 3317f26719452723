use Rattle.std.proofs.Common.{inl, refl, rules}
use Rattle.udfs_salvage.specs.Listings.{listing_by}
use Rattle.udfs_extraction.proofs.LostLemmas.{lost_on, lost_same}
use Rattle.udfs_extraction.proofs.TreeLemmas.{stopped_in}
use Rattle.udfs_extraction.proofs.lost_trees.add_trees.Goals as goal

pub returns-then-not-make_if_open-clause-why : goal.returns-then-not-make_if_open-clause-why
returns-then-not-make_if_open-clause-why g c known = rw c.in-Some.is (c.args.lost.trees.items, c.args.lost.names, (rw c.in-Some.is at c.requires) known, inl (refl, refl, c.make_if_open.ensures.cause (search rules)))

pub returns-then-not-make_if_open-clause-spares : goal.returns-then-not-make_if_open-clause-spares
returns-then-not-make_if_open-clause-spares g c = rw c.in-Some.is (lost_same _ _ _ _ c.make_if_open.ensures.others c.make_if_open.ensures.crash)

pub returns-in-Ok-clause-made : goal.returns-in-Ok-clause-made
returns-in-Ok-clause-made g c known = rw c.in-Some.is (
  (c.args.lost.trees.items, c.args.lost.names, (rw c.in-Some.is at c.requires) known, c.in-Ok.ensures.put known),
  lost_on _ _ _ _ _ (lost_same _ _ _ _ c.make_if_open.ensures.others c.make_if_open.ensures.crash) c.put_trees.ensures.spares,
)

pub returns-in-Ok-clause-spares : goal.returns-in-Ok-clause-spares
returns-in-Ok-clause-spares g c = rw c.in-Some.is (lost_on _ _ _ _ _ (lost_same _ _ _ _ c.make_if_open.ensures.others c.make_if_open.ensures.crash) c.put_trees.ensures.spares)

pub returns-clause-why : goal.returns-clause-why
returns-clause-why g c known =
    let states = g.B.BlockStore.states in
    let S = g.O.Sink in
    let l = c.args.listing in
    let r = c.args.request.now in
    rw c.in-Some.is (stopped_in g.F.Files g.F.Output.Sink.stream r.deleted r.short_names c.in-Some.folder.now c.put_trees.new.files (S.stream c.args.out.now) (S.stream c.put_trees.new.out) (states l.table.now) (listing_by states l) c.args.lost.trees.items c.args.lost.names c.in-Err.stop
    ((rw c.in-Some.is at c.requires) known) (c.in-Err.ensures.why known))

pub returns-clause-spares : goal.returns-clause-spares
returns-clause-spares g c = rw c.in-Some.is (lost_on _ _ _ _ _ (lost_same _ _ _ _ c.make_if_open.ensures.others c.make_if_open.ensures.crash) c.put_trees.ensures.spares)
