use Rattle.std.proofs.Common.{◌≡◌, ◌+◌, arith, subst, suc}
use Rattle.udfs_salvage.specs.Listings.{listing_by}
use Rattle.udfs_extraction.specs.ShortNames.{IsWay}
use Rattle.udfs_extraction.proofs.places.go_to.Goals as goal

pub loop-passed-init : goal.loop-passed-init
loop-passed-init g c = record { bound = c.begin-from.ensures.before; way = λ way. c.begin-from.ensures.way (listing_by g.B.BlockStore.states c.args.listing.now).nodes way }

pub loop-passed-preserved : goal.loop-passed-preserved
loop-passed-preserved g c = record {
  bound = omega (arith, c.loop-passed-test.true);
  way = λ way. c.in_ok-enter.ensures c.loop-passed.passed (let next : suc c.loop-passed.passed ≡ c.loop-passed.passed + 1 = omega arith in next) (c.loop-passed.invariant.way way);
}

pub returns : goal.returns
returns g c way =
    let bound = c.loop-passed.invariant.bound in
    let at : c.loop-passed.passed ≡ c.args.index = omega (arith, bound, c.loop-passed-test.false) in
    subst (λ k. IsWay (listing_by g.B.BlockStore.states c.args.listing.now).nodes k c.loop-passed.way.items) at (c.loop-passed.invariant.way way)
