-- The way leads to the node that was passed last.
use Rattle.std.proofs.Common.{◌≤◌}
use Rattle.udfs_salvage.specs.Listings.{listing_by}
use Rattle.udfs_extraction.specs.ShortNames.{IsWay}
use Rattle.udfs_extraction.proofs.places.go_to.Given as goal

abbrev pub invariant-loop-passed : goal.invariant-loop-passed
invariant-loop-passed g l = record {
  bound : l.passed ≤ l.index;
  way : IsWay (listing_by g.B.BlockStore.states l.listing).nodes l.at l.fn.way.items → IsWay (listing_by g.B.BlockStore.states l.listing).nodes l.passed l.way.items;
}
