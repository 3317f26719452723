use Rattle.std.proofs.Common.{subst, sym}
use Rattle.udfs_salvage.specs.Listings.{listing_by}
use Rattle.udfs_extraction.specs.ShortNames.{IsWay}
use Rattle.udfs_extraction.proofs.places.place_from.Goals as goal

pub returns-clause-text : goal.returns-clause-text
returns-clause-text g c n at way = c.in_ok-text.ensures.text n at (subst (IsWay (listing_by g.B.BlockStore.states c.args.listing.now).nodes c.args.index) (sym c.as_slice.ensures.value) (c.in_ok-go_to.ensures way))
