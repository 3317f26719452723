use Rattle.std.proofs.Common.{◌≡◌, ap, inl, refl}
use Rattle.udfs_salvage.specs.Listings.{listing_by}
use Rattle.udfs_extraction.specs.LostPlaces.{lost_report}
use Rattle.udfs_extraction.proofs.LostPlaceLemmas.{moved_found, moved_unfound}
use Rattle.udfs_extraction.proofs.lost_places.find_trees.Goals as goal

pub returns-in-Ok-clause-found : goal.returns-in-Ok-clause-found
returns-in-Ok-clause-found g c = moved_found _ _ _ _ _ (λ known. refl) (rw c.in-None.is at c.requires.place) _ _ _ _ c.in-Ok.ensures.found

pub returns-in-None-clause-refused : goal.returns-in-None-clause-refused
returns-in-None-clause-refused g c =
    let S = g.B.BlockStore in
    let l = c.args.listing.now in
    let M = S.states l.table.now in
    let is : S.tells → listing_by S.states l ≡ lost_report l.profile M l.last (listing_by S.states l) = rw c.in-None.is at c.requires.place in
    moved_unfound S.tells M M (listing_by S.states l) (lost_report l.profile M l.last (listing_by S.states l)) (λ known. refl) is c.args.deleted c.args.trees c.in-Err.error c.in-Err.ensures.refused

pub returns-in-Err-OutOfMemory-clause-refused : goal.returns-in-Err-OutOfMemory-clause-refused
returns-in-Err-OutOfMemory-clause-refused g c known = inl refl

pub returns-in-Ok-found_trees-clause-found : goal.returns-in-Ok-found_trees-clause-found
returns-in-Ok-found_trees-clause-found g c =
    let at = rw c.in-Some.is at c.requires.place in
    moved_found _ _ _ _ _ (λ known. ap g.B.BlockStore.states (at known).1) (λ known. (at known).0) _ _ _ _ c.in-Ok-found_trees.ensures.found

pub returns-clause-refused : goal.returns-clause-refused
returns-clause-refused g c =
    let S = g.B.BlockStore in
    let l = c.args.listing.now in
    let place = c.in-Some.place in
    let M = S.states l.table.now in
    let at = rw c.in-Some.is at c.requires.place in
    moved_unfound S.tells (S.states place.table.now) M (listing_by S.states place) (lost_report l.profile M l.last (listing_by S.states l)) (λ known. ap S.states (at known).1) (λ known. (at known).0) c.args.deleted c.args.trees c.in-Err-found_trees.error c.in-Err-found_trees.ensures.refused
