use Rattle.std.proofs.Common.{◌≡◌, ap, refl, sym}
use Rattle.udfs_salvage.specs.Listings.{listing_by}
use Rattle.udfs_extraction.specs.LostPlaces.{lost_report}
use Rattle.udfs_extraction.proofs.LostPlaceLemmas.{moved_found, moved_made, moved_stop}
use Rattle.udfs_extraction.proofs.lost_places.put_lost.Goals as goal

pub add_trees-requires : goal.add_trees-requires
add_trees-requires g c = let at = rw c.in-None.is at c.requires.place in moved_found _ _ _ _ _ (λ known. refl) (λ known. sym (at known)) _ _ _ _ c.requires.found

pub add_trees-requires-in-Some : goal.add_trees-requires-in-Some
add_trees-requires-in-Some g c =
    let at = rw c.in-Some.is at c.requires.place in
    moved_found _ _ _ _ _ (λ known. sym (ap g.B.BlockStore.states (at known).1)) (λ known. sym (at known).0) _ _ _ _ c.requires.found

pub returns-in-None-clause-made : goal.returns-in-None-clause-made
returns-in-None-clause-made g c =
    let S = g.B.BlockStore in
    let l = c.args.listing in
    let M = S.states l.table.now in
    let at : S.tells → listing_by S.states l ≡ lost_report l.profile M l.last (listing_by S.states l) = rw c.in-None.is at c.requires.place in
    moved_made S.tells M M (listing_by S.states l) (lost_report l.profile M l.last (listing_by S.states l)) (λ known. refl) at g.F.Files g.F.Output.Sink.stream g.O.Sink.stream c.args.request.now c.args.files.now c.add_trees.new.files c.args.out.now c.add_trees.new.out c.add_trees.result c.add_trees.ensures.made

pub returns-in-None-clause-why : goal.returns-in-None-clause-why
returns-in-None-clause-why g c =
    let S = g.B.BlockStore in
    let O = g.O.Sink in
    let l = c.args.listing in
    let r = c.args.request.now in
    let M = S.states l.table.now in
    let at : S.tells → listing_by S.states l ≡ lost_report l.profile M l.last (listing_by S.states l) = rw c.in-None.is at c.requires.place in
    moved_stop S.tells M M (listing_by S.states l) (lost_report l.profile M l.last (listing_by S.states l)) (λ known. refl) at g.F.Files g.F.Output.Sink.stream r.deleted r.short_names c.add_trees.new.files (O.stream c.args.out.now) (O.stream c.add_trees.new.out) r.trees c.add_trees.result c.add_trees.ensures.why

pub returns-in-Some-clause-made : goal.returns-in-Some-clause-made
returns-in-Some-clause-made g c =
    let S = g.B.BlockStore in
    let l = c.args.listing in
    let place = c.in-Some.place in
    let M = S.states l.table.now in
    let at = rw c.in-Some.is at c.requires.place in
    moved_made S.tells (S.states place.table.now) M (listing_by S.states place) (lost_report l.profile M l.last (listing_by S.states l)) (λ known. ap S.states (at known).1) (λ known. (at known).0) g.F.Files g.F.Output.Sink.stream g.O.Sink.stream c.args.request.now c.args.files.now
    c.add_trees-in-Some.new.files c.args.out.now c.add_trees-in-Some.new.out c.add_trees-in-Some.result c.add_trees-in-Some.ensures.made

pub returns-in-Some-clause-why : goal.returns-in-Some-clause-why
returns-in-Some-clause-why g c =
    let S = g.B.BlockStore in
    let O = g.O.Sink in
    let l = c.args.listing in
    let place = c.in-Some.place in
    let r = c.args.request.now in
    let M = S.states l.table.now in
    let at = rw c.in-Some.is at c.requires.place in
    moved_stop S.tells (S.states place.table.now) M (listing_by S.states place) (lost_report l.profile M l.last (listing_by S.states l)) (λ known. ap S.states (at known).1) (λ known. (at known).0) g.F.Files g.F.Output.Sink.stream r.deleted r.short_names c.add_trees-in-Some.new.files
    (O.stream c.args.out.now) (O.stream c.add_trees-in-Some.new.out) r.trees c.add_trees-in-Some.result c.add_trees-in-Some.ensures.why
