use Rattle.std.proofs.Common.{◌≡◌, ap, map, rules}
use Rattle.udfs_salvage.specs.Found.{found_now, volume_now}
use Rattle.udfs_salvage.specs.Listings.{full_in}
use Rattle.udfs_extraction.proofs.FoundLemmas.{lost_seen, told_by, unlost_seen}
use Rattle.udfs_extraction.proofs.SeatLemmas.{names_seen}
use Rattle.udfs_extraction.proofs.lost_found.lost_of.Goals as goal

pub returns-in-Ok-clause-found : goal.returns-in-Ok-clause-found
returns-in-Ok-clause-found g c known =
    let l = c.args.listing.now in
    let M = g.B.BlockStore.states l.table.now in
    let nodes : c.deref.result.now ≡ l.nodes.items = search rules in (
      lost_seen c.args.deleted M (volume_now l.volume) (found_now c.in-Open.opened) _ c.args.entries.now _ c.in-Ok.lost.trees.items (ap volume_now c.in-Open.is) c.view_by-view.ensures.value (c.requires known) (c.in-Ok.ensures.trees known),
      names_seen c.args.deleted M (volume_now l.volume) (found_now c.in-Open.opened) _ c.deref.result.now _ c.args.entries.now _ c.in-Ok.lost.names (ap volume_now c.in-Open.is) c.view_by-view.ensures.value
          (ap (map (full_in M (volume_now l.volume))) nodes) (c.requires known) (c.in-Ok.ensures.names known),
    )

pub returns-in-Err-clause-refused : goal.returns-in-Err-clause-refused
returns-in-Err-clause-refused g c known =
    let l = c.args.listing.now in
    told_by _ _ (λ error why. unlost_seen c.args.deleted (g.B.BlockStore.states l.table.now) (volume_now l.volume) (found_now c.in-Open.opened) _ c.args.entries.now _ error (ap volume_now c.in-Open.is) c.view_by-view.ensures.value (c.requires known) why) c.in-Err.error (c.in-Err.ensures.refused known)
