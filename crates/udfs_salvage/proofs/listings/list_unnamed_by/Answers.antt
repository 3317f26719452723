use Rattle.std.proofs.Common.{◌≡◌, ◌∙◌, ap, map, subst, sym}
use Rattle.udfs_volume.specs.Answers.{found}
use Rattle.udfs_walk.specs.Bare.{full_entry, full_node}
use Rattle.udfs_walk.specs.UnnamedEntries.{unnamed}
use Rattle.udfs_salvage.specs.Found.{found_now, volume_now}
use Rattle.udfs_salvage.specs.Listings.{full_entry_in, full_in, unnamed_in}
use Rattle.udfs_salvage.proofs.listings.list_unnamed_by.Goals as goal

pub returns-in_ok-entries-in-Open-clause-entries : goal.returns-in_ok-entries-in-Open-clause-entries
returns-in_ok-entries-in-Open-clause-entries g c told =
    let l = c.args.listing.now in
    let T = g.B.BlockStore.states l.table.now in
    let f = found_now c.in-Open.opened in
    let es = c.in_ok-entries-in-Open.entries.items in
    let seen = c.view_by-view.ensures in
    let told : map (full_entry_in T (found f)) es ≡ unnamed_in T (found f) (map (full_in T (found f)) l.nodes.items) =
    ap (λ v. map (full_entry v) es) (sym seen.value)
    ∙ c.in_ok-entries-in-Open.ensures.value told
    ∙ (λ i. unnamed (seen.value i) (seen.space i) (map (full_node (seen.value i)) (c.deref.ensures.value i))) in
    subst (λ a. map (full_entry_in T a) es ≡ unnamed_in T a (map (full_in T a) l.nodes.items)) (sym (ap volume_now c.in-Open.is)) told
