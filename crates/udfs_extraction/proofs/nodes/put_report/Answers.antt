use Rattle.std.proofs.Common.{◌≡◌, ◌∙◌, Bor, List, map, rules, sym, true, ℕ, false, inl, inr, refl}
use Rattle.std.specs.List.{list_all}
use Rattle.udfs_walk.specs.NodeFields.{NodeFields}
use Rattle.udfs_salvage.specs.Found.{volume_now}
use Rattle.udfs_walk.specs.Unsettled.{is_whole}
use Rattle.udfs_salvage.specs.Listings.{listing_by}
use Rattle.udfs_salvage.specs.Choosing.{chosen, is_node}
use Rattle.udfs_extraction.specs.Manifests.{notes_text}
use Rattle.udfs_extraction.proofs.ListedLemmas.{same_chosen, same_named}
use Rattle.udfs_extraction.proofs.ManifestLemmas.{by_open, puts_with}
use Rattle.udfs_extraction.proofs.PutNodes.{spares_all, spares_on}
use Rattle.udfs_extraction.proofs.RefusedLemmas.{unnamed_before}
use Rattle.udfs_extraction.proofs.nodes.put_report.Goals as goal

pub returns-in-Err-OutOfMemory-clause-crash : goal.returns-in-Err-OutOfMemory-clause-crash
returns-in-Err-OutOfMemory-clause-crash g c told =
    let F = g.F.Files in
    spares_on F.moment F.may_leave F.left_since _ c.put_folder.new.files _ c.args.folder.now (F.holds c.args.files.now) (F.holds c.put_folder.new.files) (λ q bytes is. c.put_folder.ensures.others q ∙ is)
    (spares_all F.moment F.may_leave F.left_since _ _ c.args.folder.now (F.holds c.args.files.now) c.put_folder.ensures.crash) (c.put_nodes.ensures.crash told)

pub returns-in-Err-Unread-clause-crash : goal.returns-in-Err-Unread-clause-crash
returns-in-Err-Unread-clause-crash g c told =
    let F = g.F.Files in
    spares_on F.moment F.may_leave F.left_since _ c.put_folder.new.files _ c.args.folder.now (F.holds c.args.files.now) (F.holds c.put_folder.new.files) (λ q bytes is. c.put_folder.ensures.others q ∙ is)
    (spares_all F.moment F.may_leave F.left_since _ _ c.args.folder.now (F.holds c.args.files.now) c.put_folder.ensures.crash) (c.put_nodes.ensures.crash told)

pub returns-then-not-told-clause-crash : goal.returns-then-not-told-clause-crash
returns-then-not-told-clause-crash g c told =
    let F = g.F.Files in
    spares_on F.moment F.may_leave F.left_since _ c.put_folder.new.files _ c.args.folder.now (F.holds c.args.files.now) (F.holds c.put_folder.new.files) (λ q bytes is. c.put_folder.ensures.others q ∙ is)
    (spares_all F.moment F.may_leave F.left_since _ _ c.args.folder.now (F.holds c.args.files.now) c.put_folder.ensures.crash) (c.put_nodes.ensures.crash told)

pub returns-else-not-told-clause-crash : goal.returns-else-not-told-clause-crash
returns-else-not-told-clause-crash g c told =
    let F = g.F.Files in
    spares_on F.moment F.may_leave F.left_since _ c.put_folder.new.files _ c.args.folder.now (F.holds c.args.files.now) (F.holds c.put_folder.new.files) (λ q bytes is. c.put_folder.ensures.others q ∙ is)
    (spares_all F.moment F.may_leave F.left_since _ _ c.args.folder.now (F.holds c.args.files.now) c.put_folder.ensures.crash) (c.put_nodes.ensures.crash told)

pub returns-else-not-told-clause-put : goal.returns-else-not-told-clause-put
returns-else-not-told-clause-put g c known =
    let put = c.in-Ok-put_nodes.ensures.put known in
    let took = put.3.1 in
    let l = c.args.listing.now in
    let M = g.B.BlockStore.states l.table.now in
    let a = volume_now l.volume in
    let items = l.nodes.items in
    let only = map (λ (word : Bor (List ℕ)). word.now) c.args.only.now in
    let heard : put.0 ≡ true = search (rules, took) in
    let named_items : list_all (is_node items) only ≡ true = search rules in
    let named : list_all (is_node (listing_by g.B.BlockStore.states l).nodes) only ≡ true = same_named M a items only ∙ named_items in
    let whole_items : c.in-Ok-chosen_are_whole.whole ≡ list_all (λ (n : NodeFields). is_whole n.standing) (chosen only items) = search rules in
    let whole : c.in-Ok-chosen_are_whole.whole ≡ list_all (λ (n : NodeFields). is_whole n.standing) (chosen only (listing_by g.B.BlockStore.states l).nodes) = whole_items ∙ sym (same_chosen M a only items) in
    by_open _ _ c.in-Open.is _ _ (puts_with _ _ _ _ _ _ _ _ put.1 put.0 c.in-Ok-put_nodes.told.good c.in-Ok-chosen_are_whole.whole (notes_text c.args.short (listing_by g.B.BlockStore.states l) c.in-Ok-put_nodes.told.manifest.items) named put.2 put.3.0 heard put.3.2 whole c.is_all_good.ensures put.3.3)

pub returns-in-Err-clause-why : goal.returns-in-Err-clause-why
returns-in-Err-clause-why g c known =
    let l = c.args.listing.now in
    let why = rw c.deref.ensures.value at c.in-Err.ensures.why in
    by_open _ _ c.in-Open.is _ _ (inl (unnamed_before _ (g.B.BlockStore.states l.table.now) (volume_now l.volume) _ l.nodes.items _ _ _ why))

pub returns-in-Err-chosen_are_whole-clause-why : goal.returns-in-Err-chosen_are_whole-clause-why
returns-in-Err-chosen_are_whole-clause-why g c known = by_open _ _ c.in-Open.is _ _ (inl (refl, inl (refl, inl (search rules))))

pub returns-then-ne-clause-why : goal.returns-then-ne-clause-why
returns-then-ne-clause-why g c known = by_open _ _ c.in-Open.is _ _ (inl (refl, inr (refl, c.put_folder.ensures.cause (search rules))))

pub returns-in-Err-OutOfMemory-clause-why : goal.returns-in-Err-OutOfMemory-clause-why
returns-in-Err-OutOfMemory-clause-why g c known =
    let put = c.put_nodes.ensures.put known in
    by_open _ _ c.in-Open.is _ _ (inr (record { heard = put.0; fates = put.1; puts = put.2; why = inl (search rules) }))

pub returns-in-Err-Unread-clause-why : goal.returns-in-Err-Unread-clause-why
returns-in-Err-Unread-clause-why g c known =
    let put = c.put_nodes.ensures.put known in
    by_open _ _ c.in-Open.is _ _ (put.0, put.1, put.2)

pub returns-then-not-told-clause-why : goal.returns-then-not-told-clause-why
returns-then-not-told-clause-why g c known =
    let put = c.in-Ok-put_nodes.ensures.put known in
    let took = put.3.1 in
    let unheard : put.0 ≡ false = search (rules, took) in
    by_open _ _ c.in-Open.is _ _ (inr (record { heard = put.0; fates = put.1; puts = put.2; why = inr (refl, unheard, put.3.0) }))
