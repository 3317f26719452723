use Rattle.std.proofs.Common.{◌≡◌, rules, true, false, inl, inr, refl, sym, ◌∙◌}
use Rattle.udfs_extraction.proofs.LostLemmas.{lost_on, lost_same, puts_lost}
use Rattle.udfs_extraction.proofs.unnamed.put_lost.Goals as goal

pub returns-then-not-make_if_open-clause-spares : goal.returns-then-not-make_if_open-clause-spares
returns-then-not-make_if_open-clause-spares g c = lost_same _ c.args.folder.now _ _ c.make_if_open.ensures.others c.make_if_open.ensures.crash

pub returns-in-Err-OutOfMemory-clause-spares : goal.returns-in-Err-OutOfMemory-clause-spares
returns-in-Err-OutOfMemory-clause-spares g c =
    lost_on _ c.args.folder.now _ _ _ (lost_same _ c.args.folder.now _ _ c.make_if_open.ensures.others c.make_if_open.ensures.crash) c.put_entries.ensures.spares

pub returns-in-Err-Unread-clause-spares : goal.returns-in-Err-Unread-clause-spares
returns-in-Err-Unread-clause-spares g c =
    lost_on _ c.args.folder.now _ _ _ (lost_same _ c.args.folder.now _ _ c.make_if_open.ensures.others c.make_if_open.ensures.crash) c.put_entries.ensures.spares

pub returns-then-not-told-clause-spares : goal.returns-then-not-told-clause-spares
returns-then-not-told-clause-spares g c =
    lost_on _ c.args.folder.now _ _ _ (lost_same _ c.args.folder.now _ _ c.make_if_open.ensures.others c.make_if_open.ensures.crash) c.put_entries.ensures.spares

pub returns-clause-spares : goal.returns-clause-spares
returns-clause-spares g c =
    lost_on _ c.args.folder.now _ _ _ (lost_same _ c.args.folder.now _ _ c.make_if_open.ensures.others c.make_if_open.ensures.crash) c.put_entries.ensures.spares

pub returns-clause-put : goal.returns-clause-put
returns-clause-put g c known =
    let put = rw c.has_two_partitions-two.ensures at (c.in-Ok.ensures.put known) in
    let took = put.4.1 in
    let heard : c.in-Ok.told.heard ≡ true = search rules in
    puts_lost _ _ _ _ _ _ _ (sym took ∙ heard) (put.1, put.2, put.3, put.4.0, put.4.2)

pub returns-then-not-make_if_open-clause-why : goal.returns-then-not-make_if_open-clause-why
returns-then-not-make_if_open-clause-why g c known = inl (refl, refl, c.make_if_open.ensures.cause (search rules))

pub returns-in-Err-OutOfMemory-clause-why : goal.returns-in-Err-OutOfMemory-clause-why
returns-in-Err-OutOfMemory-clause-why g c known =
    let put = rw c.has_two_partitions-two.ensures at (c.put_entries.ensures.put known) in
    inr (put.0, put.1, put.2, put.3, inl (search rules))

pub returns-in-Err-Unread-clause-why : goal.returns-in-Err-Unread-clause-why
returns-in-Err-Unread-clause-why g c known =
    let put = rw c.has_two_partitions-two.ensures at (c.put_entries.ensures.put known) in
    (put.0, put.1, put.2, put.3)

pub returns-then-not-told-clause-why : goal.returns-then-not-told-clause-why
returns-then-not-told-clause-why g c known =
    let put = rw c.has_two_partitions-two.ensures at (c.in-Ok.ensures.put known) in
    let unheard : c.in-Ok.told.heard ≡ false = search rules in
    inr (put.0, put.1, put.2, put.3, inr (refl, sym put.4.1 ∙ unheard, put.4.0))
