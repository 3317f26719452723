use Rattle.std.proofs.Common.{◌≡◌, ◌∙◌, ap, false, subst, sym}
use Rattle.std.specs.Prelude.{Some, Contains}
use Rattle.std.specs.BTreeMap.{Updates, get}
use Rattle.std.specs.Ordering.{nat_cmp}
use Rattle.udfs_lattice.proofs.StoreResults.{if_ok}
use Rattle.udfs_space.specs.Views.{view_by}
use Rattle.udfs_file.specs.Bodies.{body}
use Rattle.udfs_file.specs.Entries.{entry_of}
use Rattle.udfs_walk.specs.Bare.{bare_standing}
use Rattle.udfs_walk.specs.Standings.{body_standing}
use Rattle.udfs_walk.specs.Memos.{IsToldOf, known_of, known_standing, word_of}
use Rattle.udfs_walk.specs.Visits.{AreListed}
use Rattle.udfs_walk.specs.declared.memos.Kept.{Kept}
use Rattle.udfs_walk.proofs.CountLemmas.{counted_kept}
use Rattle.udfs_walk.proofs.MemoLemmas.{kept_more, known_is, word_bare}
use Rattle.udfs_walk.proofs.memos.Memo.entered.Goals as goal

pub returns-in-Some-clause-standing : goal.returns-in-Some-clause-standing
returns-in-Some-clause-standing g c =
    let v = view_by g.B.BlockStore.states c.args.view in
    let e = entry_of c.args.entry.now in
    let b = body v c.args.address.reference c.args.address.block e in
    if_ok c.told.result (λ t. t.0 ≡ known_standing false c.in-Some.before.now.known) (λ t. g.B.BlockStore.tells → t.0 ≡ bare_standing (body_standing v.profile e.kind false b))
    (λ t is told.
    let kept = c.requires.memo told c.args.address c.args.entry.now c.in-Some.before.now c.number-number.ensures.block (c.requires.stands told)
    (sym (c.in-Some.ensures.value ∙ ap (get nat_cmp c.args.self.now.kept) c.number-number.ensures.value)) in
    is ∙ ap (known_standing false) kept.0 ∙ known_is v.profile e.kind false b)
    c.told.ensures.standing

pub returns-clause-memo : goal.returns-clause-memo
returns-clause-memo g c told =
    let v = view_by g.B.BlockStore.states c.args.view in
    let e = entry_of c.args.entry.now in
    let b = body v c.args.address.reference c.args.address.block e in
    let kept : Kept = record { known = c.known_by.result; entries = c.in_ok-shared_entries.field-0 } in
    let word : c.known_by.result ≡ known_of v.profile e.kind b
    = (λ i. record { word = (c.known_by.ensures.word ∙ ap word_of (c.in_ok-told.ensures.standing told) ∙ word_bare _) i; lists = (c.known_by.ensures.lists ∙ (c.in_ok-told.ensures.lists told)) i }) in
    let listed = subst (AreListed c.in_ok-shared_entries.field-0) (c.in_ok-told.ensures.entries told) c.in_ok-shared_entries.ensures in
    kept_more v (IsToldOf v) c.args.self.now.kept c.keep.new.memo c.args.address c.args.entry.now kept c.number-number.ensures.block (c.requires.stands told)
    (word, listed) (subst (λ k. Updates nat_cmp c.args.self.now.kept c.keep.new.memo k (Some kept)) c.number-number.ensures.value c.in_ok-keep.ensures.updates) (c.requires.memo told)

pub returns-clause-counted : goal.returns-clause-counted
returns-clause-counted g c start icbs at counted =
    let kept : Kept = record { known = c.known_by.result; entries = c.in_ok-shared_entries.field-0 } in
    counted_kept start icbs c.args.self.now (record { kept = c.keep.new.memo }) c.number-number.result c.args.walks.now c.entered_walked.new.walks kept
    (subst (Contains icbs) (sym c.number-number.ensures.value) at) c.in_ok-keep.ensures.entries (c.in_ok-keep.ensures.count (sym c.in_default.ensures.value)) c.in_ok-keep.ensures.ordered
    c.in_ok-told.ensures.walks counted
