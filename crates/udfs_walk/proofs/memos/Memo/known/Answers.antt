use Rattle.std.proofs.Common.{◌∙◌, ap, arith, subst, sym, None}
use Rattle.std.specs.Prelude.{Some, Contains}
use Rattle.std.specs.BTreeMap.{Updates, get}
use Rattle.std.specs.Ordering.{nat_cmp}
use Rattle.udfs_space.specs.Views.{view_by}
use Rattle.udfs_walk.specs.Memos.{IsWordOf, word_of}
use Rattle.udfs_walk.specs.declared.memos.Kept.{Kept}
use Rattle.udfs_walk.proofs.CountLemmas.{counted_kept, counted_new, counted_once}
use Rattle.udfs_walk.proofs.MemoLemmas.{kept_more, word_bare}
use Rattle.udfs_walk.proofs.memos.Memo.known.Goals as goal

pub returns-in-Some-clause-known : goal.returns-in-Some-clause-known
returns-in-Some-clause-known g c told = c.requires.words told c.args.address c.args.entry.now c.in-Some.kept.now c.number-number.ensures.block (c.requires.stands told)
    (sym (c.in-Some.ensures.value ∙ ap (get nat_cmp c.args.self.now.kept) c.number-number.ensures.value))

pub returns-clause-words : goal.returns-clause-words
returns-clause-words g c told =
    let v = view_by g.B.BlockStore.states c.args.view in
    let kept : Kept = record { known = c.known_by-known.result; entries = None } in
    let is : IsWordOf v c.args.address c.args.entry.now kept
    = (λ i. record { word = (c.known_by-known.ensures.word ∙ ap word_of (c.in_ok-told.ensures.standing told) ∙ word_bare _) i; lists = (c.known_by-known.ensures.lists ∙ (c.in_ok-told.ensures.lists told)) i }) in
    kept_more v (IsWordOf v) c.args.self.now.kept c.keep.new.memo c.args.address c.args.entry.now kept c.number-number.ensures.block (c.requires.stands told)
    is (subst (λ k. Updates nat_cmp c.args.self.now.kept c.keep.new.memo k (Some kept)) c.number-number.ensures.value c.in_ok-keep.ensures.updates) (c.requires.words told)

pub returns-clause-counted : goal.returns-clause-counted
returns-clause-counted g c start icbs at counted =
    let kept : Kept = record { known = c.known_by-known.result; entries = None } in
    counted_kept start icbs c.args.self.now (record { kept = c.keep.new.memo }) c.number-number.result c.args.walks.now c.body_walked.new.walks kept
    (subst (Contains icbs) (sym c.number-number.ensures.value) at) c.in_ok-keep.ensures.entries (c.in_ok-keep.ensures.count (sym c.in_default.ensures.value)) c.in_ok-keep.ensures.ordered
    c.in_ok-told.ensures.walks counted

pub returns-in-Some-clause-within : goal.returns-in-Some-clause-within
returns-in-Some-clause-within g c start icbs at counted = counted_once start icbs c.args.self.now c.args.walks.now counted

pub returns-in_err-told-clause-within : goal.returns-in_err-told-clause-within
returns-in_err-told-clause-within g c start icbs at counted =
    let fewer = counted_new start icbs c.args.self.now c.args.walks.now c.number-number.result counted (subst (Contains icbs) (sym c.number-number.ensures.value) at) (sym c.in_default.ensures.value) in
    omega (arith, fewer, c.body_walked.ensures.walks)

pub returns-in_err-keep-clause-within : goal.returns-in_err-keep-clause-within
returns-in_err-keep-clause-within g c start icbs at counted =
    let fewer = counted_new start icbs c.args.self.now c.args.walks.now c.number-number.result counted (subst (Contains icbs) (sym c.number-number.ensures.value) at) (sym c.in_default.ensures.value) in
    omega (arith, fewer, c.body_walked.ensures.walks)

pub returns-clause-within : goal.returns-clause-within
returns-clause-within g c start icbs at counted =
    let fewer = counted_new start icbs c.args.self.now c.args.walks.now c.number-number.result counted (subst (Contains icbs) (sym c.number-number.ensures.value) at) (sym c.in_default.ensures.value) in
    omega (arith, fewer, c.body_walked.ensures.walks)
