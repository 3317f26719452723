use Rattle.std.proofs.Common.{◌∙◌, Some, ap, subst, sym}
use Rattle.std.specs.BTreeMap.{Updates, get}
use Rattle.std.specs.Ordering.{nat_cmp}
use Rattle.std.specs.Prelude.{is_some}
use Rattle.udfs_lost.proofs.FoundLemmas.{numbers_kept, numbers_more}
use Rattle.udfs_lost.proofs.unplaced_entries.numbered.Goals as goal

pub returns-then-contains_key : goal.returns-then-contains_key
returns-then-contains_key c = λ us a. numbers_kept c.args.numbers us c.args.entry.now c.args.icb c.requires c.number-number.ensures.block
    (sym (c.contains_key.ensures ∙ ap (λ k. is_some (get nat_cmp c.args.numbers k)) c.number-number.ensures.value) ∙ c.if-contains_key.true) a

pub returns : goal.returns
returns c = λ us a. numbers_more c.args.numbers c.insert.new.self us c.args.entry c.args.icb c.requires c.number-number.ensures.block
    (sym (c.contains_key.ensures ∙ ap (λ k. is_some (get nat_cmp c.args.numbers k)) c.number-number.ensures.value) ∙ c.if-contains_key.false)
    (subst (λ k. Updates nat_cmp c.args.numbers c.insert.new.self k (Some c.args.entry)) c.number-number.ensures.value c.in_ok-insert.ensures.updates) a
