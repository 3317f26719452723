use Rattle.std.proofs.Common.{rules, ◌<◌, length, ◌≡◌, ◌∙◌, sym, ap, subst, arith, Bor, ℕ, List, Some, map, slice_get, ⊎_elim, refl}
use Rattle.std.proofs.lemmas.Bool.{cases_lt}
use Rattle.std.proofs.lemmas.List.{length-map}
use Rattle.udfs_salvage.specs.InLine.{names_nothing}
use Rattle.udfs_salvage.proofs.ChoosingLemmas.{word_at, word_there}
use Rattle.udfs_salvage.proofs.InLineLists.{got_below}
use Rattle.udfs_salvage.proofs.in_line.first_of_nothing.Goals as goal

pub loop-index-init : goal.loop-index-init
loop-index-init c = λ k word below at. absurd (omega (arith, below))

pub loop-index-preserved : goal.loop-index-preserved
loop-index-preserved c = λ k word below at. ⊎_elim (λ less. c.loop-index.invariant k word less at)
    (λ most.
    let is : k ≡ c.loop-index.index = omega (arith, below, most) in
    let same = word_at c.args.only.now c.loop-index.index _ word (subst (λ i. slice_get (map (λ (w : Bor (List ℕ)). w.now) c.args.only.now) i ≡ Some word) is at) in
    ap (λ (w : List ℕ). names_nothing c.args.nodes.now w) (sym same) ∙ sym c.in-Ok-false.ensures ∙ c.in-Ok-false.field-0-test) (cases_lt k c.loop-index.index)

pub returns-in-Ok-true : goal.returns-in-Ok-true
returns-in-Ok-true c =
    let there = word_there c.args.only.now c.loop-index.index _ (search rules) in
    record { index = c.loop-index.index; counted = refl; word = there.0; stands = there.1; nothing = ap (λ (w : List ℕ). names_nothing c.args.nodes.now w) (sym there.2) ∙ sym c.in-Ok-true.ensures ∙ c.in-Ok-true.field-0-test; first = c.loop-index.invariant }

pub returns : goal.returns
returns c = λ k word at. c.loop-index.invariant k word (let less = got_below (map (λ (w : Bor (List ℕ)). w.now) c.args.only.now) k word at in let same = length-map c.args.only.now (λ (w : Bor (List ℕ)). w.now) in let below : k < length c.args.only.now = omega (arith, less, same) in search rules) at
