use Rattle.std.proofs.Common.{rules, ◌<◌, length, ◌≡◌, ◌+◌, ◌-◌, ◌∙◌, sym, ap, subst, arith, Bor, ℕ, List, Some, Result, Err, IsErrOf, map, slice_get, ⊎_elim, inr, refl}
use Rattle.udfs_salvage.specs.Choosing.{is_node}
use Rattle.udfs_common.specs.declared.refusal.Refusal.{Refusal}
use Rattle.udfs_common.specs.declared.refusal.Refusal.TheVariants.{NoNode}
use Rattle.udfs_salvage.proofs.ChoosingLemmas.{all_by, word_at, word_there}
use Rattle.std.proofs.lemmas.Bool.{cases_lt}
use Rattle.std.proofs.lemmas.List.{length-map}
use Rattle.udfs_extraction.proofs.choosing.all_are_nodes.Goals as goal

same_number : {T : Type 0} (k i : ℕ) → IsErrOf {T = T} (Err (NoNode k)) (NoNode i) → k ≡ i
same_number {T} k i e = let same : ◌≡◌ {A = Result T Refusal} (Err (NoNode k)) (Err (NoNode i)) = e in cc

pub returns-in-Ok-false-clause-none : goal.returns-in-Ok-false-clause-none
returns-in-Ok-false-clause-none c = λ i e.
    let same = same_number (c.loop-index.index + 1) i e in
    let before : i - 1 ≡ c.loop-index.index = omega (arith, same) in (
      omega (arith, same),
      λ word at.
          let is = word_at c.args.only.now c.loop-index.index _ word (subst (λ k. slice_get (map (λ (w : Bor (List ℕ)). w.now) c.args.only.now) k ≡ Some word) before at) in
          ap (λ (w : List ℕ). is_node c.args.nodes.now w) (sym is) ∙ sym c.in-Ok-false.ensures ∙ c.in-Ok-false.field-0-test,
    )

pub loop-index-init : goal.loop-index-init
loop-index-init c = λ k word below at. absurd (omega (arith, below))

pub loop-index-preserved : goal.loop-index-preserved
loop-index-preserved c = λ k word below at. ⊎_elim (λ less. c.loop-index.invariant k word less at)
    (λ most.
    let is : k ≡ c.loop-index.index = omega (arith, below, most) in
    let same = word_at c.args.only.now c.loop-index.index _ word (subst (λ i. slice_get (map (λ (w : Bor (List ℕ)). w.now) c.args.only.now) i ≡ Some word) is at) in
    ap (λ (w : List ℕ). is_node c.args.nodes.now w) (sym same) ∙ sym c.in-Ok-true.ensures ∙ c.in-Ok-true.field-0-test) (cases_lt k c.loop-index.index)

pub returns-in-Ok-false-clause-why : goal.returns-in-Ok-false-clause-why
returns-in-Ok-false-clause-why c =
    let there = word_there c.args.only.now c.loop-index.index _ (search rules) in
    inr (record { place = c.loop-index.index; word = there.0; stands = there.1; is_none = ap (λ (w : List ℕ). is_node c.args.nodes.now w) (sym there.2) ∙ sym c.in-Ok-false.ensures ∙ c.in-Ok-false.field-0-test; first = c.loop-index.invariant; named = refl })

pub returns-clause-all : goal.returns-clause-all
returns-clause-all c = all_by (is_node c.args.nodes.now) (map (λ (w : Bor (List ℕ)). w.now) c.args.only.now) (λ k word less at. c.loop-index.invariant k word (let same = length-map c.args.only.now (λ (w : Bor (List ℕ)). w.now) in let below : k < length c.args.only.now = omega (arith, less, same) in search rules) at)
