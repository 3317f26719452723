use Rattle.std.proofs.Common.{◌++◌, ◌∙◌, ◌∷◌, [], List, ℕ, Bool, ap, append-nil, arith, sym}
use Rattle.udfs_witnesses.specs.Witnesses.{is_telling}
use Rattle.udfs_witnesses.proofs.WitnessLemmas.{found_here, goes_on, none_left}
use Rattle.udfs_witnesses.proofs.spread.push_telling.Goals as goal

pub returns-then-is-clause-value : goal.returns-then-is-clause-value
returns-then-is-clause-value g c told =
    let test : ℕ → Bool = λ n. is_telling (g.B.BlockStore.states c.args.blocks.now n) in
    let is = found_here test c.loop-n.n c.ninth-n-end.result _ c.loop-n-test.true (sym (c.in_ok-is.ensures.value told) ∙ c.if-is.true) (c.loop-n.invariant.1 told) in
    c.in_ok-push.ensures.items ∙ ap (λ (l : List ℕ). l ++ c.loop-n.n ∷ []) c.loop-n.invariant.0 ∙ ap (λ (l : List ℕ). c.args.places.now.items ++ l) is

pub loop-n-preserved : goal.loop-n-preserved
loop-n-preserved g c =
    let test : ℕ → Bool = λ n. is_telling (g.B.BlockStore.states c.args.blocks.now n) in
    (c.loop-n.invariant.0, λ told. goes_on test c.loop-n.n c.ninth-n-end.result _ c.loop-n-test.true (sym (c.in_ok-is.ensures.value told) ∙ c.if-is.false) (c.loop-n.invariant.1 told))

pub returns-clause-value : goal.returns-clause-value
returns-clause-value g c told =
    let test : ℕ → Bool = λ n. is_telling (g.B.BlockStore.states c.args.blocks.now n) in
    c.loop-n.invariant.0 ∙ sym (append-nil c.args.places.now.items) ∙ ap (λ (l : List ℕ). c.args.places.now.items ++ l) (none_left test c.loop-n.n (c.ninth-n-end.result) _ (omega (arith, c.loop-n-test.false)) (c.loop-n.invariant.1 told))
