use Rattle.std.proofs.Common.{◌≡◌, ◌∙◌, sym, ap, subst, take}
use Rattle.udfs_file.specs.Fronts.{sized_by, step_by}
use Rattle.udfs_file.specs.Steps.{StepIs}
use Rattle.udfs_file.specs.StoreCells.{IsHeadOf, store_left}
use Rattle.udfs_file.specs.declared.store_cells.Head.TheVariants.{Size}
use Rattle.udfs_lattice.proofs.StoreResults.{retold}
use Rattle.udfs_file.proofs.StepLemmas.{step_none, step_cut, step_stopped, step_sized}
use Rattle.udfs_file.proofs.store_cells.ahead.Goals as goal

pub returns-then-not-holds-clause-value : goal.returns-then-not-holds-clause-value
returns-then-not-holds-clause-value g c told = step_none c.args.profile (store_left g.B.BlockStore.states c.args.cells.now) (sym c.holds.ensures ∙ c.if-not-holds.true)

pub returns-then-not-holds-2-clause-value : goal.returns-then-not-holds-2-clause-value
returns-then-not-holds-2-clause-value g c told = step_cut c.args.profile (store_left g.B.BlockStore.states c.args.cells.now) (sym c.holds.ensures ∙ c.if-not-holds.false) (sym c.holds-2.ensures ∙ c.if-not-holds-2.true)

pub returns-in-Gap-clause-value : goal.returns-in-Gap-clause-value
returns-in-Gap-clause-value g c told = step_stopped c.args.profile (store_left g.B.BlockStore.states c.args.cells.now) c.in-Gap.n (sym c.holds.ensures ∙ c.if-not-holds.false) (sym c.holds-2.ensures ∙ c.if-not-holds-2.false)
    (rw c.in-Gap.is at (c.in_ok-n.ensures.value told))

pub returns-in-Size-clause-value : goal.returns-in-Size-clause-value
returns-in-Size-clause-value g c =
    let cells = store_left g.B.BlockStore.states c.args.cells.now in
    let same : g.B.BlockStore.tells → sized_by c.args.profile cells c.in-Size.size ≡ step_by c.args.profile cells = λ told.
    let head : IsHeadOf (Size c.in-Size.size) (take 38 cells) = (rw c.in-Size.is at (c.in_ok-n.ensures.value told)) in
    ap (sized_by c.args.profile cells) head.2 ∙ sym (step_sized c.args.profile cells head.0 (sym c.holds.ensures ∙ c.if-not-holds.false) (sym c.holds-2.ensures ∙ c.if-not-holds-2.false) head.1) in
    retold g.B.BlockStore.tells c.sized.result (λ s. StepIs s (sized_by c.args.profile cells c.in-Size.size)) (λ s. StepIs s (step_by c.args.profile cells)) (λ told s. subst (StepIs s) (same told)) c.sized.ensures.value
