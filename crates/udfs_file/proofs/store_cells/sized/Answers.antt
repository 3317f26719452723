use Rattle.std.proofs.Common.{◌∙◌, sym, subst, take, length}
use Rattle.udfs_file.specs.Pieces.{IsFrontTaken}
use Rattle.udfs_file.specs.Steps.{StepIs, bytes_of}
use Rattle.udfs_file.specs.StoreCells.{FitsFront, store_left}
use Rattle.udfs_file.proofs.StoreSteps.{sized_told}
use Rattle.udfs_file.proofs.StepLemmas.{first_bytes, sized_whole}
use Rattle.udfs_file.proofs.store_cells.sized.Goals as goal

pub returns-in-Bytes-clause-value : goal.returns-in-Bytes-clause-value
returns-in-Bytes-clause-value g c told =
    let cells = store_left g.B.BlockStore.states c.args.cells.now in
    let shown = subst (λ front. IsFrontTaken front (take c.args.size cells)) c.in-Bytes.is (c.in_ok-n.ensures.value told) in
    subst (StepIs c.checked.result) (sized_whole c.args.profile cells c.args.size c.in-Bytes.view c.requires.least c.if-size-gt2048.false (sym c.holds.ensures ∙ c.if-not-holds.false) shown) c.checked.ensures.value

pub returns-in-Bytes-clause-size : goal.returns-in-Bytes-clause-size
returns-in-Bytes-clause-size g c =
    sized_told c.checked.result _ (bytes_of c.in-Bytes.view) c.args.size (length (store_left g.B.BlockStore.states c.args.cells.now)) c.checked.ensures.value c.checked.ensures.bytes
    (subst (λ front. FitsFront front c.args.size) c.in-Bytes.is c.in_ok-n.ensures.size) (sym c.holds.ensures ∙ c.if-not-holds.false)

pub returns-in-Bytes-clause-bytes : goal.returns-in-Bytes-clause-bytes
returns-in-Bytes-clause-bytes g c told =
    let cells = store_left g.B.BlockStore.states c.args.cells.now in
    let shown = subst (λ front. IsFrontTaken front (take c.args.size cells)) c.in-Bytes.is (c.in_ok-n.ensures.value told) in
    first_bytes cells c.args.size c.in-Bytes.view c.checked.result (sym c.holds.ensures ∙ c.if-not-holds.false) shown c.checked.ensures.bytes
