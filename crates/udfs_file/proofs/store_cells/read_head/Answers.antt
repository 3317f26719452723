use Rattle.std.proofs.Common.{subst, take}
use Rattle.udfs_file.specs.Pieces.{IsFrontTaken}
use Rattle.udfs_file.specs.StoreCells.{store_left}
use Rattle.udfs_file.proofs.store_cells.read_head.Goals as goal

pub returns-in-Bytes-clause-value : goal.returns-in-Bytes-clause-value
returns-in-Bytes-clause-value g c told = (c.in-Bytes.view, subst (λ front. IsFrontTaken front (take 38 (store_left g.B.BlockStore.states c.args.cells.now))) c.in-Bytes.is (c.in_ok-n.ensures.value told), c.identifier_size.ensures.value)
