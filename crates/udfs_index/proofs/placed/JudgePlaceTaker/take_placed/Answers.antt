use Rattle.udfs_index.proofs.PlacedLemmas.{block_at, takes_placed}
use Rattle.udfs_index.proofs.placed.JudgePlaceTaker.take_placed.Goals as goal

pub returns-clause-ok : goal.returns-clause-ok
returns-clause-ok g c =
    let content = g.S.Stored.content c.args._stored.now in
    takes_placed content c.args._at c.args._block (block_at content c.args._at c.requires.whole) (λ t h. tt)
