use Rattle.udfs_space.specs.Views.{view_by}
use Rattle.udfs_lost.specs.Folders.{IsRootsRefused}
use Rattle.udfs_lost.proofs.EntryLemmas.{refused_on}
use Rattle.udfs_lost.proofs.SearchLemmas.{more_refused}
use Rattle.udfs_lost.proofs.search.roots.Goals as goal

pub returns-in_err-roots-clause-refused : goal.returns-in_err-roots-clause-refused
returns-in_err-roots-clause-refused g c = let v = view_by g.B.BlockStore.states c.args.view in
    refused_on g.B.BlockStore.tells (IsRootsRefused v c.in_ok-starts.starts.items) (IsRootsRefused v c.args.folders.now) c.from_residual-in_err-roots.result c.in_err-roots.field-0.0 c.from_residual-in_err-roots.ensures.1
    (λ told error x. more_refused v c.args.folders.now c.in_ok-starts.starts.items error (c.in_ok-starts.ensures.starts told) x) c.in_err-roots.ensures.refused

pub returns-clause-roots : goal.returns-clause-roots
returns-clause-roots g c told = c.in_ok-roots.ensures.roots told c.args.folders.now (c.in_ok-starts.ensures.starts told)
