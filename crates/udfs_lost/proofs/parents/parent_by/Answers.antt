use Rattle.std.proofs.Common.{◌≡◌, ◌∙◌}
use Rattle.udfs_lattice.proofs.StoreResults.{retold}
use Rattle.udfs_space.specs.Views.{view_by}
use Rattle.udfs_file.specs.Entries.{entry_of}
use Rattle.udfs_lost.specs.Parents.{kind_parent, parent_at}
use Rattle.udfs_lost.proofs.EntryLemmas.{no_parent, some_parent}
use Rattle.udfs_lost.proofs.parents.parent_by.Goals as goal

pub returns-in-None-clause-value : goal.returns-in-None-clause-value
returns-in-None-clause-value g c told = no_parent (view_by g.B.BlockStore.states c.args.view) c.args.folder (rw c.in-None.is at (c.in_ok-entry_at.ensures.value told))

pub returns-in-Some-clause-value : goal.returns-in-Some-clause-value
returns-in-Some-clause-value g c =
    let v = view_by g.B.BlockStore.states c.args.view in
    let e = entry_of c.in-Some.entry in
    retold g.B.BlockStore.tells c.entry_parent.result (λ found. found ≡ kind_parent v c.args.folder e e.kind) (λ found. found ≡ parent_at v c.args.folder)
    (λ told found is. is ∙ some_parent v c.args.folder c.in-Some.entry (rw c.in-Some.is at (c.in_ok-entry_at.ensures.value told))) c.entry_parent.ensures.value
