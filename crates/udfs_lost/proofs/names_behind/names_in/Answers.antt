use Rattle.std.proofs.Common.{◌≡◌, ◌∙◌, ◌≤◌, ◌+◌, ◌∷◌, [], arith, length}
use Rattle.udfs_space.specs.Views.{view_by}
use Rattle.udfs_file.specs.FoundNames.{entries_in}
use Rattle.udfs_file.specs.declared.directories.DirEntry.{DirEntry}
use Rattle.udfs_lost.proofs.FoundLemmas.{not_some}
use Rattle.udfs_lost.proofs.ToldLemmas.{names_end, names_full, names_next, told_longer}
use Rattle.udfs_lost.proofs.names_behind.names_in.Goals as goal

pub returns-then-len-eq-MOST_NAMES-clause-value : goal.returns-then-len-eq-MOST_NAMES-clause-value
returns-then-len-eq-MOST_NAMES-clause-value g c told =
    let full : length c.names.told ≡ 65536 = omega (arith, c.len.ensures, c.if-len-eq-MOST_NAMES.true) in
    c.into_names.ensures ∙ names_full (view_by g.B.BlockStore.states c.args.view) c.args.lost.now c.names.told _ (entries_in c.names.names) full (c.names.invariant.all told)

pub returns-clause-value : goal.returns-clause-value
returns-clause-value g c told = c.into_names-2.ensures ∙ names_end (view_by g.B.BlockStore.states c.args.view) c.args.lost.now c.names.told _ (entries_in c.names.names)
    (not_some c.in_ok-entry.field-0 (entries_in c.names.names ≡ []) (λ (entry : DirEntry). entries_in c.names.names ≡ entry ∷ entries_in c.next_by.new.self) c.in_default.not-Some (c.in_ok-entry.ensures.found told))
    c.names.invariant.few (c.names.invariant.all told)

pub names-preserved : goal.names-preserved
names-preserved g c =
    let v = view_by g.B.BlockStore.states c.args.view in
    let us = c.args.lost.now in
    let longer : length c.in_ok-told.told ≤ length c.names.told + 1 = told_longer c.names.told c.in_ok-told.told _ c.in_ok-told.ensures in
    record {
      all = λ told. names_next v us c.names.told c.in_ok-told.told _ (entries_in c.names.names) (entries_in c.next_by.new.self) c.in-Some.entry (rw c.in-Some.is at (c.in_ok-entry.ensures.found told)) c.in_ok-told.ensures (c.names.invariant.all told);
      few = omega (arith, c.len.ensures, c.if-len-eq-MOST_NAMES.false, c.names.invariant.few);
    }
