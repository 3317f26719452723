use Rattle.std.proofs.Common.{◌∙◌}
use Rattle.udfs_space.specs.Views.{view_by}
use Rattle.udfs_file.specs.Bodies.{body}
use Rattle.udfs_file.specs.Entries.{entry_of}
use Rattle.udfs_walk.specs.Routes.{kind_entries}
use Rattle.udfs_walk.specs.Visits.{AreRefused}
use Rattle.udfs_lost.specs.Entries.{AreEntriesRefused}
use Rattle.udfs_lost.proofs.EntryLemmas.{listing_refused, nothing_listed, refused_on, something_listed}
use Rattle.udfs_lost.proofs.entries.entries_at.Goals as goal

pub listed-requires : goal.listed-requires
listed-requires g c told = (rw c.in-Some.is at (c.in_ok-entry_at.ensures.value told)).1

pub returns-in_err-entries-in-Some-clause-refused : goal.returns-in_err-entries-in-Some-clause-refused
returns-in_err-entries-in-Some-clause-refused g c =
    let v = view_by g.B.BlockStore.states c.args.view in
    let e = entry_of c.in-Some.entry in
    refused_on g.B.BlockStore.tells (AreRefused 65535 (kind_entries v.profile e.kind (body v c.args.icb.reference c.args.icb.block e))) (AreEntriesRefused v c.args.icb)
    c.from_residual-in_err-entries-in-Some.result c.in_err-entries-in-Some.field-0.0 c.from_residual-in_err-entries-in-Some.ensures.1
    (λ told error x. listing_refused v c.args.icb c.in-Some.entry error (rw c.in-Some.is at (c.in_ok-entry_at.ensures.value told)) x) c.in_err-entries-in-Some.ensures.refused

pub returns-in-None-clause-entries : goal.returns-in-None-clause-entries
returns-in-None-clause-entries g c told = c.new.ensures.items ∙ nothing_listed (view_by g.B.BlockStore.states c.args.view) c.args.icb (rw c.in-None.is at (c.in_ok-entry_at.ensures.value told))

pub returns-in_ok-entries-in-Some-clause-entries : goal.returns-in_ok-entries-in-Some-clause-entries
returns-in_ok-entries-in-Some-clause-entries g c told = c.in_ok-entries-in-Some.ensures.entries told
    ∙ something_listed (view_by g.B.BlockStore.states c.args.view) c.args.icb c.in-Some.entry (rw c.in-Some.is at (c.in_ok-entry_at.ensures.value told))
