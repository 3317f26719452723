use Rattle.std.proofs.Common.{◌∙◌, ap}
use Rattle.std.specs.List.{list_any}
use Rattle.udfs_walk.specs.Targets.{is_icb}
use Rattle.udfs_walk.specs.declared.answers.Unnamed.{Unnamed}
use Rattle.udfs_lost.specs.Folders.{icb_of_entry}
use Rattle.udfs_lost.proofs.FoundLemmas.{entry_next}
use Rattle.udfs_lost.proofs.unplaced_entries.with_roots.Goals as goal

pub loop-entry-preserved : goal.loop-entry-preserved
loop-entry-preserved c = entry_next (λ (u : Unnamed). list_any (is_icb (icb_of_entry u)) c.args.roots.now) c.args.entries.now c.loop-entry.entry-index c.entry-item.result c.contains-wanted.result c.args.found c.loop-entry.found c.in_ok-found.found
    c.loop-entry-test.true c.entry-item.is (c.contains-wanted.ensures.value ∙ ap (λ z. list_any (is_icb z) c.args.roots.now) c.address.ensures) c.loop-entry.invariant c.in_ok-found.ensures
