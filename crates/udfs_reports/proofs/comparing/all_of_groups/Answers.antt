use Rattle.std.proofs.Common.{◌∙◌, ℕ, List, subst, sym}
use Rattle.udfs_lattice.specs.Volumes.{IsUnread}
use Rattle.udfs_volume.specs.Seen.{IsRising}
use Rattle.udfs_reports.proofs.RereadingLemmas.{unread_are, unread_rise}
use Rattle.udfs_reports.proofs.comparing.all_of_groups.Goals as goal

pub grouped-requires-clause-rising : goal.grouped-requires-clause-rising
grouped-requires-clause-rising g c told = subst (λ (ns : List ℕ). IsRising ns) (sym (c.deref.ensures.value ∙ c.in_ok-unread.ensures told)) (unread_rise (g.B.BlockStore.states c.args.blocks.now) c.args.wanted.now (c.requires.rising told))

pub grouped-requires-clause-unread : goal.grouped-requires-clause-unread
grouped-requires-clause-unread g c told = subst (λ (ns : List ℕ). IsUnread (g.B.BlockStore.states c.args.blocks.now) ns) (sym (c.deref.ensures.value ∙ c.in_ok-unread.ensures told)) (unread_are (g.B.BlockStore.states c.args.blocks.now) c.args.wanted.now)
