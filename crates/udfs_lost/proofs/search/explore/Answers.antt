use Rattle.std.proofs.Common.{subst, sym}
use Rattle.udfs_space.specs.Views.{view_by}
use Rattle.udfs_lost.specs.Entries.{AreEntriesRefused}
use Rattle.udfs_lost.specs.Met.{AreMetWith}
use Rattle.udfs_lost.specs.Starts.{IsExploreRefused}
use Rattle.udfs_lost.proofs.EntryLemmas.{refused_on}
use Rattle.udfs_lost.proofs.MetLemmas.{explore_refused, exploring_done, exploring_next, exploring_start}
use Rattle.udfs_lost.proofs.search.explore.Goals as goal

pub search-init : goal.search-init
search-init g c told = exploring_start (view_by g.B.BlockStore.states c.args.view) c.args.met c.in_ok-met.met c.args.icb c.len-at.result (c.requires told) c.in_ok-met.ensures c.len-at.ensures

pub returns-in_err-names-clause-refused : goal.returns-in_err-names-clause-refused
returns-in_err-names-clause-refused g c = let v = view_by g.B.BlockStore.states c.args.view in
    refused_on g.B.BlockStore.tells (AreEntriesRefused v c.in-Some.next) (IsExploreRefused v c.args.icb) c.from_residual-in_err-names.result c.in_err-names.field-0.0 c.from_residual-in_err-names.ensures.1
    (λ told error x. explore_refused v c.args.met c.search.met c.args.icb c.in-Some.next c.search.at error (c.search.invariant told) (sym c.in-Some.ensures.value) x) c.in_err-names.ensures.refused

pub search-preserved : goal.search-preserved
search-preserved g c told = exploring_next (view_by g.B.BlockStore.states c.args.view) c.args.met c.search.met c.in_ok-met-2.met c.in_ok-names.names.items c.args.icb c.in-Some.next c.search.at (c.search.invariant told)
    (sym c.in-Some.ensures.value) (c.in_ok-names.ensures.names told) (subst (λ z. AreMetWith c.search.met z c.in_ok-met-2.met) c.deref.ensures.value c.in_ok-met-2.ensures)

pub returns-clause-explored : goal.returns-clause-explored
returns-clause-explored g c told = exploring_done (view_by g.B.BlockStore.states c.args.view) c.args.met c.search.met c.args.icb c.search.at (c.search.invariant told) (sym c.in_default.ensures.value)
