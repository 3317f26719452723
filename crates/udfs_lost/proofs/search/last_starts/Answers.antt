use Rattle.std.proofs.Common.{◌∙◌, arith, subst, sym}
use Rattle.std.specs.Prelude.{reverse}
use Rattle.udfs_space.specs.Views.{view_by}
use Rattle.udfs_lost.specs.Folders.{AreLostRoots, IsRootsRefused}
use Rattle.udfs_lost.specs.Starts.{IsExploreRefused}
use Rattle.udfs_lost.proofs.EntryLemmas.{refused_on}
use Rattle.udfs_lost.proofs.Members.{last_in, no_items, popped}
use Rattle.udfs_lost.proofs.SearchLemmas.{IsLasting, lasting_done, lasting_more, lasting_skip, put_before, roots_refused}
use Rattle.udfs_lost.proofs.search.last_starts.Goals as goal

pub explore-requires : goal.explore-requires
explore-requires g c told = c.roots.invariant.closed told

pub returns-in_err-met-clause-refused : goal.returns-in_err-met-clause-refused
returns-in_err-met-clause-refused g c = let v = view_by g.B.BlockStore.states c.args.view in
    refused_on g.B.BlockStore.tells (IsExploreRefused v c.in-Some.folder) (IsRootsRefused v c.args.starts.items) c.from_residual.result c.in_err-met.field-0.0 c.from_residual.ensures.1
    (λ told error x. roots_refused v c.args.starts.items c.in-Some.folder error (c.roots.invariant.within c.in-Some.folder (last_in c.roots.left.items c.pop.new.self.items c.in-Some.folder c.in-Some.ensures.items)) x)
    c.in_err-met.ensures.refused

pub roots-preserved-in-Continue-branch-2 : goal.roots-preserved-in-Continue-branch-2
roots-preserved-in-Continue-branch-2 g c =
    let v = view_by g.B.BlockStore.states c.args.view in
    let starts = c.args.starts.items in
    let less = c.pop.new.self.items in
    record {
      closed = λ told. (c.in_ok-met.ensures.explored told).closed;
      within = λ f i. c.roots.invariant.within f (popped c.roots.left.items less c.in-Some.folder f c.in-Some.ensures.items i);
      lasting = λ told folders st. subst (IsLasting v folders starts less c.in_ok-met.met) (sym (put_before c.roots.roots.items c.put.new.folders.items c.in-Some.folder c.in_ok-put.ensures))
          (lasting_more v folders starts c.roots.left.items less c.roots.met c.in_ok-met.met (reverse c.roots.roots.items) c.in-Some.folder st c.in-Some.ensures.items
          (sym c.contains.ensures.value ∙ c.if-not-contains.true) (c.roots.invariant.closed told) (c.in_ok-met.ensures.explored told) (c.roots.invariant.lasting told folders st));
    }

pub roots-preserved : goal.roots-preserved
roots-preserved g c =
    let v = view_by g.B.BlockStore.states c.args.view in
    let less = c.pop.new.self.items in
    record {
      closed = c.roots.invariant.closed;
      within = λ f i. c.roots.invariant.within f (popped c.roots.left.items less c.in-Some.folder f c.in-Some.ensures.items i);
      lasting = λ told folders st. lasting_skip v folders c.args.starts.items c.roots.left.items less c.roots.met (reverse c.roots.roots.items) c.in-Some.folder c.in-Some.ensures.items
          (sym c.contains.ensures.value ∙ c.if-not-contains.false) (c.roots.invariant.lasting told folders st);
    }

pub returns-clause-roots : goal.returns-clause-roots
returns-clause-roots g c told = λ folders st. let v = view_by g.B.BlockStore.states c.args.view in subst (AreLostRoots v folders) (sym c.reverse.ensures.items)
    (lasting_done v folders c.args.starts.items c.roots.left.items c.roots.met (reverse c.roots.roots.items) st
    (no_items c.roots.left.items (omega (arith, c.in_default.ensures.cases.0, c.roots.left.ok.0))) (c.roots.invariant.lasting told folders st))
