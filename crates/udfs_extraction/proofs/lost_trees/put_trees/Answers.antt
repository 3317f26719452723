use Rattle.std.proofs.Common.{◌≡◌, ◌+◌, ◌∷◌, ◌++◌, ◌∙◌, [], ap, arith, drop, length, length-append, refl, rules, subst, sym, true}
use Rattle.std.specs.Prelude.{◌&&◌}
use Rattle.std.specs.List.{list_all}
use Rattle.udfs_salvage.specs.Found.{volume_now}
use Rattle.udfs_extraction.specs.Extracting.{TellsLines}
use Rattle.udfs_extraction.specs.LostTrees.{IsTreePut, is_put_well, tree_lines}
use Rattle.udfs_extraction.proofs.LostLemmas.{lost_on, nothing_lost}
use Rattle.udfs_extraction.proofs.TreeLemmas.{good_trees_more, next_lines, next_tree, trees_cut, trees_next, trees_still}
use Rattle.udfs_extraction.proofs.lost_trees.put_trees.Goals as goal

pub loop-tree-init : goal.loop-tree-init
loop-tree-init g c =
    let left : c.into_iter-tree-iterator.result.rest.items ≡ c.args.trees.items = search rules in
    let long : c.into_iter-tree-iterator.result.rest.len ≡ length c.args.trees.items = search rules in
    record {
      same = (refl, refl);
      put = λ known. ([], tt, record { given = search rules; kept = refl }, omega (arith, long), left, refl);
      spares = nothing_lost _ c.args.folder.now c.args.files.now;
    }

pub loop-tree-preserved : goal.loop-tree-preserved
loop-tree-preserved g c =
    let F = g.F.Files in
    let S = g.O.Sink in
    let out = g.F.Output.Sink.stream in
    let i = c.loop-tree.invariant in
    let l = c.args.listing in
    let M = g.B.BlockStore.states l.table.now in
    let volume = volume_now l.volume in
    let trees = c.args.trees.items in
    let tree = c.in-Some.tree in
    let lined = tree_lines M volume c.args.short in
    let head : c.loop-tree.tree-iterator.rest.items ≡ tree ∷ c.next.new.self.rest.items = search rules in
    let step = c.put_next.ensures in
    let P = IsTreePut F out c.loop-tree.files M volume c.args.short c.args.folder.now c.args.names.now in
    let Q = IsTreePut F out c.put_next.new.files M volume c.args.short c.args.folder.now c.args.names.now in
    let still = trees_still F out M volume c.args.short c.args.folder.now c.args.names.now c.loop-tree.files c.put_next.new.files (g.met.F.Files.counts_now c.loop-tree.files) step.spares in
    let less : c.next.new.self.rest.len + 1 ≡ c.loop-tree.tree-iterator.rest.len = search rules in
    let next = rw i.same.0 at (rw i.same.1 at c.in-Ok.ensures.put) in
    record {
      same = (step.same.0 ∙ i.same.0, step.same.1 ∙ i.same.1);
      put = λ known.
          let was = i.put known in
          let n = length was.0 in
          let here = next_tree trees n tree c.next.new.self.rest.items (sym head ∙ was.4) in
          let put = next known in
          let many = was.3 in
          let longer = length-append was.0 (put.1 ∷ []) in
          let told : TellsLines true (S.stream c.loop-tree.out) (S.stream c.put_next.new.out) (lined tree put.1) = subst (λ b. TellsLines b (S.stream c.loop-tree.out) (S.stream c.put_next.new.out) (lined tree put.1)) put.4.1 put.3 in (
            was.0 ++ put.1 ∷ [],
            trees_next P Q trees was.0 n tree put.1 still refl here.0 was.1 put.2 put.4.0,
            next_lines lined trees (S.stream c.args.out.now) (S.stream c.loop-tree.out) (S.stream c.put_next.new.out) was.0 n tree true put.1 refl here.0 was.2 told,
            (omega (arith, many, longer, less)),
            here.1 ∙ ap (λ k. drop k trees) (let grown : n + 1 ≡ length (was.0 ++ put.1 ∷ []) = omega (arith, longer) in grown),
            c.is_all_good-good.ensures ∙ ap (λ b. b && c.in-Ok.put) was.5 ∙ ap (λ b. list_all is_put_well was.0 && b) put.4.2 ∙ good_trees_more was.0 put.1,
          );
      spares = lost_on _ c.args.folder.now _ _ _ i.spares step.spares;
    }

pub returns-in-Err-clause-why : goal.returns-in-Err-clause-why
returns-in-Err-clause-why g c known =
    let F = g.F.Files in
    let S = g.O.Sink in
    let out = g.F.Output.Sink.stream in
    let i = c.loop-tree.invariant in
    let was = i.put known in
    let l = c.args.listing in
    let M = g.B.BlockStore.states l.table.now in
    let volume = volume_now l.volume in
    let trees = c.args.trees.items in
    let n = length was.0 in
    let tree = c.in-Some.tree in
    let lined = tree_lines M volume c.args.short in
    let head : c.loop-tree.tree-iterator.rest.items ≡ tree ∷ c.next.new.self.rest.items = search rules in
    let here = next_tree trees n tree c.next.new.self.rest.items (sym head ∙ was.4) in
    let step = c.put_next.ensures in
    let P = IsTreePut F out c.loop-tree.files M volume c.args.short c.args.folder.now c.args.names.now in
    let Q = IsTreePut F out c.put_next.new.files M volume c.args.short c.args.folder.now c.args.names.now in
    let still = trees_still F out M volume c.args.short c.args.folder.now c.args.names.now c.loop-tree.files c.put_next.new.files (g.met.F.Files.counts_now c.loop-tree.files) step.spares in
    let next = rw i.same.0 at (rw i.same.1 at c.in-Err.ensures.put) in
    let put = next known in
    trees_cut P Q lined trees (S.stream c.args.out.now) (S.stream c.loop-tree.out) (S.stream c.put_next.new.out) was.0 n tree put.0 put.1 c.in-Err.stop still refl here.0 was.1 was.2 put.2 put.3 put.5

pub returns-in-Err-clause-spares : goal.returns-in-Err-clause-spares
returns-in-Err-clause-spares g c = lost_on _ c.args.folder.now _ _ _ c.loop-tree.invariant.spares c.put_next.ensures.spares

pub returns-clause-put : goal.returns-clause-put
returns-clause-put g c known =
    let was = c.loop-tree.invariant.put known in
    let none : c.loop-tree.tree-iterator.rest.len ≡ 0 = search rules in
    let many = was.3 in
    record { puts = was.0; each = was.1; all = omega (arith, none, many); lines = was.2; says = was.5 }

pub returns-clause-spares : goal.returns-clause-spares
returns-clause-spares g c = c.loop-tree.invariant.spares
