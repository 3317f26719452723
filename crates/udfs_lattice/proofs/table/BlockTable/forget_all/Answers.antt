use Rattle.std.proofs.Common.{◌+◌, drop, subst, get_or, sym, arith}
use Rattle.std.proofs.lemmas.List.{drop_more}
use Rattle.udfs_lattice.specs.Tables.{AreForgotten}
use Rattle.udfs_lattice.proofs.Forgetting.{forgotten_first}
use Rattle.udfs_lattice.proofs.table.BlockTable.forget_all.Goals as goal

pub loop-n-preserved : goal.loop-n-preserved
loop-n-preserved c = λ v h.
    let i = c.loop-n.n-index in
    let blocks = c.args.blocks.now in
    c.loop-n.invariant v (subst (λ ns. AreForgotten c.loop-n.self ns v) (sym (drop_more blocks i 0 (omega arith)))
    (forgotten_first c.loop-n.self c.forget.new.self v (get_or blocks i 0) (drop (i + 1) blocks) c.forget.ensures h))
