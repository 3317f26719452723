use Rattle.std.proofs.Common.{List, sym, subst}
use Rattle.udfs_index.specs.declared.packet.Packet.{Packet}
use Rattle.udfs_index.specs.Copying.{IsShown}
use Rattle.udfs_index.proofs.IndexLemmas.{told_all}
use Rattle.udfs_index.proofs.index.Index.conflicts.Goals as goal

pub returns : goal.returns
returns g c t is told took =
    let all = told_all g.S.Stored.content c.args.self.now.inputs.items told in
    c.count_conflicts.ensures all.0 t is (subst (λ (l : List Packet). IsShown all.0 l t) (sym c.deref.ensures.value) (took.says all.0 all.1))
