use Rattle.std.proofs.Common.{List, ap, sym, subst, ◌∙◌}
use Rattle.std.specs.Borrow.{Bor}
use Rattle.udfs_index.specs.declared.packet.Packet.{Packet}
use Rattle.udfs_index.specs.Copying.{IsShown}
use Rattle.udfs_index.specs.Index.{contents_of}
use Rattle.udfs_index.proofs.IndexLemmas.{told_all}
use Rattle.udfs_index.proofs.index.Index.write_image.Goals as goal

pub returns-clause-bytes : goal.returns-clause-bytes
returns-clause-bytes g c t told took =
    let all = told_all g.S.Stored.content c.args.self.now.inputs.items told in
    c.write_image.ensures.bytes all.0 t
    (ap (λ (l : List (Bor _)). contents_of g.S.Stored.content l) c.deref.ensures.value ∙ all.1)
    (subst (λ (l : List Packet). IsShown all.0 l t) (sym c.deref-2.ensures.value) (took.says all.0 all.1))

pub returns-clause-reads : goal.returns-clause-reads
returns-clause-reads g c t is told never took =
    let all = told_all g.S.Stored.content c.args.self.now.inputs.items told in
    c.write_image.ensures.reads all.0 t is
    (ap (λ (l : List (Bor _)). contents_of g.S.Stored.content l) c.deref.ensures.value ∙ all.1) never
    (subst (λ (l : List Packet). IsShown all.0 l t) (sym c.deref-2.ensures.value) (took.says all.0 all.1))
