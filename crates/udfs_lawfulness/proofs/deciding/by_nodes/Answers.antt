use Rattle.std.proofs.Common.{◌∙◌, sym, ap, subst, List}
use Rattle.udfs_space.specs.Views.{view_by}
use Rattle.udfs_walk.specs.NodeFields.{NodeFields}
use Rattle.udfs_lawfulness.specs.Lawfulness.{IsRefuted}
use Rattle.udfs_lawfulness.specs.Spelling.{AreFaultless, ArePathsApart, IsFaultyAt, IsTwice}
use Rattle.udfs_lawfulness.specs.declared.answers.Why.TheVariants.{SameName}
use Rattle.udfs_lawfulness.proofs.Decided.{asked_full, faulty_refutes, tree_decides, twice_refutes}
use Rattle.udfs_lawfulness.proofs.deciding.by_nodes.Goals as goal

pub returns-in-Some-clause-decided : goal.returns-in-Some-clause-decided
returns-in-Some-clause-decided g c told = λ profile last f left opens is are. faulty_refutes profile (g.B.BlockStore.states c.args.known.blocks.now) last f (view_by g.B.BlockStore.states c.args.known) c.args.nodes.items c.in-Some.at c.swap_remove.result c.why_faulty-why.result
    opens is are (subst (λ (ns : List NodeFields). IsFaultyAt ns c.in-Some.at) c.deref.ensures.value c.in-Some.ensures) c.swap_remove.ensures.value c.why_faulty-why.ensures

pub returns-in-Some-2-clause-decided : goal.returns-in-Some-2-clause-decided
returns-in-Some-2-clause-decided g c told = λ profile last f left opens is are. subst (λ path. IsRefuted profile (g.B.BlockStore.states c.args.known.blocks.now) last (SameName path)) (sym (ap (λ (n : NodeFields). n.path) c.path.view_is))
    (twice_refutes profile (g.B.BlockStore.states c.args.known.blocks.now) last f (view_by g.B.BlockStore.states c.args.known) c.args.nodes.items c.in-Some-2.at c.swap_remove-in-Some-2.result
    opens is are (subst (λ (ns : List NodeFields). IsTwice ns c.in-Some-2.at) c.deref-2.ensures.value (rw c.in-Some-2.is at c.in_ok-at.ensures)) c.swap_remove-in-Some-2.ensures.value)

pub returns-clause-decided : goal.returns-clause-decided
returns-clause-decided g c told = λ profile last f left opens is are.
    let t = g.B.BlockStore.states c.args.known.blocks.now in
    let v = view_by g.B.BlockStore.states c.args.known in
    let nodes = c.args.nodes.items in
    tree_decides profile t last f v nodes c.deref-4.result.now c.args.unread.items c.in_ok-answer.answer left opens is are
    (subst AreFaultless c.deref.ensures.value c.in_default.ensures)
    (subst ArePathsApart c.deref-2.ensures.value (rw c.in_default-2.is at c.in_ok-at.ensures))
    (c.deref-4.ensures.value ∙ c.in_ok-more.ensures.value told ∙ asked_full v nodes c.deref-3.result.now (c.deref-3.ensures.value ∙ c.in_ok-asking.ensures.value told))
    c.in_ok-answer.ensures
