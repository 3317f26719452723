use Rattle.std.proofs.Common.{arith, subst, sym, ◌+◌, List, ℕ}
use Rattle.udfs_witnesses.specs.Adding.{Adds}
use Rattle.udfs_witnesses.proofs.Groups.{add_alone, add_group, add_skipped}
use Rattle.udfs_witnesses.proofs.grouping.add.Goals as goal

pub returns-then-from-next : goal.returns-then-from-next
returns-then-from-next g c told = add_skipped (g.B.BlockStore.states c.args.blocks.now) c.args.last c.args.size c.args.block c.args.next c.args.asked.now.items c.requires.size (c.requires.unread told)
    (let lt = c.if-from-next.true in let same = c.from.ensures in omega (arith, lt, same))

pub returns-then-block-last : goal.returns-then-block-last
returns-then-block-last g c told =
    let T = g.B.BlockStore.states c.args.blocks.now in
    let old = c.args.asked.now.items in
    let added = add_alone T c.args.last c.args.size c.args.block c.args.next old (let past = c.if-block-last.true in omega (arith, past)) (let le = c.if-from-next.false in let same = c.from.ensures in omega (arith, le, same)) in
    subst (λ (k : ℕ). Adds T c.args.last c.args.size c.args.block old c.args.next c.push.new.self.items (k + 1)) (sym c.from-then-block-last.ensures)
    (subst (λ (l : List ℕ). Adds T c.args.last c.args.size c.args.block old c.args.next l (c.args.block + 1)) (sym c.in_ok-push.ensures.items) added)

pub returns : goal.returns
returns g c told =
    let T = g.B.BlockStore.states c.args.blocks.now in
    let old = c.args.asked.now.items in
    let added = add_group T c.args.last c.args.size c.args.block c.args.next _ _ old c.requires.size (c.requires.unread told) (let within = c.if-block-last.false in omega (arith, within))
    (let le = c.if-from-next.false in let same = c.from.ensures in omega (arith, le, same)) (c.edges-from.ensures.edges told) in
    subst (λ (k : ℕ). Adds T c.args.last c.args.size c.args.block old c.args.next c.push_blocks.new.asked.items (k + 1)) (sym c.from-2.ensures)
    (subst (λ (l : List ℕ). Adds T c.args.last c.args.size c.args.block old c.args.next l (c.edges-from.result.1 + 1)) (sym c.in_ok-push_blocks.ensures) added)
