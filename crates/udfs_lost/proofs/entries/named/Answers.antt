use Rattle.std.proofs.Common.{◌∙◌, ◌≡◌, ◌++◌, ◌∷◌, [], ap, subst, sym, None, Some, cond, is_none}
use Rattle.udfs_space.specs.Views.{view_by}
use Rattle.udfs_walk.specs.Targets.{icb_of}
use Rattle.udfs_lost.specs.Naming.{named_by}
use Rattle.udfs_lost.proofs.Kept.{given_none, given_some}
use Rattle.udfs_lost.proofs.entries.named.Goals as goal
use Rattle.udfs_lost.proofs.entries.named.Goals.{in-Some, in-None+in_ok-push-in-None}

pub loop-entry-preserved : goal.loop-entry-preserved
loop-entry-preserved g c = let v = view_by g.B.BlockStore.states c.args.view in let e = c.entry-item.result in
    elim c.match-address_fault.branch [
      | in-Some w ↦ ap (λ z. z.items) w.icbs-is ∙ given_none (named_by v) c.args.entries.now c.loop-entry.entry-index e c.loop-entry.icbs.items c.loop-entry-test.true c.entry-item.is
          (ap (λ o. cond (is_none o) (Some (icb_of e.icb)) None) (sym (w.in-Some.ensures (g.B.BlockStore.states c.args.view.blocks.now)))) c.loop-entry.invariant
      | in-None+in_ok-push-in-None w ↦ ap (λ z. z.items) w.icbs-is ∙ given_some (named_by v) c.args.entries.now c.loop-entry.entry-index e (icb_of e.icb) c.loop-entry.icbs.items w.push.new.self.items
          c.loop-entry-test.true c.entry-item.is (ap (λ o. cond (is_none o) (Some (icb_of e.icb)) None) (sym (w.in-None.ensures (g.B.BlockStore.states c.args.view.blocks.now)))) c.loop-entry.invariant
          (subst (λ z. w.push.new.self.items ≡ c.loop-entry.icbs.items ++ z ∷ []) w.address.ensures w.in_ok-push-in-None.ensures.items)
    ]
