use Rattle.std.proofs.Common.{◌≡◌, ◌∙◌, ◌+◌, ◌∷◌, [], Option, arith, cond, length, length-append, map, subst, sym, ap}
use Rattle.std.specs.Prelude.{is_some, option_map}
use Rattle.udfs_walk.specs.declared.answers.Unnamed.{Unnamed}
use Rattle.udfs_space.specs.Views.{view_by}
use Rattle.udfs_walk.specs.UnnamedEntries.{unnamed_at}
use Rattle.udfs_walk.specs.Bare.{full_entry}
use Rattle.udfs_walk.proofs.BareNodes.{entries_more}
use Rattle.udfs_walk.proofs.NamedLemmas.{push_some, push_none}
use Rattle.udfs_walk.proofs.unnamed_entries.push_unnamed.Goals as goal
use Rattle.udfs_walk.proofs.unnamed_entries.push_unnamed.Goals.{in-Some+in_ok-push-in-Some, in-None}

pub loop-block-preserved : goal.loop-block-preserved
loop-block-preserved g c = (
  λ told nodes a.
      let v = view_by g.B.BlockStore.states c.args.view in
      let f = unnamed_at v nodes in
      elim c.match-branch-2.branch [
        | in-Some+in_ok-push-in-Some w ↦ let is = ap (option_map (full_entry v)) (sym w.in-Some.is) ∙ c.in_ok-entry.ensures.entry told nodes a in
            push_some f c.args.reference c.loop-block.block (map (full_entry v) c.args.found.now.items) (map (full_entry v) c.loop-block.found.items) (map (full_entry v) c.match-branch-2.found.items) (full_entry v w.in-Some.entry)
            (c.loop-block.invariant.0 told nodes a) is
            (entries_more v c.loop-block.found.items c.match-branch-2.found.items w.in-Some.entry (ap (λ x. x.items) w.found-is ∙ w.in_ok-push-in-Some.ensures.items))
        | in-None w ↦ ap (λ x. map (full_entry v) x.items) w.found-is ∙ push_none f c.args.reference c.loop-block.block (map (full_entry v) c.args.found.now.items) (map (full_entry v) c.loop-block.found.items)
            (c.loop-block.invariant.0 told nodes a) (ap (option_map (full_entry v)) (sym w.in-None.is) ∙ c.in_ok-entry.ensures.entry told nodes a)
      ],
  (elim c.match-branch-2.branch [
    | in-Some+in_ok-push-in-Some w ↦
        let one : c.unnamed_at.new.walks ≡ c.loop-block.walks + 1 = subst (λ (o : Option Unnamed). c.unnamed_at.new.walks ≡ c.loop-block.walks + cond (is_some o) 1 0) w.in-Some.is c.in_ok-entry.ensures.walks in
        let more : length c.match-branch-2.found.items ≡ length c.loop-block.found.items + 1 = ap (λ x. length x.items) w.found-is ∙ ap length w.in_ok-push-in-Some.ensures.items ∙ length-append c.loop-block.found.items (w.in-Some.entry ∷ []) in
        let so_far = c.loop-block.invariant.1 in
        omega (arith, one, more, so_far)
    | in-None w ↦
        let none : c.unnamed_at.new.walks ≡ c.loop-block.walks + 0 = subst (λ (o : Option Unnamed). c.unnamed_at.new.walks ≡ c.loop-block.walks + cond (is_some o) 1 0) w.in-None.is c.in_ok-entry.ensures.walks in
        let same : length c.match-branch-2.found.items ≡ length c.loop-block.found.items = ap (λ x. length x.items) w.found-is in
        let so_far = c.loop-block.invariant.1 in
        omega (arith, none, same, so_far)
  ]),
)
