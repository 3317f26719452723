use Rattle.std.proofs.Common.{◌∙◌, ◌<◌, ap, length, subst, sym, true}
use Rattle.std.specs.BTreeSet.{Updates, contains}
use Rattle.std.specs.Ordering.{nat_cmp}
use Rattle.std.proofs.lemmas.Bool.{ltb-true}
use Rattle.udfs_tag.specs.Fields.{number_of}
use Rattle.udfs_tag.specs.declared.layouts.LbAddr.{LbAddr}
use Rattle.udfs_space.specs.Views.{view_by}
use Rattle.udfs_walk.specs.Bare.{lists_at}
use Rattle.udfs_walk.specs.Gathering.{AreGathered}
use Rattle.udfs_walk.specs.NodeFields.{NodeFields}
use Rattle.udfs_walk.specs.Rereads.{missing_of}
use Rattle.udfs_walk.specs.Targets.{icb_of}
use Rattle.udfs_walk.proofs.BareRereads.{gathered_before, gathered_now, gathered_still, lacks_all}
use Rattle.udfs_walk.proofs.rereads.gather.Goals as goal
use Rattle.udfs_walk.proofs.rereads.gather.Goals.{then-lacks_blocks+in_ok-insert, else-lacks_blocks}

pub returns-then-contains-clause-more : goal.returns-then-contains-clause-more
returns-then-contains-clause-more g c told = gathered_before (view_by g.B.BlockStore.states c.args.view) c.args.node.now c.args.gathered.now c.args.blocks.now.items
    (subst (λ (n : NodeFields). n.icb.block < 4294967296) c.node.view_is (subst (λ (x : LbAddr). x.block < 4294967296) c.address.ensures c.number-number.ensures.block)) (c.requires told)
    (ap (λ (n : NodeFields). contains nat_cmp c.args.gathered.now (number_of (icb_of n.icb))) (sym c.node.view_is)
    ∙ ap (contains nat_cmp c.args.gathered.now) (sym (c.number-number.ensures.value ∙ ap number_of c.address.ensures)) ∙ sym c.contains.ensures ∙ c.if-contains.true)

pub returns-clause-gathered : goal.returns-clause-gathered
returns-clause-gathered g c told =
    let v = view_by g.B.BlockStore.states c.args.view in
    let a = c.node.inside.icb in
    let s = c.in_ok-standing.standing in
    let old = c.args.blocks.now.items in
    elim c.if-lacks_blocks.branch [
      | then-lacks_blocks+in_ok-insert w ↦
          let some : 0 < length (missing_of s) = ltb-true 0 (length (missing_of s)) (sym c.lacks_blocks.ensures ∙ w.if-lacks_blocks.true) in
          let lacks = lacks_all (lists_at v a) s c.node.inside.standing (c.in_ok-standing.ensures.value told) some in
          let more = subst (λ k. Updates nat_cmp c.args.gathered.now w.insert.new.self k true) (c.number-number.ensures.value ∙ ap number_of c.address.ensures) w.in_ok-insert.ensures.updates in
          subst (λ g. AreGathered v g c.push_missing.new.blocks.items) (sym w.gathered-is)
          (subst (AreGathered v w.insert.new.self) (sym c.in_ok-push_missing.ensures)
          (gathered_now v a c.args.gathered.now w.insert.new.self old (missing_of s) (subst (λ (x : LbAddr). x.block < 4294967296) c.address.ensures c.number-number.ensures.block) (c.requires told) more lacks some))
      | else-lacks_blocks w ↦
          subst (λ g. AreGathered v g c.push_missing.new.blocks.items) (sym w.gathered-is)
          (subst (AreGathered v c.args.gathered.now) (sym c.in_ok-push_missing.ensures)
          (gathered_still v c.args.gathered.now old (missing_of s) (c.requires told)))
    ]
