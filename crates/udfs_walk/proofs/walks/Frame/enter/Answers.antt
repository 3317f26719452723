use Rattle.std.proofs.Common.{◌∙◌, ◌++◌, ◌∷◌, [], ap, subst}
use Rattle.std.specs.Prelude.{Contains}
use Rattle.udfs_space.specs.Views.{view_by}
use Rattle.udfs_walk.specs.Routes.{entries_below}
use Rattle.udfs_walk.specs.Visits.{AreListed, end_at}
use Rattle.udfs_tag.specs.Fields.{number_of}
use Rattle.udfs_tag.specs.declared.layouts.LongAd.{LongAd}
use Rattle.udfs_walk.specs.Targets.{icb_of}
use Rattle.udfs_walk.specs.NodeFields.{NodeFields}
use Rattle.udfs_walk.proofs.TargetLemmas.{unsettled_address, unsettled_path}
use Rattle.udfs_walk.proofs.walks.Frame.enter.Goals as goal

pub returns-clause-frame : goal.returns-clause-frame
returns-clause-frame g c told =
    let v = view_by g.B.BlockStore.states c.args.view in
    let w = end_at c.args.address c.args.path c.args.above.now c.args.hidden in
    let path = c.in_ok-names.ensures ∙ ap (λ n. n.path) (c.node.view_is ∙ (c.in_ok-node.ensures.node told)) ∙ unsettled_path v w in
    let above = c.in_ok-with_icb.ensures ∙ ap (λ x. c.args.above.now ++ x ∷ []) c.address.ensures in
    let left = subst (λ o. AreListed o (entries_below v w)) c.in-Some.is (c.in_ok-node.ensures.entries told) in
    (λ i. record { path = path i; above = above i; left = left i })

pub returns-in_default-clause-counted : goal.returns-in_default-clause-counted
returns-in_default-clause-counted g c told start icbs at counted =
    let w = end_at c.args.address c.args.path c.args.above.now c.args.hidden in
    let icb = ap (λ (n : NodeFields). n.icb) (c.in_ok-node.ensures.node told) ∙ unsettled_address (view_by g.B.BlockStore.states c.args.view) w in
    c.in_ok-node.ensures.counted start icbs (subst (λ (a : LongAd). Contains icbs (number_of (icb_of a))) icb at) counted

pub returns-clause-counted : goal.returns-clause-counted
returns-clause-counted g c told start icbs at counted =
    let w = end_at c.args.address c.args.path c.args.above.now c.args.hidden in
    let icb = ap (λ (n : NodeFields). n.icb) (c.in_ok-node.ensures.node told) ∙ unsettled_address (view_by g.B.BlockStore.states c.args.view) w in
    c.in_ok-node.ensures.counted start icbs (subst (λ (a : LongAd). Contains icbs (number_of (icb_of a))) icb at) counted
