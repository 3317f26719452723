use Rattle.std.proofs.Common.{◌≡◌, ◌+◌, ◌-◌, ◌<◌, ◌≤◌, ◌||◌, ◌∙◌, ap, sym, drop, length, arith, slice_index_or}
use Rattle.std.specs.Prelude.{suc}
use Rattle.udfs_space.specs.Sparing.{is_out_of_order, breaks_order}
use Rattle.udfs_space.proofs.Orders.{order-step, order-end}
use Rattle.udfs_space.proofs.entries.is_out_of_order.Goals as goal

pub loop-i-preserved : goal.loop-i-preserved
loop-i-preserved c =
    let es = c.args.entries.now in
    let i = c.loop-i.i in
    let up : suc (i - 1) ≡ i = omega (arith, c.loop-i.auto.i) in
    let same : i + 1 - 1 ≡ i = omega arith in
    let inside : suc (i - 1) < length es = omega (arith, up, c.loop-i-test.true) in
    ap (λ k. is_out_of_order (drop k es)) same
    ∙ sym (order-step es (i - 1) (record { original = 0; mapped = 0 }) inside
    ∙ ap (λ k. breaks_order (slice_index_or es (i - 1) (record { original = 0; mapped = 0 })) (slice_index_or es k (record { original = 0; mapped = 0 })) || is_out_of_order (drop k es)) up
    ∙ ap (λ b. b || is_out_of_order (drop i es)) (sym c.breaks_order.ensures ∙ c.if-breaks_order.false))
    ∙ c.loop-i.invariant

pub returns : goal.returns
returns c = let e : length c.args.entries.now ≤ suc (c.loop-i.i - 1) = omega (arith, c.loop-i-test.false, c.loop-i.auto.i) in
    sym (order-end c.args.entries.now (c.loop-i.i - 1) e) ∙ c.loop-i.invariant
