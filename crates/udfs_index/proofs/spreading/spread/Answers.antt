use Rattle.std.proofs.Common.{◌≡◌, ◌-◌, ◌*◌, ℕ, suc, drop, sym, subst, arith}
use Rattle.udfs_index.proofs.SpreadLemmas.{Spread, spread_step}
use Rattle.udfs_index.proofs.spreading.spread.Goals as goal

pub loop-left-preserved : goal.loop-left-preserved
loop-left-preserved c =
    let a = c.loop-left.left - 1 in
    let some : suc a ≡ c.loop-left.left = omega (arith, c.loop-left-test.true) in
    let rest = drop (2052 * c.args.many) c.args.buf.now in
    record {
      few = omega (arith, c.loop-left.invariant.few);
      spread = spread_step c.args.buf.now c.loop-left.buf c.put_record.new.buf rest c.args.first c.args.many a (omega (arith, c.loop-left.invariant.few, some)) c.requires.room
          (subst (λ (n : ℕ). Spread c.args.buf.now c.args.first c.args.many n rest c.loop-left.buf) (sym some) c.loop-left.invariant.spread) c.put_record.auto.buf c.put_record.ensures;
    }
