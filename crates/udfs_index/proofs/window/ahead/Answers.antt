use Rattle.std.proofs.Common.{arith, subst, sym}
use Rattle.udfs_index.specs.Places.{IsWholeAt}
use Rattle.udfs_index.proofs.window.ahead.Goals as goal

pub loop-next-init : goal.loop-next-init
loop-next-init c =
    record {
      some = omega arith;
      fits = omega arith;
      held = λ wholes whole. subst (IsWholeAt wholes) c.requires.known (whole c.args.block);
    }

pub loop-next-preserved : goal.loop-next-preserved
loop-next-preserved c =
    record {
      some = c.in-Some.ensures.some;
      fits = c.in-Some.ensures.fits;
      held = λ wholes whole. c.in-Some.ensures.held wholes (subst (IsWholeAt wholes) (sym c.slot_of.ensures) (whole c.loop-next.next)) (c.loop-next.invariant.held wholes whole);
    }
