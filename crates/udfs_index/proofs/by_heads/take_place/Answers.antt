use Rattle.std.proofs.Common.{◌+◌, ◌≤◌, Bool, false, cond, refl, sym, ap, subst, arith, rules}
use Rattle.std.proofs.KnownBytes.{Consumes-nil}
use Rattle.udfs_lattice.specs.declared.facts.Fact.TheVariants.{Unknown, Known, Conflict}
use Rattle.udfs_lattice.specs.Tables.{one_entry}
use Rattle.udfs_lattice.specs.TableLaws.{join_tables-empty_right}
use Rattle.udfs_reading.proofs.GainLemmas.{gains_as, gains_none, gains_one}
use Rattle.udfs_index.proofs.HeadLemmas.{whole_at}
use Rattle.udfs_index.proofs.by_heads.take_place.Goals as goal

pub take_placed-requires : goal.take_placed-requires
take_placed-requires g c κs =
    let content = g.S.Stored.content c.args.stored.now in
    let within : c.args.at + 2048 ≤ c.args.size = subst (λ (b : Bool). c.args.at + cond b 2048 0 ≤ c.args.size) c.if-known.true c.requires.within in
    let most = c.requires.size in
    ((refl, tt), (c.requires.block, (omega (arith, within, most), (c.requires.taken.is, whole_at (g.T.Taker.input c.args.taker.now) content c.args.size c.args.at c.requires.taken within))))

pub returns-in-Ok-clause-ok : goal.returns-in-Ok-clause-ok
returns-in-Ok-clause-ok g c =
    gains_as (λ before after t. record {
      taken = Known t.taken;
      held = t.is_block;
      known_is = sym c.if-known.true;
      conflict_is = sym (ap (λ (b : Bool). cond b false c.args.conflict) c.if-known.true);
      given = t.given;
      put = t.put;
    }) c.in-Ok.ensures.ok

pub returns-then-not-conflict-clause-ok : goal.returns-then-not-conflict-clause-ok
returns-then-not-conflict-clause-ok g c =
    gains_none (λ t. record {
      taken = Unknown;
      held = tt;
      known_is = sym c.if-known.false;
      conflict_is = rw c.if-known.false (search rules);
      given = Consumes-nil _;
      put = sym (join_tables-empty_right t);
    }) (λ t h. h)

pub returns-in-Ok-dispute-clause-ok : goal.returns-in-Ok-dispute-clause-ok
returns-in-Ok-dispute-clause-ok g c =
    gains_one (one_entry c.args.block Conflict) (λ t. record {
      taken = Conflict;
      held = tt;
      known_is = sym c.if-known.false;
      conflict_is = rw c.if-known.false (search rules);
      given = Consumes-nil _;
      put = refl;
    }) c.in-Ok-dispute.ensures.ok
