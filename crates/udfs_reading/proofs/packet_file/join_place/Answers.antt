use Rattle.std.proofs.Common.{ℕ, List, Option, subst, Bool, false, cond, refl, sym, ap, rules}
use Rattle.std.proofs.KnownBytes.{Consumes-nil}
use Rattle.udfs_reading.specs.Device.{left}
use Rattle.udfs_reading.specs.Places.{StandsAt}
use Rattle.udfs_lattice.specs.declared.facts.Fact.TheVariants.{Unknown, Known, Conflict}
use Rattle.udfs_lattice.specs.Tables.{one_entry}
use Rattle.udfs_lattice.specs.TableLaws.{join_tables-empty_right}
use Rattle.udfs_reading.proofs.GainLemmas.{gains_as, gains_none, gains_one}
use Rattle.udfs_reading.proofs.packet_file.join_place.Goals as goal

pub returns-then-known-clause-ok : goal.returns-then-known-clause-ok
returns-then-known-clause-ok g c =
    gains_as (λ before after t. record {
      taken = Known t.taken;
      held = t.is_block;
      known_is = sym c.if-known.true;
      conflict_is = sym (ap (λ (b : Bool). cond b false c.args.conflict) c.if-known.true);
      given = t.given;
      put = t.put;
    }) c.in_ok-join_block.ensures.ok

pub returns-then-not-conflict-clause-ok : goal.returns-then-not-conflict-clause-ok
returns-then-not-conflict-clause-ok g c =
    gains_none (λ t. record {
      taken = Unknown;
      held = tt;
      known_is = sym c.if-known.false;
      conflict_is = rw c.if-known.false (search rules);
      given = Consumes-nil _;
      put = sym (join_tables-empty_right t);
    }) (λ t h. h)

pub returns-in-Ok-clause-ok : goal.returns-in-Ok-clause-ok
returns-in-Ok-clause-ok g c =
    gains_one (one_entry c.args.block Conflict) (λ t. record {
      taken = Conflict;
      held = tt;
      known_is = sym c.if-known.false;
      conflict_is = rw c.if-known.false (search rules);
      given = Consumes-nil _;
      put = refl;
    }) c.in-Ok.ensures.ok

pub returns-in-Ok-clause-at : goal.returns-in-Ok-clause-at
returns-in-Ok-clause-at g c =
    subst (λ (o : Option (List ℕ)). StandsAt o c.args.window.now.at (left c.args.window.now.bytes (g.R.Source.remaining c.args.source.now))) (sym c.in-Ok.ensures.input) c.requires.at
