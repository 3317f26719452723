use Rattle.std.proofs.Common.{ℕ, List, Option, [], ◌∷◌, ◌++◌, arith, refl, sym, subst, append_assoc, append-nil}
use Rattle.std.proofs.lemmas.Result.{err_from_is_err_and}
use Rattle.std.specs.Io.KnownBytes.{Consumes}
use Rattle.std.proofs.KnownBytes.{Consumes-nil, Consumes-trans}
use Rattle.udfs_lattice.specs.declared.facts.Fact.TheVariants.{Known, Conflict}
use Rattle.udfs_reading.specs.declared.error.ReadingFault.TheVariants.{State}
use Rattle.udfs_lattice.specs.Tables.{one_entry}
use Rattle.udfs_reading.specs.Device.{left}
use Rattle.udfs_reading.specs.Places.{StandsAt}
use Rattle.udfs_reading.specs.Format.{number, In}
use Rattle.udfs_reading.specs.TableReading.{table_format, entries_front, AtState, AtContent}
use Rattle.udfs_reading.proofs.GainLemmas.{gains_as, gains_one}
use Rattle.udfs_reading.proofs.Entries.{state_sound}
use Rattle.udfs_reading.proofs.Ends.{fault_at, ends_cut, ends_block}
use Rattle.udfs_reading.proofs.table_file.read_state.Goals as goal

pub returns-in_err-code-clause-err : goal.returns-in_err-code-clause-err
returns-in_err-code-clause-err g c =
    let p = err_from_is_err_and c.from_residual.result c.from_residual.ensures.1 in
    let n = c.args.block in
    rw (p.1, p.2) (λ count done under at floor. ends_cut table_format (In (AtState count done n)) (entries_front count done ++ number n) [] (under, floor, c.requires.block) (sym (append-nil (entries_front count done ++ number n))) (sym at) (Consumes-nil _) refl c.in_err-code.ensures.err)

pub returns-in_err-join_block-clause-err : goal.returns-in_err-join_block-clause-err
returns-in_err-join_block-clause-err g c =
    let p = err_from_is_err_and c.from_residual-in_err-join_block.result c.from_residual-in_err-join_block.ensures.1 in
    let n = c.args.block in
    let one = subst (λ (b : ℕ). Consumes (left c.args.window.now.bytes (g.R.Source.remaining c.args.source.now)) (left c.read_byte.new.window.bytes (g.R.Source.remaining c.read_byte.new.source)) (b ∷ [])) c.if-code-eq1.true c.in_ok-code.ensures.bytes in
    rw (p.1, p.2) (λ count done under at floor. ends_block table_format (In (AtContent count done n)) (entries_front count done ++ number n) (1 ∷ []) (under, floor, c.requires.block) (sym (append_assoc (entries_front count done) (number n) (1 ∷ []))) (sym at) refl (omega arith)
    (λ cut. state_sound count done n ((1 ∷ []) ++ cut) under) one c.in_ok-code.ensures.count c.in_err-join_block.ensures.err)

pub returns-then-code-eq1-clause-ok : goal.returns-then-code-eq1-clause-ok
returns-then-code-eq1-clause-ok g c =
    let one = subst (λ (b : ℕ). Consumes (left c.args.window.now.bytes (g.R.Source.remaining c.args.source.now)) (left c.read_byte.new.window.bytes (g.R.Source.remaining c.read_byte.new.source)) (b ∷ [])) c.if-code-eq1.true c.in_ok-code.ensures.bytes in
    gains_as (λ before after t. record {
      taken = Known t.taken;
      entry = (c.requires.block, t.is_block);
      given = Consumes-trans _ _ _ (1 ∷ []) t.taken one t.given;
      put = t.put;
    }) c.in_ok-join_block.ensures.ok

pub returns-then-code-ne2-clause-err : goal.returns-then-code-ne2-clause-err
returns-then-code-ne2-clause-err g c count done under at floor =
    let n = c.args.block in
    let front = entries_front count done ++ number n in
    record {
      got = c.in_ok-code.code ∷ [];
      given = c.in_ok-code.ensures.bytes;
      why = (c.in_ok-code.ensures.count, fault_at table_format (In (AtState count done n)) front [] (c.in_ok-code.code ∷ []) State c.args.entry (under, floor, c.requires.block) (sym (append-nil front)) (sym at) (omega arith, (c.if-code-eq1.false, c.if-code-ne2.true)));
    }

pub returns-in-Err-clause-err : goal.returns-in-Err-clause-err
returns-in-Err-clause-err g c count done under at floor =
    record {
      got = c.in_ok-code.code ∷ [];
      given = c.in_ok-code.ensures.bytes;
      why = (c.in_ok-code.ensures.count, state_sound count done c.args.block (c.in_ok-code.code ∷ []) under, omega arith);
    }

pub join_block-requires-clause-at : goal.join_block-requires-clause-at
join_block-requires-clause-at g c = c.in_ok-code.ensures.at _ c.requires.at

pub returns-in-Ok-clause-at : goal.returns-in-Ok-clause-at
returns-in-Ok-clause-at g c =
    subst (λ (o : Option (List ℕ)). StandsAt o c.read_byte.new.window.at (left c.read_byte.new.window.bytes (g.R.Source.remaining c.read_byte.new.source))) (sym c.in-Ok.ensures.input)
    (c.in_ok-code.ensures.at _ c.requires.at)

pub returns-in-Ok-clause-ok : goal.returns-in-Ok-clause-ok
returns-in-Ok-clause-ok g c =
    let two = subst (λ (b : ℕ). Consumes (left c.args.window.now.bytes (g.R.Source.remaining c.args.source.now)) (left c.read_byte.new.window.bytes (g.R.Source.remaining c.read_byte.new.source)) (b ∷ [])) c.if-code-ne2.false c.in_ok-code.ensures.bytes in
    gains_one (one_entry c.args.block Conflict) (λ t. record { taken = Conflict; entry = c.requires.block; given = two; put = refl }) c.in-Ok.ensures.ok
