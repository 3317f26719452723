use Rattle.std.proofs.Common.{◌≡◌, [], rules, arith, refl, sym, ap, ◌∙◌, append-nil}
use Rattle.std.proofs.lemmas.Result.{err_from_is_err_and}
use Rattle.std.proofs.KnownBytes.{Consumes-nil, Consumes-trans}
use Rattle.udfs_reading.specs.declared.error.ReadingFault.TheVariants.{BlockNumber, Order}
use Rattle.udfs_reading.specs.Format.{number, value_of, In}
use Rattle.udfs_reading.specs.TableFile.{state_bytes}
use Rattle.udfs_reading.specs.TableReading.{table_format, tables_v1, entries_front, AtNumber}
use Rattle.udfs_reading.proofs.GainLemmas.{gains_as}
use Rattle.udfs_reading.proofs.Numbers.{length-number, value_of-number}
use Rattle.udfs_reading.proofs.Ends.{fault_at, ends_cut, ends_after}
use Rattle.udfs_reading.proofs.table_file.read_entry.Goals as goal

pub returns-in_err-block-clause-err : goal.returns-in_err-block-clause-err
returns-in_err-block-clause-err g c =
    let p = err_from_is_err_and c.from_residual.result c.from_residual.ensures.1 in
    rw (p.1, p.2) (λ count done under at floor. ends_cut table_format (In (AtNumber count done)) (entries_front count done) [] under (sym (append-nil (entries_front count done))) (sym at) (Consumes-nil _) refl c.in_err-block.ensures.err)

pub returns-then-block-gt-LAST_BLOCK-clause-err : goal.returns-then-block-gt-LAST_BLOCK-clause-err
returns-then-block-gt-LAST_BLOCK-clause-err g c count done under at floor =
    let n = c.in_ok-block.block in
    let value : value_of (number n) ≡ n = ap value_of (sym (append-nil (number n))) ∙ value_of-number n [] (search rules) in
    record {
      got = number n;
      given = c.in_ok-block.ensures.bytes;
      why = (c.in_ok-block.ensures.count, fault_at table_format (In (AtNumber count done)) (entries_front count done) [] (number n) BlockNumber c.args.entry under (sym (append-nil (entries_front count done))) (sym at) (omega (arith, length-number n), rw value c.if-block-gt-LAST_BLOCK.true));
    }

pub returns-then-block-floor-clause-err : goal.returns-then-block-floor-clause-err
returns-then-block-floor-clause-err g c count done under at floor =
    let n = c.in_ok-block.block in
    let value : value_of (number n) ≡ n = ap value_of (sym (append-nil (number n))) ∙ value_of-number n [] (search rules) in
    record {
      got = number n;
      given = c.in_ok-block.ensures.bytes;
      why = (c.in_ok-block.ensures.count, fault_at table_format (In (AtNumber count done)) (entries_front count done) [] (number n) Order c.args.entry under (sym (append-nil (entries_front count done))) (sym at) (omega (arith, length-number n), rw (value, floor) (c.if-block-gt-LAST_BLOCK.false, c.if-block-floor.true)));
    }

pub returns-in_err-read_state-clause-err : goal.returns-in_err-read_state-clause-err
returns-in_err-read_state-clause-err g c =
    let p = err_from_is_err_and c.from_residual-in_err-read_state.result c.from_residual-in_err-read_state.ensures.1 in
    rw (p.1, p.2) (λ count done under at floor. ends_after tables_v1 (entries_front count done) (number c.in_ok-block.block) c.in_ok-block.ensures.bytes c.in_ok-block.ensures.count (c.in_err-read_state.ensures.err count done under at (omega arith)))

pub returns-clause-ok : goal.returns-clause-ok
returns-clause-ok g c =
    gains_as (λ before after s. record {
      taken = (c.in_ok-block.block, s.taken);
      above = c.if-block-floor.false;
      entry = s.entry;
      given = Consumes-trans _ _ _ (number c.in_ok-block.block) (state_bytes s.taken) c.in_ok-block.ensures.bytes s.given;
      next_is = refl;
      put = s.put;
    }) c.in_ok-read_state.ensures.ok

pub read_state-requires-clause-at : goal.read_state-requires-clause-at
read_state-requires-clause-at g c = c.in_ok-block.ensures.at _ c.requires
