use Rattle.std.proofs.Common.{◌≡◌, [], ◌++◌, rules, arith, refl, sym, ap, ◌∙◌, append-nil}
use Rattle.std.proofs.lemmas.Result.{err_from_is_err_and}
use Rattle.std.proofs.KnownBytes.{Consumes-nil, Consumes-trans}
use Rattle.udfs_reading.specs.declared.error.ReadingFault.TheVariants.{BlockNumber}
use Rattle.udfs_reading.specs.Reading.{front, AtBlock, AtBytes, reading_format}
use Rattle.udfs_reading.specs.Format.{number, value_of, In}
use Rattle.udfs_reading.proofs.GainLemmas.{gains_as}
use Rattle.udfs_reading.proofs.Numbers.{length-number, value_of-number}
use Rattle.udfs_reading.proofs.Ends.{fault_at, ends_cut, ends_block}
use Rattle.udfs_reading.proofs.JudgeRecords.{header_is_sound}
use Rattle.udfs_reading.proofs.reading.read_record.Goals as goal

pub returns-in_err-block-clause-err : goal.returns-in_err-block-clause-err
returns-in_err-block-clause-err g c =
    let p = err_from_is_err_and c.from_residual.result c.from_residual.ensures.1 in
    rw (p.1, p.2) (λ count done under at. ends_cut reading_format (In (AtBlock count done)) (front count done) [] under (sym (append-nil (front count done))) (sym at) (Consumes-nil _) refl c.in_err-block.ensures.err)

pub returns-then-block-gt-LAST_BLOCK-clause-err : goal.returns-then-block-gt-LAST_BLOCK-clause-err
returns-then-block-gt-LAST_BLOCK-clause-err g c count done under at =
    let n = c.in_ok-block.block in
    let value : value_of (number n) ≡ n = ap value_of (sym (append-nil (number n))) ∙ value_of-number n [] (search rules) in
    record {
      got = number n;
      given = c.in_ok-block.ensures.bytes;
      why = (c.in_ok-block.ensures.count, fault_at reading_format (In (AtBlock count done)) (front count done) [] (number n) BlockNumber c.args.number under (sym (append-nil (front count done))) (sym at) (omega (arith, length-number n), rw value c.if-block-gt-LAST_BLOCK.true));
    }

pub returns-in_err-join_block-clause-err : goal.returns-in_err-join_block-clause-err
returns-in_err-join_block-clause-err g c =
    let n = c.in_ok-block.block in
    let p = err_from_is_err_and c.from_residual-in_err-join_block.result c.from_residual-in_err-join_block.ensures.1 in
    rw (p.1, p.2) (λ count done under at. ends_block reading_format (In (AtBytes count done n)) (front count done) (number n) (under, c.if-block-gt-LAST_BLOCK.false) refl (sym at) refl (omega arith) (λ cut. header_is_sound count done (number n ++ cut) under) c.in_ok-block.ensures.bytes c.in_ok-block.ensures.count c.in_err-join_block.ensures.err)

pub returns-clause-ok : goal.returns-clause-ok
returns-clause-ok g c =
    let n = c.in_ok-block.block in
    gains_as (λ before after t. record {
      taken = (n, t.taken);
      is_record = record { number = c.if-block-gt-LAST_BLOCK.false; block = t.is_block };
      given = Consumes-trans _ _ _ (number n) t.taken c.in_ok-block.ensures.bytes t.given;
      put = t.put;
    }) c.in_ok-join_block.ensures.ok

pub join_block-requires-clause-at : goal.join_block-requires-clause-at
join_block-requires-clause-at g c = c.in_ok-block.ensures.at _ c.requires
