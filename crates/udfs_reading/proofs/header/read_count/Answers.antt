use Rattle.std.proofs.Common.{◌≡◌, ℕ, [], rules, arith, refl, sym, ap, subst, ◌∙◌, append-nil}
use Rattle.std.proofs.lemmas.Result.{err_from_is_err_and}
use Rattle.std.specs.Io.KnownBytes.{Consumes}
use Rattle.udfs_reading.specs.declared.error.ReadingFault.TheVariants.{BlockSize}
use Rattle.udfs_reading.specs.Device.{left}
use Rattle.udfs_reading.specs.Format.{number, value_of, AtBlockSize, AtCount, bare}
use Rattle.udfs_reading.proofs.Numbers.{length-number, value_of-number}
use Rattle.udfs_reading.proofs.Ends.{fault_at, ends_cut}
use Rattle.udfs_reading.proofs.header.read_count.Goals as goal

pub returns-then-size-ne2048-clause-err : goal.returns-then-size-ne2048-clause-err
returns-then-size-ne2048-clause-err g c magic =
    let n = c.in_ok-size.size in
    let value : value_of (number n) ≡ n = ap value_of (sym (append-nil (number n))) ∙ value_of-number n [] (search rules) in
    record {
      got = number n;
      given = c.in_ok-size.ensures.bytes;
      why = (c.in_ok-size.ensures.count, fault_at (bare magic) AtBlockSize magic [] (number n) BlockSize 0 tt (sym (append-nil magic)) refl (omega (arith, length-number n), rw value c.if-size-ne2048.true));
    }

pub returns-in_err-count-clause-err : goal.returns-in_err-count-clause-err
returns-in_err-count-clause-err g c =
    let p = err_from_is_err_and c.from_residual-in_err-count.result c.from_residual-in_err-count.ensures.1 in
    let size = subst (λ (n : ℕ). Consumes (left c.args.window.now.bytes (g.R.Source.remaining c.args.source.now)) (left c.read_number.new.window.bytes (g.R.Source.remaining c.read_number.new.source)) (number n)) c.if-size-ne2048.false c.in_ok-size.ensures.bytes in
    rw (p.1, p.2) (λ magic. ends_cut (bare magic) AtCount magic (number 2048) tt refl refl size c.in_ok-size.ensures.count c.in_err-count.ensures.err)

pub returns-clause-at : goal.returns-clause-at
returns-clause-at g c input stands = c.in_ok-count.ensures.at input (c.in_ok-size.ensures.at input stands)
