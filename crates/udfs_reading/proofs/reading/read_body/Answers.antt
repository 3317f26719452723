use Rattle.std.proofs.Common.{◌<◌, ◌^◌, [], ◌++◌, rules, refl, sym, subst, ◌∙◌, append-nil}
use Rattle.std.proofs.lemmas.Result.{err_from_is_err_and}
use Rattle.std.specs.List.{flat_map}
use Rattle.std.specs.Io.KnownBytes.{Consumes}
use Rattle.std.proofs.KnownBytes.{Consumes-trans}
use Rattle.udfs_lattice.specs.Records.{table_of}
use Rattle.udfs_reading.specs.Reading.{magic, record_bytes, reading_format, readings, AtEnd}
use Rattle.udfs_reading.specs.Format.{number}
use Rattle.udfs_reading.proofs.GainLemmas.{gained, gains_as}
use Rattle.udfs_reading.proofs.Ends.{ends_after, ends_bare, ends_end}
use Rattle.udfs_reading.proofs.Records.{whole_front, is_reading}
use Rattle.udfs_reading.proofs.reading.read_body.Goals as goal

pub returns-in_err-count-clause-err : goal.returns-in_err-count-clause-err
returns-in_err-count-clause-err g c =
    let p = err_from_is_err_and c.from_residual.result c.from_residual.ensures.1 in
    rw (p.1, p.2) (ends_bare reading_format c.in_err-count.ensures.of_file (c.in_err-count.ensures.err magic))

pub returns-in_err-read_records-clause-err : goal.returns-in_err-read_records-clause-err
returns-in_err-read_records-clause-err g c =
    let p = err_from_is_err_and c.from_residual-in_err-read_records.result c.from_residual-in_err-read_records.ensures.1 in
    let n = c.in_ok-count.count in
    rw (p.1, p.2) (ends_after readings magic (number 2048 ++ number n) c.in_ok-count.ensures.bytes c.in_ok-count.ensures.count
    (rw (← whole_front n) c.in_err-read_records.ensures.err))

pub returns-in_err-read_end-clause-err : goal.returns-in_err-read_end-clause-err
returns-in_err-read_end-clause-err g c =
    let p = err_from_is_err_and c.from_residual-in_err-read_end.result c.from_residual-in_err-read_end.ensures.1 in
    let t = gained c.in_ok-read_records.ensures.ok in
    let n = c.in_ok-count.count in
    let got = (number 2048 ++ number n) ++ flat_map record_bytes t.taken in
    let fits : n < 2 ^ 32 = search rules in
    let file = is_reading n t.taken t.many fits t.are_records in
    rw (p.1, p.2) (ends_after readings magic got
    (Consumes-trans _ _ _ (number 2048 ++ number n) (flat_map record_bytes t.taken) c.in_ok-count.ensures.bytes t.given)
    (c.in_ok-read_records.ensures.count ∙ c.in_ok-count.ensures.count)
    (ends_end reading_format (AtEnd t.taken) (magic ++ got) (table_of t.taken) (file.0.count, t.are_records) (sym file.0.spelled) file.1 refl (λ more some. some) (t.taken, file.0, file.1, refl) c.in_err-read_end.ensures.err))

pub returns-clause-ok : goal.returns-clause-ok
returns-clause-ok g c =
    let n = c.in_ok-count.count in
    let fits : n < 2 ^ 32 = search rules in
    gains_as (λ before after t.
    let got = (number 2048 ++ number n) ++ flat_map record_bytes t.taken in
    let file = is_reading n t.taken t.many fits t.are_records in
    record {
      got = got;
      count = n;
      table = table_of t.taken;
      given = subst (Consumes _ _) (append-nil got)
          (Consumes-trans _ _ _ got [] (Consumes-trans _ _ _ (number 2048 ++ number n) (flat_map record_bytes t.taken) c.in_ok-count.ensures.bytes t.given) c.in_ok-read_end.ensures.ok);
      end = c.in_ok-read_end.ensures.end;
      file = (t.taken, file.0, file.1, refl);
      joined = t.put;
    }) c.in_ok-read_records.ensures.ok

pub read_records-requires : goal.read_records-requires
read_records-requires g c = c.in_ok-count.ensures.at _ c.requires
