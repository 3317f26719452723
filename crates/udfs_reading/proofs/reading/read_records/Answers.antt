use Rattle.std.proofs.Common.{◌≡◌, ◌<◌, ℕ, length, arith, rules, refl, subst, ◌∙◌}
use Rattle.std.proofs.lemmas.Result.{err_from_is_err_and}
use Rattle.std.specs.List.{flat_map}
use Rattle.udfs_reading.specs.Device.{left}
use Rattle.udfs_reading.specs.Gains.{Gains}
use Rattle.udfs_reading.specs.Format.{header}
use Rattle.udfs_reading.specs.Reading.{magic, record_bytes, readings, TakesRecords}
use Rattle.udfs_reading.proofs.GainLemmas.{gained, gains_none, gains_then}
use Rattle.udfs_reading.proofs.Ends.{ends_after}
use Rattle.udfs_reading.proofs.Records.{takes_none, takes_more}
use Rattle.udfs_reading.proofs.reading.read_records.Goals as goal

pub loop-index-init : goal.loop-index-init
loop-index-init g c = record { taken = gains_none (takes_none _) (λ t h. h); at = c.requires; kept = refl }

pub loop-index-preserved : goal.loop-index-preserved
loop-index-preserved g c =
    record {
      taken = gains_then (λ s t u. takes_more) c.loop-index.invariant.taken c.in_ok-read_record.ensures.ok;
      at = c.in_ok-read_record.ensures.at;
      kept = c.in_ok-read_record.ensures.count ∙ c.loop-index.invariant.kept;
    }

pub returns-in_err-read_record-clause-err : goal.returns-in_err-read_record-clause-err
returns-in_err-read_record-clause-err g c =
    let p = err_from_is_err_and c.from_residual.result c.from_residual.ensures.1 in
    let so_far = gained c.loop-index.invariant.taken in
    let many = so_far.many in
    let more : length so_far.taken < c.args.count = omega arith in
    rw (p.1, p.2) (ends_after readings (header magic c.args.count) (flat_map record_bytes so_far.taken) so_far.given c.loop-index.invariant.kept
    (c.in_err-read_record.ensures.err c.args.count so_far.taken (record { more = more; fits = search rules; each = so_far.are_records }) (omega arith)))

pub returns-clause-ok : goal.returns-clause-ok
returns-clause-ok g c =
    let all : c.loop-index.index ≡ c.args.count = omega arith in
    subst (λ (n : ℕ). Gains (g.T.Taker.took c.args.taker.now) (g.T.Taker.took c.loop-index.taker) (TakesRecords (left c.args.window.now.bytes (g.R.Source.remaining c.args.source.now)) (left c.loop-index.window.bytes (g.R.Source.remaining c.loop-index.source)) n)) all c.loop-index.invariant.taken

pub read_record-requires : goal.read_record-requires
read_record-requires g c = c.loop-index.invariant.at
