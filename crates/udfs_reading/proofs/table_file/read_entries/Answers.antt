use Rattle.std.proofs.Common.{◌≡◌, ℕ, ◌<◌, length, arith, rules, refl, subst, ◌∙◌}
use Rattle.std.proofs.lemmas.Result.{err_from_is_err_and}
use Rattle.std.specs.List.{flat_map}
use Rattle.udfs_reading.specs.Device.{left}
use Rattle.udfs_reading.specs.Gains.{Gains}
use Rattle.udfs_reading.specs.Format.{header}
use Rattle.udfs_reading.specs.TableFile.{table_magic, entry_bytes}
use Rattle.udfs_reading.specs.TableReading.{tables_v1, TakesEntries}
use Rattle.udfs_reading.proofs.GainLemmas.{gained, gains_none, gains_then}
use Rattle.udfs_reading.proofs.Ends.{ends_after}
use Rattle.udfs_reading.proofs.Entries.{entries_none, entries_more}
use Rattle.udfs_reading.proofs.table_file.read_entries.Goals as goal

pub loop-index-init : goal.loop-index-init
loop-index-init g c = record { taken = gains_none (entries_none _) (λ t h. h); at = c.requires; kept = refl }

pub loop-index-preserved : goal.loop-index-preserved
loop-index-preserved g c =
    record {
      taken = gains_then (λ s t u. entries_more) c.loop-index.invariant.taken c.in_ok-floor.ensures.ok;
      at = c.in_ok-floor.ensures.at;
      kept = c.in_ok-floor.ensures.count ∙ c.loop-index.invariant.kept;
    }

pub returns-in_err-floor-clause-err : goal.returns-in_err-floor-clause-err
returns-in_err-floor-clause-err g c =
    let p = err_from_is_err_and c.from_residual.result c.from_residual.ensures.1 in
    let so_far = gained c.loop-index.invariant.taken in
    let many = so_far.many in
    let more : length so_far.taken < c.args.count = omega arith in
    rw (p.1, p.2) (ends_after tables_v1 (header table_magic c.args.count) (flat_map entry_bytes so_far.taken) so_far.given c.loop-index.invariant.kept
    (c.in_err-floor.ensures.err c.args.count so_far.taken (record { more = more; fits = search rules; each = so_far.rises }) (omega arith) so_far.floor_is))

pub returns-clause-ok : goal.returns-clause-ok
returns-clause-ok g c =
    let all : c.loop-index.index ≡ c.args.count = omega arith in
    (c.loop-index.floor, subst (λ (n : ℕ). Gains (g.T.Taker.took c.args.taker.now) (g.T.Taker.took c.loop-index.taker) (TakesEntries (left c.args.window.now.bytes (g.R.Source.remaining c.args.source.now)) (left c.loop-index.window.bytes (g.R.Source.remaining c.loop-index.source)) n c.loop-index.floor)) all c.loop-index.invariant.taken)

pub read_entry-requires : goal.read_entry-requires
read_entry-requires g c = c.loop-index.invariant.at
