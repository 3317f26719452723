use Rattle.std.proofs.Common.{◌≡◌, ℕ, ◌<◌, length, arith, rules, refl, subst, ◌∙◌}
use Rattle.std.proofs.lemmas.Result.{err_from_is_err_and}
use Rattle.std.specs.List.{flat_map}
use Rattle.udfs_reading.specs.Device.{left}
use Rattle.udfs_reading.specs.Gains.{Gains}
use Rattle.udfs_reading.specs.Format.{header}
use Rattle.udfs_reading.specs.PacketFile.{packet_magic, packet_bytes}
use Rattle.udfs_reading.specs.PacketReading.{tables_v2, TakesPackets}
use Rattle.udfs_reading.proofs.GainLemmas.{gained, gains_none, gains_then}
use Rattle.udfs_reading.proofs.Ends.{ends_after}
use Rattle.udfs_reading.proofs.Packets.{packets_none, packets_more}
use Rattle.udfs_reading.proofs.packet_file.read_packets.Goals as goal

pub loop-index-init : goal.loop-index-init
loop-index-init g c = record { taken = gains_none (packets_none _) (λ t h. h); at = c.requires; kept = refl }

pub loop-index-preserved : goal.loop-index-preserved
loop-index-preserved g c =
    record {
      taken = gains_then (λ s t u. packets_more) c.loop-index.invariant.taken c.in_ok-low.ensures.ok;
      at = c.in_ok-low.ensures.at;
      kept = c.in_ok-low.ensures.count ∙ c.loop-index.invariant.kept;
    }

pub returns-in_err-low-clause-err : goal.returns-in_err-low-clause-err
returns-in_err-low-clause-err g c =
    let p = err_from_is_err_and c.from_residual.result c.from_residual.ensures.1 in
    let so_far = gained c.loop-index.invariant.taken in
    let many = so_far.many in
    let more : length so_far.taken < c.args.count = omega arith in
    rw (p.1, p.2) (ends_after tables_v2 (header packet_magic c.args.count) (flat_map packet_bytes so_far.taken) so_far.given c.loop-index.invariant.kept
    (c.in_err-low.ensures.err c.args.count so_far.taken (record { more = more; fits = search rules; each = so_far.rises }) (omega arith) so_far.low_is))

pub returns-clause-ok : goal.returns-clause-ok
returns-clause-ok g c =
    let all : c.loop-index.index ≡ c.args.count = omega arith in
    (c.loop-index.low, subst (λ (n : ℕ). Gains (g.T.Taker.took c.args.taker.now) (g.T.Taker.took c.loop-index.taker) (TakesPackets (left c.args.window.now.bytes (g.R.Source.remaining c.args.source.now)) (left c.loop-index.window.bytes (g.R.Source.remaining c.loop-index.source)) n c.loop-index.low)) all c.loop-index.invariant.taken)

pub read_packet-requires : goal.read_packet-requires
read_packet-requires g c = c.loop-index.invariant.at
