use Rattle.std.proofs.Common.{◌≡◌, ◌∙◌, ℕ, arith, refl, rules, subst}
use Rattle.udfs_reading.specs.Gains.{Gains}
use Rattle.udfs_reading.specs.PacketReading.{TakesPackets}
use Rattle.udfs_reading.proofs.GainLemmas.{gains_none, gains_then}
use Rattle.udfs_reading.proofs.Packets.{packets_none, packets_more}
use Rattle.udfs_index.specs.Places.{behind}
use Rattle.udfs_index.proofs.HeadLemmas.{still_taken}
use Rattle.udfs_index.proofs.by_heads.take_packets.Goals as goal

pub loop-index-init : goal.loop-index-init
loop-index-init g c = record { taken = gains_none (packets_none _) (λ t h. h); within = c.requires.head; same = refl }

pub take_packet-requires : goal.take_packet-requires
take_packet-requires g c κs = ((refl, tt), (still_taken c.loop-index.invariant.same c.requires.taken, (c.loop-index.invariant.within, c.requires.size)))

pub loop-index-preserved : goal.loop-index-preserved
loop-index-preserved g c =
    record {
      taken = gains_then (λ s t u. packets_more) c.loop-index.invariant.taken c.in-Ok.ensures.ok;
      within = c.in-Ok.ensures.at;
      same = c.in-Ok.ensures.input ∙ c.loop-index.invariant.same;
    }

pub returns : goal.returns
returns g c =
    let content = g.S.Stored.content c.args.stored.now in
    let all : c.loop-index.index ≡ c.args.count = omega arith in
    let end : c.loop-index.next.at ≡ c.args.size = search rules in (
      c.loop-index.next.low,
      subst (λ (n : ℕ). Gains (g.T.Taker.took c.args.taker.now) (g.T.Taker.took c.loop-index.taker) (TakesPackets (behind 16 content) (behind n content) c.args.count c.loop-index.next.low)) end
          (subst (λ (n : ℕ). Gains (g.T.Taker.took c.args.taker.now) (g.T.Taker.took c.loop-index.taker) (TakesPackets (behind 16 content) (behind c.loop-index.next.at content) n c.loop-index.next.low)) all c.loop-index.invariant.taken),
    )
