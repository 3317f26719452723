use Rattle.std.proofs.Common.{◌≡◌, ℕ, List, ◌++◌, ◌∙◌, sym, ap, refl, rules, arith, length, subst}
use Rattle.std.specs.List.{flat_map}
use Rattle.std.proofs.lemmas.Result.{err_from_is_err_and}
use Rattle.udfs_reading.specs.Format.{header}
use Rattle.udfs_reading.specs.PacketFile.{packet_magic, packet_bytes, packets_below}
use Rattle.udfs_reading.specs.Writing.{Passed, FailedPast}
use Rattle.udfs_reading.proofs.PacketTables.{below_none}
use Rattle.udfs_reading.proofs.WritingLemmas.{passed_none, passed_then, failed_more}
use Rattle.udfs_index.specs.Copying.{FailsBy}
use Rattle.udfs_index.proofs.CopyLemmas.{fails_then, fails_more}
use Rattle.udfs_index.proofs.PackLemmas.{packed_more, packed_cut, packed_whole, all_packets, whole_shown}
use Rattle.udfs_index.proofs.packing.write_packets.Goals as goal

pub returns-in_err-write_header-clause-bytes : goal.returns-in_err-write_header-clause-bytes
unfolding packet_magic
returns-in_err-write_header-clause-bytes g c wholes t told shown =
    let p = err_from_is_err_and c.from_residual.result c.from_residual.ensures.1 in
    let count = c.count_packets-count.ensures wholes t shown ∙ sym (ap length (all_packets t 131072 refl)) in
    rw (p.1, p.2) (subst (FailedPast _ _ _) (packed_whole t c.count_packets-count.result 131072 refl count) (failed_more (flat_map packet_bytes (packets_below t 131072)) c.in_err-write_header.ensures))

pub loop-index-init : goal.loop-index-init
loop-index-init g c =
    record {
      read = c.new-window.ensures _;
      bytes = λ wholes t told shown. subst (Passed _ _ _ _) (sym (ap (flat_map packet_bytes) (below_none t))) (passed_none _ _);
      count = refl;
    }

pub loop-index-preserved : goal.loop-index-preserved
loop-index-preserved g c =
    record {
      read = c.in_ok-write_some.ensures.read;
      bytes = λ wholes t told shown.
          subst (Passed _ _ _ _) (sym (packed_more t c.loop-index.index)) (passed_then (c.loop-index.invariant.bytes wholes t told shown) (c.in_ok-write_some.ensures.bytes wholes t told shown));
      count = search rules;
    }

pub returns-in_err-write_some-clause-bytes : goal.returns-in_err-write_some-clause-bytes
unfolding packet_magic
returns-in_err-write_some-clause-bytes g c wholes t told shown =
    let p = err_from_is_err_and c.from_residual-in_err-write_some.result c.from_residual-in_err-write_some.ensures.1 in
    let test = c.loop-index-test.true in
    let cut = packed_cut t c.loop-index.index 131072 test in
    let count = c.count_packets-count.ensures wholes t shown ∙ sym (ap length (all_packets t 131072 refl)) in
    let all = ap (λ (l : List ℕ). header packet_magic c.count_packets-count.result ++ l) cut.1 ∙ packed_whole t c.count_packets-count.result 131072 refl count in
    rw (p.1, p.2)
    (subst (λ (l : List ℕ). FailsBy (g.W.Sink.stream c.args.sink.now) (g.W.Sink.stream c.write_some.new.sink) c.args.out.now l c.in_err-write_some.field-0.0) all
    (fails_then _ _ _ _ _ _ _ c.in_err-write_some.field-0.0 c.in_ok-write_header.ensures
    (fails_more _ _ _ _ cut.0 c.in_err-write_some.field-0.0
    (fails_then _ _ _ _ _ _ _ c.in_err-write_some.field-0.0 (c.loop-index.invariant.bytes wholes t told shown) (c.in_err-write_some.ensures.bytes wholes t told shown)))))

pub returns-clause-bytes : goal.returns-clause-bytes
unfolding packet_magic
returns-clause-bytes g c wholes t told shown =
    let end = c.loop-index-test.false in
    let high = c.loop-index.auto.index-end in
    let is : c.loop-index.index ≡ 131072 = omega arith in
    let count = c.count_packets-count.ensures wholes t shown ∙ sym (ap length (all_packets t c.loop-index.index is)) in
    subst (Passed _ _ _ _) (packed_whole t c.count_packets-count.result c.loop-index.index is count) (passed_then c.in_ok-write_header.ensures (c.loop-index.invariant.bytes wholes t told shown))

pub returns-in_err-write_some-clause-reads : goal.returns-in_err-write_some-clause-reads
returns-in_err-write_some-clause-reads g c wholes t is told never shown =
    let p = err_from_is_err_and c.from_residual-in_err-write_some.result c.from_residual-in_err-write_some.ensures.1 in
    rw (p.1, p.2) (c.in_err-write_some.ensures.reads wholes told never (whole_shown wholes c.args.packets.now t is shown))
