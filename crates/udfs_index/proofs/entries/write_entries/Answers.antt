use Rattle.std.proofs.Common.{◌≡◌, ℕ, List, ◌++◌, ◌∙◌, sym, ap, refl, rules, arith, subst}
use Rattle.std.specs.List.{flat_map}
use Rattle.std.proofs.lemmas.Result.{err_from_is_err_and}
use Rattle.udfs_lattice.specs.States.{State}
use Rattle.udfs_reading.specs.PacketReading.{entry_at}
use Rattle.udfs_reading.specs.TableFile.{table_magic, table_header, entry_bytes}
use Rattle.udfs_reading.specs.Writing.{Passed, FailedPast}
use Rattle.udfs_reading.proofs.WritingLemmas.{passed_none, passed_then, failed_more}
use Rattle.udfs_index.specs.Copying.{FailsBy}
use Rattle.udfs_index.proofs.CopyLemmas.{fails_then, fails_more}
use Rattle.udfs_index.proofs.PackLemmas.{whole_shown}
use Rattle.udfs_index.proofs.EntryLemmas.{entries_below, entries-none, said_entries, spelled_more, spelled_cut, spelled_whole}
use Rattle.udfs_index.proofs.entries.write_entries.Goals as goal

pub returns-in_err-write_header-clause-bytes : goal.returns-in_err-write_header-clause-bytes
unfolding table_magic
returns-in_err-write_header-clause-bytes g c wholes t is told shown =
    let p = err_from_is_err_and c.from_residual.result c.from_residual.ensures.1 in
    rw (p.1, p.2) (subst (FailedPast _ _ _) (spelled_whole t c.count_entries-count.result c.end_of-end.result (said_entries wholes c.args.packets.now t c.end_of-end.result is shown c.end_of-end.ensures.most c.end_of-end.ensures.rest) (c.count_entries-count.ensures wholes t is shown)) (failed_more (flat_map entry_bytes (entries_below t c.end_of-end.result)) c.in_err-write_header.ensures))

pub loop-block-init : goal.loop-block-init
loop-block-init g c =
    record {
      read = c.new-window.ensures _;
      bytes = λ wholes t told shown. subst (Passed _ _ _ _) (sym (ap (flat_map entry_bytes) (entries-none t))) (passed_none _ _);
      count = refl;
    }

pub loop-block-preserved : goal.loop-block-preserved
loop-block-preserved g c =
    record {
      read = c.in_ok-write_entry.ensures.read;
      bytes = λ wholes t told shown.
          let here = shown c.loop-block.block in
          subst (Passed _ _ _ _) (ap (λ (s : State). flat_map entry_bytes (entries_below t c.loop-block.block) ++ flat_map entry_bytes (entry_at c.loop-block.block s)) (sym here) ∙ sym (spelled_more t c.loop-block.block))
          (passed_then (c.loop-block.invariant.bytes wholes t told shown) (c.in_ok-write_entry.ensures.bytes wholes told));
      count = search rules;
    }

pub returns-in_err-write_entry-clause-bytes : goal.returns-in_err-write_entry-clause-bytes
unfolding table_magic
returns-in_err-write_entry-clause-bytes g c wholes t is told shown =
    let p = err_from_is_err_and c.from_residual-in_err-write_entry.result c.from_residual-in_err-write_entry.ensures.1 in
    let here = shown c.loop-block.block in
    let cut = spelled_cut t c.loop-block.block c.end_of-end.result c.loop-block-test.true in
    let front = ap (λ (s : State). (flat_map entry_bytes (entries_below t c.loop-block.block) ++ flat_map entry_bytes (entry_at c.loop-block.block s)) ++ cut.0) (sym here) in
    let all = ap (λ (l : List ℕ). table_header c.count_entries-count.result ++ l) (front ∙ cut.1) ∙ spelled_whole t c.count_entries-count.result c.end_of-end.result (said_entries wholes c.args.packets.now t c.end_of-end.result is shown c.end_of-end.ensures.most c.end_of-end.ensures.rest) (c.count_entries-count.ensures wholes t is shown) in
    rw (p.1, p.2)
    (subst (λ (l : List ℕ). FailsBy (g.W.Sink.stream c.args.sink.now) (g.W.Sink.stream c.write_entry.new.sink) c.args.out.now l c.in_err-write_entry.field-0.0) all
    (fails_then _ _ _ _ _ _ _ c.in_err-write_entry.field-0.0 c.in_ok-write_header.ensures
    (fails_more _ _ _ _ cut.0 c.in_err-write_entry.field-0.0
    (fails_then _ _ _ _ _ _ _ c.in_err-write_entry.field-0.0 (c.loop-block.invariant.bytes wholes t told shown) (c.in_err-write_entry.ensures.bytes wholes told)))))

pub returns-clause-bytes : goal.returns-clause-bytes
unfolding table_magic
returns-clause-bytes g c wholes t is told shown =
    let end = c.loop-block-test.false in
    let high = c.loop-block.auto.block-end in
    let last : c.loop-block.block ≡ c.end_of-end.result = omega arith in
    subst (Passed _ _ _ _) (spelled_whole t c.count_entries-count.result c.loop-block.block (ap (entries_below t) last ∙ said_entries wholes c.args.packets.now t c.end_of-end.result is shown c.end_of-end.ensures.most c.end_of-end.ensures.rest) (c.count_entries-count.ensures wholes t is shown)) (passed_then c.in_ok-write_header.ensures (c.loop-block.invariant.bytes wholes t told shown))

pub returns-in_err-write_entry-clause-reads : goal.returns-in_err-write_entry-clause-reads
returns-in_err-write_entry-clause-reads g c wholes t is told never shown =
    let p = err_from_is_err_and c.from_residual-in_err-write_entry.result c.from_residual-in_err-write_entry.ensures.1 in
    rw (p.1, p.2) (c.in_err-write_entry.ensures.reads wholes told never (whole_shown wholes c.args.packets.now t is shown))
