use Rattle.std.proofs.Common.{◌≡◌, ℕ, ◌+◌, ◌++◌, List, rules, refl, sym, ap, subst, ◌∙◌, arith}
use Rattle.std.specs.List.{flat_map}
use Rattle.std.proofs.lemmas.Result.{err_from_is_err_and}
use Rattle.udfs_lattice.specs.States.{State}
use Rattle.udfs_lattice.specs.Tables.{Table, state_of}
use Rattle.udfs_reading.specs.PacketFile.{states_from}
use Rattle.udfs_reading.specs.Writing.{Passed}
use Rattle.udfs_reading.proofs.WritingLemmas.{passed_none, passed_then}
use Rattle.udfs_index.specs.Copying.{FailsBy, IsShown}
use Rattle.udfs_index.specs.Imaging.{filled}
use Rattle.udfs_index.specs.Places.{state_by}
use Rattle.udfs_index.specs.Slots.{slot_at}
use Rattle.udfs_index.specs.declared.packet.Packet.{Packet}
use Rattle.udfs_index.proofs.CopyLemmas.{fails_then, fails_more}
use Rattle.udfs_index.proofs.PackLemmas.{blocks_none, blocks_more, blocks_cut, whole_shown}
use Rattle.udfs_index.proofs.imaging.write_blocks.Goals as goal

-- the state of the block that is counted from the first
shown_there : (wholes : List (List ℕ)) (packets : List Packet) (t : Table) (n : ℕ) → IsShown wholes packets t → state_of t (0 + n) ≡ state_by wholes (slot_at packets n)
shown_there wholes packets t n shown = let z : 0 + n ≡ n = omega arith in ap (state_of t) z ∙ shown n

pub loop-block-init : goal.loop-block-init
loop-block-init g c =
    record {
      read = c.new-window.ensures _;
      bytes = λ wholes t told shown. subst (Passed _ _ _ _) (sym (blocks_none filled t 0)) (passed_none _ _);
      count = refl;
    }

pub loop-block-preserved : goal.loop-block-preserved
loop-block-preserved g c =
    record {
      read = c.in_ok-write_block.ensures.read;
      bytes = λ wholes t told shown.
          subst (Passed _ _ _ _)
          (ap (λ (s : State). flat_map filled (states_from t 0 c.loop-block.block) ++ filled s) (sym (shown_there wholes c.args.packets.now t c.loop-block.block shown)) ∙ sym (blocks_more filled t 0 c.loop-block.block))
          (passed_then (c.loop-block.invariant.bytes wholes t told shown) (c.in_ok-write_block.ensures.bytes wholes told));
      count = search rules;
    }

pub returns-in_err-write_block-clause-bytes : goal.returns-in_err-write_block-clause-bytes
returns-in_err-write_block-clause-bytes g c wholes t told shown =
    let p = err_from_is_err_and c.from_residual.result c.from_residual.ensures.1 in
    let cut = blocks_cut filled t 0 c.loop-block.block (c.args.last + 1) c.loop-block-test.true in
    let here = ap (λ (s : State). (flat_map filled (states_from t 0 c.loop-block.block) ++ filled s) ++ cut.0) (sym (shown_there wholes c.args.packets.now t c.loop-block.block shown)) ∙ cut.1 in
    rw (p.1, p.2)
    (subst (λ (l : List ℕ). FailsBy (g.W.Sink.stream c.args.sink.now) (g.W.Sink.stream c.write_block.new.sink) c.args.out.now l c.in_err-write_block.field-0.0) here
    (fails_more _ _ _ _ cut.0 c.in_err-write_block.field-0.0
    (fails_then _ _ _ _ _ _ _ c.in_err-write_block.field-0.0 (c.loop-block.invariant.bytes wholes t told shown) (c.in_err-write_block.ensures.bytes wholes told))))

pub returns-in_err-write_block-clause-reads : goal.returns-in_err-write_block-clause-reads
returns-in_err-write_block-clause-reads g c wholes t is told never shown =
    let p = err_from_is_err_and c.from_residual.result c.from_residual.ensures.1 in
    rw (p.1, p.2) (c.in_err-write_block.ensures.reads wholes told never (whole_shown wholes c.args.packets.now t is shown))

pub returns-clause-bytes : goal.returns-clause-bytes
returns-clause-bytes g c wholes t told shown =
    let end = c.loop-block-test.false in
    let high = c.loop-block.auto.block-end in
    let is : c.loop-block.block ≡ c.args.last + 1 = omega arith in
    subst (λ (k : ℕ). Passed (g.W.Sink.stream c.args.sink.now) (g.W.Sink.stream c.loop-block.sink) c.args.out.now c.loop-block.out (flat_map filled (states_from t 0 k))) is (c.loop-block.invariant.bytes wholes t told shown)
