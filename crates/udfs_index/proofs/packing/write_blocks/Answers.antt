use Rattle.std.proofs.Common.{ℕ, ◌*◌, ◌+◌, ◌++◌, List, rules, refl, sym, ap, subst, ◌∙◌}
use Rattle.std.specs.List.{flat_map}
use Rattle.std.proofs.lemmas.Result.{err_from_is_err_and}
use Rattle.udfs_lattice.specs.States.{State}
use Rattle.udfs_reading.specs.PacketFile.{content, states_from}
use Rattle.udfs_reading.specs.Writing.{Passed}
use Rattle.udfs_reading.proofs.WritingLemmas.{passed_none, passed_then}
use Rattle.udfs_index.specs.Copying.{FailsBy}
use Rattle.udfs_index.proofs.CopyLemmas.{fails_then, fails_more}
use Rattle.udfs_index.proofs.PackLemmas.{blocks_none, blocks_more, blocks_cut}
use Rattle.udfs_index.proofs.packing.write_blocks.Goals as goal

pub loop-i-init : goal.loop-i-init
loop-i-init g c =
    record {
      read = c.requires.read;
      bytes = λ wholes t told shown. subst (Passed _ _ _ _) (sym (blocks_none content t (32 * c.args.index))) (passed_none _ _);
      count = refl;
    }

pub returns-in_err-write_block-clause-bytes : goal.returns-in_err-write_block-clause-bytes
returns-in_err-write_block-clause-bytes g c wholes t told shown =
    let p = err_from_is_err_and c.from_residual.result c.from_residual.ensures.1 in
    let cut = blocks_cut content t (32 * c.args.index) c.loop-i.i 32 (search rules) in
    let here = ap (λ (s : State). (flat_map content (states_from t (32 * c.args.index) c.loop-i.i) ++ content s) ++ cut.0) (sym (shown (32 * c.args.index + c.loop-i.i))) ∙ cut.1 in
    rw (p.1, p.2)
    (subst (λ (l : List ℕ). FailsBy (g.W.Sink.stream c.args.sink.now) (g.W.Sink.stream c.write_block.new.sink) c.args.out.now l c.in_err-write_block.field-0.0) here
    (fails_more _ _ _ _ cut.0 c.in_err-write_block.field-0.0
    (fails_then _ _ _ _ _ _ _ c.in_err-write_block.field-0.0 (c.loop-i.invariant.bytes wholes t told shown) (c.in_err-write_block.ensures.bytes wholes told))))

pub loop-i-preserved : goal.loop-i-preserved
loop-i-preserved g c =
    record {
      read = c.in_ok-write_block.ensures.read;
      bytes = λ wholes t told shown.
          subst (Passed _ _ _ _)
          (ap (λ (s : State). flat_map content (states_from t (32 * c.args.index) c.loop-i.i) ++ content s) (sym (shown (32 * c.args.index + c.loop-i.i))) ∙ sym (blocks_more content t (32 * c.args.index) c.loop-i.i))
          (passed_then (c.loop-i.invariant.bytes wholes t told shown) (c.in_ok-write_block.ensures.bytes wholes told));
      count = search rules;
    }
