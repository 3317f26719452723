use Rattle.std.proofs.Common.{arith}
use Rattle.udfs_space.specs.Views.{view_by}
use Rattle.udfs_extraction.proofs.FoundLemmas.{adds_all, adds_next, adds_none, refused_next, told_by}
use Rattle.udfs_extraction.proofs.lost_found.add_files.Goals as goal

pub loop-file-init : goal.loop-file-init
loop-file-init g c known = adds_none (view_by g.B.BlockStore.states c.args.view) c.args.trees.now.items

pub loop-file-preserved : goal.loop-file-preserved
loop-file-preserved g c known =
    adds_next (view_by g.B.BlockStore.states c.args.view) c.args.files.now c.loop-file.file-index c.file-item.result c.args.trees.now.items c.loop-file.trees.items c.add_file.new.trees.items c.loop-file-test.true c.file-item.is (c.loop-file.invariant known) (c.in-Ok.ensures.added known)

pub returns-clause-added : goal.returns-clause-added
returns-clause-added g c known = adds_all (view_by g.B.BlockStore.states c.args.view) c.args.files.now c.loop-file.file-index c.args.trees.now.items c.loop-file.trees.items (omega (arith, c.loop-file-test.false)) (c.loop-file.invariant known)

pub returns-in-Err-clause-refused : goal.returns-in-Err-clause-refused
returns-in-Err-clause-refused g c known =
    told_by _ _ (λ error why. refused_next (view_by g.B.BlockStore.states c.args.view) c.args.files.now c.loop-file.file-index c.file-item.result error c.loop-file-test.true c.file-item.is why) c.in-Err.error (c.in-Err.ensures.refused known)
