-- The trees of the files so far were added.
use Rattle.std.proofs.Common.{Bor, map, take}
use Rattle.udfs_space.specs.Views.{view_by}
use Rattle.udfs_walk.specs.declared.answers.Unnamed.{Unnamed}
use Rattle.udfs_extraction.specs.LostTrees.{AddsFiles}
use Rattle.udfs_extraction.proofs.lost_found.add_files.Given as goal

abbrev pub invariant-loop-file : goal.invariant-loop-file
invariant-loop-file g l = g.B.BlockStore.tells → AddsFiles (view_by g.B.BlockStore.states l.view) (map (λ (file : Bor Unnamed). file.now) (take l.file-index l.files)) l.initial.trees.items l.trees.items
