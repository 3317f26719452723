use Rattle.std.proofs.Common.{◌≡◌, length, Some}
use Rattle.udfs_space.specs.Views.{view_by}
use Rattle.udfs_overview.specs.LostLists.{folder_at}
use Rattle.udfs_overview.proofs.lost_lines.folder_at.Given as goal

-- those before are not the directory
abbrev pub invariant-loop-first : goal.invariant-loop-first
invariant-loop-first g l = let v = view_by g.B.BlockStore.states l.view in folder_at v l.rest (Some l.address) ≡ folder_at v l.nodes (Some l.address)

abbrev pub decreases-loop-first : goal.decreases-loop-first
decreases-loop-first g l = length l.rest
