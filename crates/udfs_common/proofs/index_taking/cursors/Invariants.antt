-- Each input so far has its source.
use Rattle.std.proofs.Common.{◌≡◌, map, take}
use Rattle.udfs_index.specs.Places.{behind}
use Rattle.udfs_common.proofs.index_taking.cursors.Given as goal

abbrev pub invariant-loop-one : goal.invariant-loop-one
invariant-loop-one g l = map (λ c. behind c.at (g.S.Stored.content c.stored.now)) l.all.items ≡ map g.S.Stored.content (take l.one-index l.stored)
