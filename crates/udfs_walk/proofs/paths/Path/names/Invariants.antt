use Rattle.std.proofs.Common.{◌≡◌, take}
use Rattle.udfs_walk.specs.Paths.{shared}
use Rattle.udfs_walk.proofs.paths.Path.names.Given as goal

abbrev pub invariant-loop-name : goal.invariant-loop-name
invariant-loop-name l = shared l.names.items ≡ shared (take l.name-index l.self-inside.folder.value.items)
