-- The paths so far and those that are left are all.
use Rattle.std.proofs.Common.{◌≡◌, ◌++◌, map, drop}
use Rattle.udfs_words.specs.Asking.{only_path}
use Rattle.udfs_words.specs.Requests.{texts}
use Rattle.udfs_words.proofs.reading.only_paths.Given as goal

abbrev pub invariant-loop-path : goal.invariant-loop-path
invariant-loop-path l = texts l.paths.items ++ map only_path (texts (drop l.path-index l.given)) ≡ map only_path (texts l.given)
