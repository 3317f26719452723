-- The inputs so far and the pairs that are left are all.
use Rattle.std.proofs.Common.{◌≡◌, ◌++◌, map, length}
use Rattle.udfs_words.specs.Asking.{asked_for, pairs_of}
use Rattle.udfs_words.proofs.asking.push_pairs.Given as goal

abbrev pub invariant-loop-rest : goal.invariant-loop-rest
invariant-loop-rest l =
    map asked_for l.inputs.items ++ pairs_of (map (λ path. path.now) l.rest) ≡ map asked_for l.initial.inputs.items ++ pairs_of (map (λ path. path.now) l.paths)

abbrev pub decreases-loop-rest : goal.decreases-loop-rest
decreases-loop-rest l = length l.rest
