-- The inputs so far and the files that are left are all.
use Rattle.std.proofs.Common.{◌≡◌, ◌++◌, map, drop}
use Rattle.udfs_words.specs.Asking.{asked_for, stream_path}
use Rattle.udfs_words.specs.Asking.Asked.{AskedFile}
use Rattle.udfs_words.proofs.asking.push_streams.Given as goal

abbrev pub invariant-loop-path : goal.invariant-loop-path
invariant-loop-path l =
    map asked_for l.inputs.items ++ map AskedFile (map stream_path (map (λ path. path.now) (drop l.path-index l.paths))) ≡ map asked_for l.initial.inputs.items ++ map AskedFile (map stream_path (map (λ path. path.now) l.paths))
