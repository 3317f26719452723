-- So far no path holds anything else, and a crash leaves anything at those of new files alone.
use Rattle.std.proofs.Common.{◌≡◌, ◌⊎◌, ◌<◌, ℕ, List}
use Rattle.udfs_host_fs.specs.Disk.{Goes, SameButOwn, Fails, SinkFails}
use Rattle.udfs_host_fs.proofs.replacing.replace_by_one.Given as goal

abbrev pub invariant-loop-name : goal.invariant-loop-name
invariant-loop-name g l =
    let F = g.F.Files in
    record {
      holds : (q : List ℕ) → F.holds l.files q ≡ F.holds l.initial.files q;
      goes : Goes F.moment F.may_leave F.left_since l.initial.files l.files (SameButOwn l.path);
      real : F.real l.files ≡ F.real l.initial.files;
      cause : 0 < l.name-index → Fails F.faults ⊎ SinkFails g.F.Output.Sink.stream;
    }
