-- Nothing changes but that there are folders.
use Rattle.std.proofs.Common.{◌≡◌, List, ℕ}
use Rattle.udfs_host_fs.specs.Disk.{Goes, Same}
use Rattle.udfs_extraction.proofs.seats.make_way.Given as goal

abbrev pub invariant-loop-part : goal.invariant-loop-part
invariant-loop-part g l =
    let F = g.F.Files in
    record {
      others : (q : List ℕ) → F.holds l.files q ≡ F.holds l.initial.files q;
      crash : Goes F.moment F.may_leave F.left_since l.initial.files l.files Same;
    }
