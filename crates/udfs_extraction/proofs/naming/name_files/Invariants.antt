-- The names of all files so far are on the disk, and so are those in the folder of the last one.
use Rattle.std.proofs.Common.{◌≡◌, ◌<◌, ℕ, List, Some, slice_get, string_bytes}
use Rattle.std.specs.Prelude.{MatchOption, ⊤}
use Rattle.udfs_host_fs.specs.Disk.{Disk, Goes, Same}
use Rattle.udfs_extraction.specs.Runs.{IsNamed}
use Rattle.udfs_extraction.specs.declared.naming.Put.{Put}
use Rattle.udfs_extraction.specs.declared.nodes.Fate.TheVariants.{Written}
use Rattle.udfs_extraction.proofs.naming.name_files.Given as goal

abbrev pub invariant-loop-k : goal.invariant-loop-k
invariant-loop-k g l =
    let F = g.F.Files in
    record {
      named : F.tells → MatchOption l.named ⊤ (λ last. IsNamed (F.holds l.files) (F.may_leave l.files) last.now);
      kept : F.tells → (j : ℕ) (put : Put) (bytes : List ℕ) (c : Disk) → j < l.k → slice_get l.puts j ≡ Some put → put.done.fate ≡ Written → F.holds l.files (string_bytes put.path) ≡ Some (Some bytes) → F.may_leave l.files c → c (string_bytes put.path) ≡ Some bytes;
      others : (q : List ℕ) → F.holds l.files q ≡ F.holds l.initial.files q;
      crash : Goes F.moment F.may_leave F.left_since l.initial.files l.files Same;
    }
