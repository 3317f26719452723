-- Each name so far is one of a new file.
use Rattle.std.proofs.Common.{◌≡◌, All, string_bytes, vec_len}
use Rattle.udfs_host_fs.specs.Disk.{IsOwn}
use Rattle.udfs_host_fs.proofs.replacing.own_names.Given as goal

abbrev pub invariant-loop-more : goal.invariant-loop-more
invariant-loop-more l = record {
  count : vec_len l.names ≡ l.more-index;
  own : All (λ name. IsOwn l.path (string_bytes name)) l.names.items;
}
