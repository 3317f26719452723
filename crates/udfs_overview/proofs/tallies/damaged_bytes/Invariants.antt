use Rattle.std.proofs.Common.{◌≡◌, ◌*◌, ◌≤◌, ◌^◌, take}
use Rattle.udfs_overview.specs.TornFiles.{bytes_in}
use Rattle.udfs_overview.proofs.tallies.damaged_bytes.Given as goal

-- those so far; no file has more than 2^64 bytes
abbrev pub invariant-loop-file : goal.invariant-loop-file
invariant-loop-file l = record {
  sum : l.bytes ≡ bytes_in (take l.file-index l.files);
  small : l.bytes ≤ l.file-index * 2 ^ 64;
}
