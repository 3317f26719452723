-- The path so far leads where the path leads that was asked for.
use Rattle.std.proofs.Common.{◌≡◌, string_bytes}
use Rattle.udfs_host_fs.proofs.resolving.resolve.Given as goal

abbrev pub invariant-loop : goal.invariant-loop
invariant-loop g l = g.C.Calls.tells → g.C.Calls.real l.calls (string_bytes l.at) ≡ g.C.Calls.real l.calls l.path
