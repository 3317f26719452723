use Rattle.std.proofs.Common.{◌≡◌, ℕ, ◌-◌, ◌<◌, ◌≤◌, false, length, get_or, take}
use Rattle.udfs_osta.specs.Escapes.{must_escape}
use Rattle.udfs_osta.proofs.escapes.take_plain.Given as goal

abbrev pub invariant-loop-count : goal.invariant-loop-count
invariant-loop-count l = record {
  room : l.count ≤ 64;
  fits : l.count ≤ length l.units;
  plain : (k : ℕ) → k < l.count → (must_escape (get_or l.units k 0) ≡ false) × (get_or l.units k 0 < 128);
  bytes : take l.count l.piece ≡ take l.count l.units;
}

abbrev pub decreases-loop-count : goal.decreases-loop-count
decreases-loop-count l = 64 - l.count
