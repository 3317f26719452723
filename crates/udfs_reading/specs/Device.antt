-- What a device's reads and writes do to its count of faults.
use Rattle.std.specs.Prelude.{◌≡◌, ℕ, ◌+◌, ◌%◌, ◌^◌, List, Option, Result, Ok, Err}
use Rattle.std.specs.Io.KnownBytes.{prepend_known}

-- what a sink has: the bytes that it holds, where known, and how many of its writes were faults, modulo 2 ^ 64
pub record Stream : Type 0 where
  pub contents : Option (List ℕ)
  pub faults : ℕ

-- the count after one more call: a fault adds one, modulo 2 ^ 64
abbrev pub CountsFault : {X E : Type 0} → ℕ → ℕ → Result X E → Type 0
CountsFault old new (Ok x) = new ≡ old
CountsFault old new (Err e) = new ≡ (old + 1) % 2 ^ 64

-- what is left of a file: the bytes that were read ahead, and then those that the source will give, where known
abbrev pub left : List ℕ → Option (List ℕ) → Option (List ℕ)
left ahead known = prepend_known ahead known
