-- What is put by a job, and why not.
--     AreOnly Is bytes            these are the only bytes of which this is said
--     IsDone stream wrote         some output has taken what a job wrote
use Rattle.std.specs.Prelude.{◌≡◌, ℕ, List, Option}
use Rattle.udfs_reading.specs.Device.{Stream}

-- these are the only bytes of which this is said
abbrev pub AreOnly : (List ℕ → Type 0) → List ℕ → Type 0
AreOnly Is bytes = (other : List ℕ) → Is other → other ≡ bytes

-- some output has taken what a job wrote
abbrev pub IsDone : {W : Type 0} → (W → Stream) → (Option (List ℕ) → Option (List ℕ) → Type 0) → Type 0
IsDone {W} stream wrote = (before : W) × (after : W) × wrote (stream before).contents (stream after).contents
