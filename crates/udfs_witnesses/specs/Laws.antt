-- What holds of witnesses.
--     WitnessesRise       they rise, each once
--     WitnessesAreKnown   each is a known block of the disc
--     NamedAreWitnesses   each known block that names the volume is one of them
--     SpreadAreWitnesses  and in each ninth of the disc one whose bytes are not all equal, if such a block is known there
--     WitnessesAreFew     there are sixteen at most, where two structures at most are given
use Rattle.std.specs.Prelude.{◌≡◌, ℕ, ◌≤◌, ◌<◌, ◌+◌, true, List, length, Contains}
use Rattle.udfs_lattice.specs.States.{is_known}
use Rattle.udfs_lattice.specs.Volumes.{Blocks}
use Rattle.udfs_volume.specs.Seen.{IsRising}
use Rattle.udfs_witnesses.specs.Witnesses.{is_telling, named, ninth, witnesses}

-- they rise, each once
abbrev pub WitnessesRise : Type 0
WitnessesRise = (blocks : Blocks) (last : ℕ) (structures : List ℕ) → IsRising (witnesses blocks last structures)

-- each is a known block of the disc
abbrev pub WitnessesAreKnown : Type 0
WitnessesAreKnown = (blocks : Blocks) (last : ℕ) (structures : List ℕ) (n : ℕ) → Contains (witnesses blocks last structures) n → (n ≤ last) × (is_known (blocks n) ≡ true)

-- a known block of the disc that names the volume is one of them
abbrev pub NamedAreWitnesses : Type 0
NamedAreWitnesses = (blocks : Blocks) (last : ℕ) (structures : List ℕ) (n : ℕ) → Contains (named blocks last structures) n → n ≤ last → is_known (blocks n) ≡ true → Contains (witnesses blocks last structures) n

-- in each ninth of the disc, if it has a known block whose bytes are not all equal, such a block is one of them
abbrev pub SpreadAreWitnesses : Type 0
SpreadAreWitnesses = (blocks : Blocks) (last : ℕ) (structures : List ℕ) (i n : ℕ) → i < 9 → ninth last i ≤ n → n < ninth last (i + 1) → is_telling (blocks n) ≡ true →
    (m : ℕ) × (ninth last i ≤ m) × (m < ninth last (i + 1)) × (is_telling (blocks m) ≡ true) × Contains (witnesses blocks last structures) m

-- there are sixteen at most
abbrev pub WitnessesAreFew : Type 0
WitnessesAreFew = (blocks : Blocks) (last : ℕ) (structures : List ℕ) → length structures ≤ 2 → length (witnesses blocks last structures) ≤ 16
