-- What a standing lacks, and what has to be read again.
--     missing_of, holes_of     the blocks and the bytes that are missing where it is torn
--     reread nodes             the blocks that are missing in torn nodes, ascending and each once
use Rattle.std.specs.Prelude.{ℕ, List, [], flat_map}
use Rattle.udfs_lattice.specs.Volumes.{ascending}
use Rattle.udfs_walk.specs.NodeFields.{NodeFields}
use Rattle.udfs_walk.specs.declared.standings.Standing.{Standing}
use Rattle.udfs_walk.specs.declared.standings.Standing.TheVariants.{Whole, Torn, Loop, Fault}

-- the blocks that a torn standing lacks
abbrev pub missing_of : Standing → List ℕ
missing_of Whole = []
missing_of (Torn torn) = torn.missing
missing_of Loop = []
missing_of (Fault f) = []

-- the runs of bytes that a torn standing lacks, each by its offset and length
abbrev pub holes_of : Standing → List (ℕ × ℕ)
holes_of Whole = []
holes_of (Torn torn) = torn.holes
holes_of Loop = []
holes_of (Fault f) = []

-- the blocks that the nodes lack, ascending and each once
abbrev pub reread : List NodeFields → List ℕ
reread nodes = ascending (flat_map (λ n. missing_of n.standing) nodes)
