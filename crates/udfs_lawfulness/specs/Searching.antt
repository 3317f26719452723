-- What is found first in a list. No public contract cites these definitions.
--     first_some f xs             the first answer of f to one of these
--     map_reason blocks map       why the copies of the sparing table of a map are not lawful
use Rattle.std.specs.Prelude.{ℕ, ◌+◌, List, [], ◌∷◌, Option, None, find, option_map}
use Rattle.std.specs.List.{range_with_len}
use Rattle.udfs_lattice.specs.Volumes.{Blocks}
use Rattle.udfs_volume.specs.Layout.{Partition, PartitionMap, type1, sparable, blocks_in}
use Rattle.udfs_volume.specs.Sequence.{or_else}
use Rattle.udfs_lawfulness.specs.Tables.{differs_from, is_untagged}
use Rattle.udfs_lawfulness.specs.declared.answers.Reason.{Reason}
use Rattle.udfs_lawfulness.specs.declared.answers.Reason.TheVariants.{Tables, NoTable}

-- the first answer that there is
abbrev pub first_some : {A B : Type 0} → (A → Option B) → List A → Option B
first_some f [] = None
first_some f (x ∷ xs) = or_else (f x) (first_some f xs)

-- block k of the copy that begins at a, and that of the first of these copies that differs from it
abbrev pub apart_from : Blocks → ℕ → ℕ → List ℕ → ℕ → Option (ℕ × ℕ)
apart_from blocks size k tables a = option_map (λ b. (a + k, b + k)) (find (differs_from blocks size k a) tables)

-- block k of the first two copies that differ in it
abbrev pub apart_in : Blocks → ℕ → List ℕ → ℕ → Option (ℕ × ℕ)
apart_in blocks size tables k = first_some (apart_from blocks size k tables) tables

-- the first block of the table in which copies differ
abbrev pub copies_apart : Blocks → ℕ → List ℕ → Option (ℕ × ℕ)
copies_apart blocks size tables = first_some (apart_in blocks size tables) (range_with_len 0 (blocks_in size))

-- these blocks differ
abbrev pub tables_reason : ℕ × ℕ → Reason
tables_reason pair = Tables pair.0 pair.1

-- two blocks that differ, or a copy without a tag
abbrev pub copies_reason : Blocks → ℕ → List ℕ → Option Reason
copies_reason blocks size tables = or_else (option_map tables_reason (copies_apart blocks size tables)) (option_map NoTable (find (is_untagged blocks size) tables))

-- the same of the table of a map
abbrev pub map_reason : Blocks → PartitionMap → Option Reason
map_reason blocks type1 = None
map_reason blocks (sparable packet size tables) = copies_reason blocks size tables

-- the same of partitions
abbrev pub partitions_reason : Blocks → List Partition → Option Reason
partitions_reason blocks partitions = first_some (λ p. map_reason blocks p.kind) partitions
