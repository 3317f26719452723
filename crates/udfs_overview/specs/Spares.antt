-- Copies of a sparing table (UDF 2.01 2.2.11) that do not say the same: the volume is not lawful.
--     said_in size k bytes              what block k of a table says: its bytes after the tag, within the table's size
--     differ_in blocks size tables k    block k of two of the copies is known in both, and does not say the same
--     spares_disagree blocks volume     two copies of the sparing table of a volume that opens differ so in some block
--     spares_line disagree              the line that says so
use Rattle.std.specs.Prelude.{ℕ, ◌+◌, ◌-◌, ◌*◌, ◌==◌, Bool, false, not, List, [], take, drop, cond, codes}
use Rattle.std.specs.List.{list_any, range_with_len}
use Rattle.std.specs.Str.{bytes_eq}
use Rattle.udfs_lattice.specs.States.{State}
use Rattle.udfs_lattice.specs.Volumes.{Blocks}
use Rattle.udfs_lattice.specs.declared.facts.Fact.TheVariants.{Unknown, Known, Conflict}
use Rattle.udfs_volume.specs.Answers.{Answer, found, holes, faulty}
use Rattle.udfs_volume.specs.Layout.{Partition, PartitionMap, type1, sparable, blocks_in}
use Rattle.udfs_volume.specs.Sequence.{Bytes}
use Rattle.udfs_salvage.specs.Found.{Found}

-- what block k of a table of this size says: its bytes from byte 16 of the table on, and none past its size
abbrev pub said_in : ℕ → ℕ → Bytes → Bytes
said_in size k bytes = drop (cond (k == 0) 16 0) (take (size - 2048 * k) bytes)

-- block k of one copy does not say the same as that of another, if this is known
abbrev pub differs_known : ℕ → ℕ → Bytes → State → Bool
differs_known size k one Unknown = false
differs_known size k one (Known other) = not (bytes_eq (said_in size k one) (said_in size k other))
differs_known size k one Conflict = false

-- block k of two copies is known in both, and does not say the same
abbrev pub differs : ℕ → ℕ → State → State → Bool
differs size k Unknown other = false
differs size k (Known one) other = differs_known size k one other
differs size k Conflict other = false

-- so do the copies that begin at these two blocks
abbrev pub differs_from : Blocks → ℕ → ℕ → ℕ → ℕ → Bool
differs_from blocks size k a b = differs size k (blocks (a + k)) (blocks (b + k))

-- so do some two of the copies
abbrev pub differ_in : Blocks → ℕ → List ℕ → ℕ → Bool
differ_in blocks size tables k = list_any (λ a. list_any (differs_from blocks size k a) tables) tables

-- the copies of the sparing table of a map disagree in some block; a map of type 1 has none
abbrev pub map_disagrees : Blocks → PartitionMap → Bool
map_disagrees blocks type1 = false
map_disagrees blocks (sparable packet size tables) = list_any (differ_in blocks size tables) (range_with_len 0 (blocks_in size))

-- those of a partition
abbrev pub partition_disagrees : Blocks → Partition → Bool
partition_disagrees blocks p = map_disagrees blocks p.kind

-- those of some partition of a volume that opens
unfoldable pub spares_disagree : Blocks → Answer Found → Bool
spares_disagree blocks (found f) = list_any (partition_disagrees blocks) f.layout.partitions
spares_disagree blocks (holes listed) = false
spares_disagree blocks (faulty fault) = false

-- the line that says so, if they disagree
abbrev pub spares_line : Bool → List ℕ
spares_line disagree = cond disagree (codes "Spares     sparing copies disagree: the volume is not lawful, and files in spared packets may be old\n") []
