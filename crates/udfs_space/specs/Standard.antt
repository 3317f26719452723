-- What the standard reads of the places of a volume from complete bytes (UDF 2.2.11): the first sparing table alone.
--     standard_space volume layout       the partitions with the packets that it maps
use Rattle.std.specs.Prelude.{ℕ, [], ◌∷◌, take, drop, map, flat_map}
use Rattle.std.specs.List.{range_with_len}
use Rattle.udfs_volume.specs.Sequence.{Bytes}
use Rattle.udfs_lattice.specs.Volumes.{Volume}
use Rattle.udfs_volume.specs.Layout.{Layout, PartitionMap, type1, sparable, blocks_in}
use Rattle.udfs_space.specs.Sparing.{Space, Spared, spared_in, span_of}

-- the bytes of the copy of a sparing table that begins at this block
abbrev pub table_at : Volume → ℕ → ℕ → Bytes
table_at volume size place = take size (flat_map volume (range_with_len place (blocks_in size)))

-- the packets that the first sparing table maps
abbrev pub first_table : Volume → PartitionMap → Spared
first_table volume type1 = []
first_table volume (sparable packet size []) = []
first_table volume (sparable packet size (place ∷ places)) = spared_in (drop 16 (table_at volume size place))

-- the places of a volume's blocks, by the first sparing table of each partition
abbrev pub standard_space : Volume → Layout → Space
standard_space volume l = record { spans = map (λ p. span_of p (first_table volume p.kind)) l.partitions; profile = l.profile }
