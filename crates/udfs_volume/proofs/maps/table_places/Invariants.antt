use Rattle.std.proofs.Common.{◌≡◌, ◌+◌, ◌-◌, ◌*◌, ◌++◌, map}
use Rattle.std.specs.List.{range_with_len}
use Rattle.udfs_tag.specs.Fields.{uint8_at, uint32_at}
use Rattle.udfs_volume.specs.Layout.{table_places}
use Rattle.udfs_volume.proofs.maps.table_places.Given as goal

abbrev pub invariant-loop-i : goal.invariant-loop-i
invariant-loop-i l = l.places.items ++ map (λ k. uint32_at l.bytes (48 + 4 * k)) (range_with_len l.i (uint8_at l.bytes 42 - l.i)) ≡ table_places l.bytes
