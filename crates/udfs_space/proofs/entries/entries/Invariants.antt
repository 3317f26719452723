use Rattle.std.proofs.Common.{◌≡◌, ◌++◌, ◌-◌, ◌+◌, ◌*◌, map, drop}
use Rattle.std.specs.List.{range_with_len}
use Rattle.udfs_volume.specs.Layout.{bp}
use Rattle.udfs_space.specs.Sparing.{sparing_entry_of}
use Rattle.udfs_space.proofs.entries.entries.Given as goal

abbrev pub invariant-loop-i : goal.invariant-loop-i
invariant-loop-i l = l.entries.items ++ map (λ i. sparing_entry_of (drop (bp (56 + 8 * i)) l.content)) (range_with_len l.i (l.count - l.i))
    ≡ map (λ i. sparing_entry_of (drop (bp (56 + 8 * i)) l.content)) (range_with_len 0 l.count)
