-- Bodies that are read by the tail of their last extent.
--     is_tail_read view r b entry     the body of an entry has no fault, and by the strict rules, which take no tail, it has one
use Rattle.std.specs.Prelude.{ℕ, Bool, true, false, not, ◌&&◌}
use Rattle.udfs_volume.specs.declared.profiles.Profile.TheVariants.{Strict}
use Rattle.udfs_space.specs.Places.{View}
use Rattle.udfs_file.specs.Bodies.{Body, cells, faulty_body, body}
use Rattle.udfs_file.specs.Entries.{EntryFields}
use Rattle.udfs_file.specs.Laws.{by_profile}

-- whether a body has no fault
abbrev pub has_cells : Body → Bool
has_cells (cells cs) = true
has_cells (faulty_body fault) = false

-- whether a body is read by the tail of its last extent
unfoldable pub is_tail_read : View → ℕ → ℕ → EntryFields → Bool
is_tail_read view r b entry = has_cells (body view r b entry) && not (has_cells (body (by_profile Strict view) r b entry))
