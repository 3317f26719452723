-- The body of the entry at an address.
--     HasCells view a cells      an entry without a fault is known there, and its body has these cells
--     MayTakeMemory view a       an entry is known there whose body is embedded, or is not empty
--     has_tail view a            an entry is known there whose body is read by the tail of its last extent
use Rattle.std.specs.Prelude.{◌≡◌, ◌<◌, ◌⊎◌, Bool, false, List}
use Rattle.udfs_tag.specs.declared.layouts.LongAd.{LongAd}
use Rattle.udfs_space.specs.Places.{View}
use Rattle.udfs_file.specs.Entries.{EntryFields}
use Rattle.udfs_file.specs.Bodies.{body, cells}
use Rattle.udfs_file.specs.declared.cells.Cell.{Cell}
use Rattle.udfs_file.specs.TailBodies.{is_tail_read}
use Rattle.udfs_walk.specs.Targets.{Target, bad, unread, entry, target}

-- the entry at the address, and the cells of its body
pub record HasCells (view : View) (a : LongAd) (cs : List Cell) : Type 0 where
  pub fields : EntryFields
  pub is_entry : target view a ≡ entry fields
  pub has_body : body view a.reference a.block fields ≡ cells cs

-- the body of the entry at the address is embedded, or has a byte: only then does reading it take memory
pub record MayTakeMemory (view : View) (a : LongAd) : Type 0 where
  pub fields : EntryFields
  pub is_entry : target view a ≡ entry fields
  pub takes : (fields.form ≡ 3) ⊎ (0 < fields.size)

-- what an address leads to is an entry whose body is read by a tail
abbrev pub target_tail : View → LongAd → Target → Bool
target_tail view a (bad fault) = false
target_tail view a (unread n) = false
target_tail view a (entry e) = is_tail_read view a.reference a.block e

-- the same of the entry at the address
abbrev pub has_tail : View → LongAd → Bool
has_tail view a = target_tail view a (target view a)
