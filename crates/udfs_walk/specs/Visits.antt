-- The end of a route as code has it.
--     end_at address path above hidden       the same, as a record
--     AreRefused most entries error          why the entries are not returned
--     AreListed kept entries                 the entries that are kept, if there are any
use Rattle.std.specs.Prelude.{ℕ, ◌≡◌, ◌<◌, Bool, List, [], length, Option, Some, None, ⊤}
use Rattle.std.specs.declared.rc.Rc.{Rc}
use Rattle.std.specs.declared.vec.Vec.{Vec}
use Rattle.udfs_tag.specs.declared.layouts.LongAd.{LongAd}
use Rattle.udfs_space.specs.Places.{View}
use Rattle.udfs_file.specs.Entries.{entry_of}
use Rattle.udfs_file.specs.Stretches.{IsStanding}
use Rattle.udfs_file.specs.declared.directories.DirEntry.{DirEntry}
use Rattle.udfs_walk.specs.Targets as targets
use Rattle.udfs_walk.specs.Targets.{Icb}
use Rattle.udfs_walk.specs.Routes.{Walked}
use Rattle.udfs_walk.specs.declared.answers.NodesError.{NodesError}
use Rattle.udfs_walk.specs.declared.answers.NodesError.TheVariants.{TooManyPaths, OutOfMemory}
use Rattle.udfs_walk.specs.declared.targets.Target.{Target}
use Rattle.udfs_walk.specs.declared.targets.Target.TheVariants.{Fault, Unread, Entry}

-- the walk at the end of a route
abbrev pub end_at : LongAd → List (List ℕ) → List Icb → Bool → Walked
end_at address path above hidden = record { address = address; path = path; above = above; hidden = hidden }

-- what an address leads to, as the definitions see it
abbrev pub target_now : Target → targets.Target
target_now (Fault f) = targets.bad f
target_now (Unread n) = targets.unread n
target_now (Entry bytes) = targets.entry (entry_of bytes)

-- where an address leads to an entry, its bytes are known there
abbrev pub Stands : View → LongAd → Target → Type 0
Stands view a (Fault f) = ⊤
Stands view a (Unread n) = ⊤
Stands view a (Entry bytes) = IsStanding view a.reference a.block bytes

-- TooManyPaths comes only where a route goes on to more than `most` entries; OutOfMemory may always come
abbrev pub AreRefused : ℕ → List DirEntry → NodesError → Type 0
AreRefused most entries TooManyPaths = most < length entries
AreRefused most entries OutOfMemory = ⊤

-- ---- the entries to which a route goes on, kept for all routes; an empty list need not be kept
module _ {Y Z : Type 0} where
  -- these are the entries that were kept; where nothing was kept the list is empty
  abbrev pub AreListed : Option (Rc (Vec DirEntry Y) Z) → List DirEntry → Type 0
  AreListed None entries = entries ≡ []
  AreListed (Some kept) entries = kept.value.items ≡ entries

  -- how many entries were kept
  abbrev pub count_listed : Option (Rc (Vec DirEntry Y) Z) → ℕ
  count_listed None = 0
  count_listed (Some kept) = length kept.value.items
