-- Lists of what is missing that are kept, each by the number of an information control block.
--     AreKeptLists view kept      what is kept is what is missing there
use Rattle.std.specs.Prelude.{◌≡◌, ℕ, ◌<◌, None, Some}
use Rattle.std.specs.BTreeMap.{BTreeMap, get}
use Rattle.std.specs.Ordering.{nat_cmp}
use Rattle.udfs_tag.specs.Fields.{number_of}
use Rattle.udfs_tag.specs.declared.layouts.LongAd.{LongAd}
use Rattle.udfs_space.specs.Places.{View}
use Rattle.udfs_file.specs.Addresses.{address_fault}
use Rattle.udfs_walk.specs.Bare.{lists_at}
use Rattle.udfs_walk.specs.Targets.{icb_of}
use Rattle.udfs_walk.specs.TornFields.{TornFields}

-- what is kept by the number of an ICB is what is missing at each address of it that has no fault
abbrev pub AreKeptLists : View → BTreeMap ℕ TornFields → Type 0
AreKeptLists view kept = (a : LongAd) (torn : TornFields) → a.block < 4294967296 → address_fault view a ≡ None
    → get nat_cmp kept (number_of (icb_of a)) ≡ Some torn → torn ≡ lists_at view a
