-- The directory in which a directory is, as it says itself: where its file identifier descriptor at the beginning is the parent's
-- (ECMA-167 4/14.4.3), the address of the ICB in it.
--     body_front view icb e        the bytes with which a body begins, and the logical block that holds them
--     parent_in profile b bytes    the address in the parent's descriptor at the beginning of these bytes
--     parent_at view icb           that of the directory at an information control block
use Rattle.std.specs.Prelude.{ℕ, ◌/◌, ◌%◌, ◌==◌, ◌&&◌, Bool, List, length, cond, nat_le, nat_lt, Option, None, Some, option_and_then}
use Rattle.udfs_lattice.specs.States.{State}
use Rattle.udfs_lattice.specs.declared.facts.Fact.TheVariants.{Unknown, Known, Conflict}
use Rattle.udfs_tag.specs.Fields.{uint8_at, uint32_at, long_ad_at}
use Rattle.udfs_tag.specs.Tags.{is_valid}
use Rattle.udfs_tag.specs.declared.layouts.LongAd.{LongAd}
use Rattle.udfs_volume.specs.declared.profiles.Profile.{Profile}
use Rattle.udfs_volume.specs.declared.profiles.Profile.TheVariants.{Strict, Wide}
use Rattle.udfs_space.specs.Places.{View, block_at}
use Rattle.udfs_file.specs.Bodies.{recorded_at}
use Rattle.udfs_file.specs.Entries.{EntryFields, descriptor_size}
use Rattle.udfs_file.specs.declared.faults.Kind.{Kind}
use Rattle.udfs_file.specs.declared.faults.Kind.TheVariants.{Directory}
use Rattle.udfs_walk.specs.Targets.{Icb, Target, bad, unread, entry, target}
use Rattle.udfs_walk.specs.UnnamedEntries.{address_of}

-- bytes with the logical block that holds them
abbrev pub Held : Type 0
Held = ℕ × List ℕ

-- those of a logical block, by what is known of it
abbrev pub held_by : ℕ → State → Option Held
held_by b Unknown = None
held_by b (Known bytes) = Some (b, bytes)
held_by b Conflict = None

-- those of a logical block, if it has a place
abbrev pub held_in : ℕ → Option (ℕ × State) → Option Held
held_in b None = None
held_in b (Some block) = held_by b block.1

-- those of the first block of an extent, if something is recorded there
abbrev pub extent_front : View → LongAd → Option Held
extent_front view d = cond ((d.kind == 0) && nat_lt 0 d.length) (held_in d.block (block_at view d.reference d.block)) None

-- the first extent of an entry whose body is not embedded, if it has a descriptor
abbrev pub first_extent : ℕ → EntryFields → Option LongAd
first_extent reference e = cond (nat_lt (length e.area) (descriptor_size e.form)) None (Some (recorded_at e.form reference e.area 0))

-- the bytes with which a body begins: those embedded in the entry, or those of its first extent
abbrev pub body_front : View → Icb → EntryFields → Option Held
body_front view icb e = cond (e.form == 3) (Some (icb.block, e.area)) (option_and_then (extent_front view) (first_extent icb.reference e))

-- bit 3 of a descriptor's characteristics is set, which marks the parent, and bit 2, which marks a deleted entry, is not (4/14.4.3)
abbrev pub is_parent : List ℕ → Bool
is_parent bytes = uint8_at bytes 18 / 4 % 4 == 2

-- the place that a descriptor's tag is to name: the block that holds it, and by the wide rules whichever it names
abbrev pub place_by : Profile → ℕ → List ℕ → ℕ
place_by Strict b bytes = b
place_by Wide b bytes = uint32_at bytes 12

-- the address in the descriptor at the beginning of these bytes (4/14.4.4), where it is a good one and the parent's
abbrev pub parent_in : Profile → Held → Option LongAd
parent_in profile held = cond (nat_le 38 (length held.1) && (is_valid held.1 (place_by profile held.0 held.1) 257 && is_parent held.1)) (Some (long_ad_at held.1 20)) None

-- that of a directory; an entry of another kind has none
abbrev pub kind_parent : View → Icb → EntryFields → Kind → Option LongAd
kind_parent view icb e Directory = option_and_then (parent_in view.profile) (body_front view icb e)
kind_parent view icb e _ = None

-- that of what is at an information control block
abbrev pub target_parent : View → Icb → Target → Option LongAd
target_parent view icb (bad fault) = None
target_parent view icb (unread n) = None
target_parent view icb (entry e) = kind_parent view icb e e.kind

-- the address of the directory in which the one at this information control block is, as it says itself
unfoldable pub parent_at : View → Icb → Option LongAd
parent_at view icb = target_parent view icb (target view (address_of icb))
