-- The JSON of nodes, and of entries that no name leads to. Keys are in byte order.
--     node_data tail n         a node, whose body is marked as read by the tail of its last extent or not
--     node_in profile view n   a node in a view: by the strict rules no body is marked
--     unnamed_data two u       an entry that no name leads to
use Rattle.std.specs.Prelude.{ℕ, Bool, true, false, List, map, codes, Option, Some, None}
use Rattle.serde_json.specs.Data.{Data, null, boolean, number, unsigned, string, array, object, item, no_items, Members, member, no_members}
use Rattle.serde_json.specs.View.{items_of}
use Rattle.udfs_osta.specs.StampTexts.{stamp_text}
use Rattle.udfs_osta.specs.declared.stamps.Stamp.{Stamp}
use Rattle.udfs_tag.specs.declared.layouts.LongAd.{LongAd}
use Rattle.udfs_volume.specs.declared.profiles.Profile.{Profile}
use Rattle.udfs_volume.specs.declared.profiles.Profile.TheVariants.{Strict, Wide}
use Rattle.udfs_space.specs.Places.{View}
use Rattle.udfs_file.specs.declared.faults.Kind.{Kind}
use Rattle.udfs_walk.specs.NodeBodies.{has_tail}
use Rattle.udfs_walk.specs.NodeFields.{NodeFields}
use Rattle.udfs_walk.specs.declared.answers.Unnamed.{Unnamed}
use Rattle.udfs_walk.specs.Rereads.{holes_of, missing_of}
use Rattle.udfs_walk.specs.declared.standings.Standing.{Standing}
use Rattle.udfs_salvage.specs.NodeTexts.{kind_name, path_name, standing_name}

-- a number
abbrev pub count : ℕ → Data
count n = number (unsigned n)

-- a list of values
abbrev pub list_data : {A : Type 0} → (A → Data) → List A → Data
list_data f xs = array (items_of (map f xs))

-- a size, or null
abbrev pub size_data : Option ℕ → Data
size_data None = null
size_data (Some n) = count n

-- a timestamp's text, or null
abbrev pub time_data : Option Stamp → Data
time_data None = null
time_data (Some stamp) = string (stamp_text stamp)

-- a run of missing bytes: its offset and its length
abbrev pub hole_data : ℕ × ℕ → Data
hole_data run = array (item (count run.0) (item (count run.1) no_items))

-- the members that a node and an entry without a name share
unfoldable pub told_members : Standing → Kind → Option ℕ → Option Stamp → Members
told_members s k size stamp =
    member (codes "holes") (list_data hole_data (holes_of s))
    (member (codes "kind") (string (kind_name k))
    (member (codes "missing") (list_data count (missing_of s))
    (member (codes "modified") (time_data stamp)
    (member (codes "size") (size_data size)
    (member (codes "standing") (string (standing_name s))
    no_members)))))

-- the mark of a body that is read by the tail of its last extent
abbrev pub tail_members : Bool → Members
tail_members true = member (codes "tail") (boolean true) no_members
tail_members false = no_members

-- the object of a node, whose body is marked or not
unfoldable pub node_data : Bool → NodeFields → Data
node_data tail n = object (
    member (codes "hidden") (boolean n.hidden)
    (member (codes "holes") (list_data hole_data (holes_of n.standing))
    (member (codes "kind") (string (kind_name n.kind))
    (member (codes "missing") (list_data count (missing_of n.standing))
    (member (codes "modified") (time_data n.stamp)
    (member (codes "path") (string (path_name n.path))
    (member (codes "size") (size_data n.size)
    (member (codes "standing") (string (standing_name n.standing))
    (tail_members tail)))))))))

-- whether the body at an address is marked: by the strict rules none is
abbrev pub tail_in : Profile → View → LongAd → Bool
tail_in Strict view a = false
tail_in Wide view a = has_tail view a

-- the object of a node in a view
abbrev pub node_in : Profile → View → NodeFields → Data
node_in profile view n = node_data (tail_in profile view n.icb) n

-- these members, after the partition reference where there are two partitions
abbrev pub with_reference : Bool → ℕ → Members → Members
with_reference true r ms = member (codes "reference") (count r) ms
with_reference false r ms = ms

-- the object of an entry without a name; with two partitions it gives its partition reference
unfoldable pub unnamed_data : Bool → Unnamed → Data
unnamed_data two u = object (
    member (codes "block") (count u.block)
    (member (codes "holes") (list_data hole_data (holes_of u.standing))
    (member (codes "kind") (string (kind_name u.kind))
    (member (codes "missing") (list_data count (missing_of u.standing))
    (member (codes "modified") (time_data (Some u.stamp))
    (with_reference two u.reference
    (member (codes "size") (count u.size)
    (member (codes "standing") (string (standing_name u.standing))
    no_members))))))))
