-- Nodes and entries of which the blocks and the holes of torn ones were dropped, and are found again where they are reported.
--     bare_standing standing                the standing without the blocks and the holes
--     lists_at view a              what is missing of what an address leads to
--     full_node view n             the node with what is missing of it
use Rattle.std.specs.Prelude.{[], ◌∷◌}
use Rattle.udfs_tag.specs.declared.layouts.LongAd.{LongAd}
use Rattle.udfs_space.specs.Places.{View}
use Rattle.udfs_file.specs.Bodies.{Body, body, cells, faulty_body}
use Rattle.udfs_walk.specs.NodeFields.{NodeFields}
use Rattle.udfs_walk.specs.TornFields.{TornFields}
use Rattle.udfs_walk.specs.Standings.{cells_standing}
use Rattle.udfs_walk.specs.Targets.{Target, bad, unread, entry, icb_at, target}
use Rattle.udfs_walk.specs.UnnamedEntries.{address_of}
use Rattle.udfs_walk.specs.declared.answers.Unnamed.{Unnamed}
use Rattle.udfs_walk.specs.declared.standings.Standing.{Standing}
use Rattle.udfs_walk.specs.declared.standings.Standing.TheVariants.{Whole, Torn, Loop, Fault}

-- nothing is missing
abbrev pub no_lists : TornFields
no_lists = record { missing = []; holes = [] }

-- what is missing of what is torn
abbrev pub lists_of : Standing → TornFields
lists_of Whole = no_lists
lists_of (Torn torn) = torn
lists_of Loop = no_lists
lists_of (Fault f) = no_lists

-- a torn standing with these blocks and holes; each other one as it was
abbrev pub with_lists : TornFields → Standing → Standing
with_lists lists Whole = Whole
with_lists lists (Torn torn) = Torn lists
with_lists lists Loop = Loop
with_lists lists (Fault f) = Fault f

-- a standing without its blocks and holes
abbrev pub bare_standing : Standing → Standing
bare_standing standing = with_lists no_lists standing

-- what is missing of a body
abbrev pub body_lists : Body → TornFields
body_lists (faulty_body f) = no_lists
body_lists (cells cs) = lists_of (cells_standing cs)

-- a block that is not known is all that is missing
abbrev pub target_lists : View → LongAd → Target → TornFields
target_lists view a (bad f) = no_lists
target_lists view a (unread n) = record { missing = n ∷ []; holes = [] }
target_lists view a (entry e) = body_lists (body view a.reference a.block e)

-- what is missing of what an address leads to
unfoldable pub lists_at : View → LongAd → TornFields
lists_at view a = target_lists view a (target view a)

-- a node with another standing
abbrev pub node_with : NodeFields → Standing → NodeFields
node_with n standing = record { path = n.path; icb = n.icb; kind = n.kind; size = n.size; stamp = n.stamp; hidden = n.hidden; standing = standing }

-- a node without its blocks and holes
abbrev pub bare_node : NodeFields → NodeFields
bare_node n = node_with n (bare_standing n.standing)

-- a node with what is missing of it
abbrev pub full_node : View → NodeFields → NodeFields
full_node view n = node_with n (with_lists (lists_at view n.icb) n.standing)

-- an entry with another standing
abbrev pub with_standing : Unnamed → Standing → Unnamed
with_standing u standing = record { reference = u.reference; block = u.block; kind = u.kind; size = u.size; stamp = u.stamp; standing = standing }

-- an entry without its blocks and holes
abbrev pub bare_entry : Unnamed → Unnamed
bare_entry u = with_standing u (bare_standing u.standing)

-- an entry with what is missing of it
abbrev pub full_entry : View → Unnamed → Unnamed
full_entry view u = with_standing u (with_lists (lists_at view (address_of (icb_at u.reference u.block))) u.standing)
