-- Nodes before those with 64 names in their paths are settled: the body of such a one is walked over last of all, and only if
-- no shorter route leads there.
--     unsettled view w                    the node that a walk has come to, as it is first recorded
--     settled view n                      the node as it is listed, without its blocks and holes
--     AreUnsettled view root nodes        the nodes at the ends of all routes, not yet settled
use Rattle.std.specs.Prelude.{◌≡◌, ◌≤◌, ◌&&◌, Bool, true, false, List, cond, length, map, nat_le}
use Rattle.udfs_tag.specs.declared.layouts.LongAd.{LongAd}
use Rattle.udfs_space.specs.Places.{View}
use Rattle.udfs_file.specs.Bodies.{body}
use Rattle.udfs_file.specs.Entries.{EntryFields}
use Rattle.udfs_walk.specs.Bare.{bare_standing, no_lists, node_with}
use Rattle.udfs_walk.specs.NodeFields.{NodeFields}
use Rattle.udfs_walk.specs.Nodes.{told, untold}
use Rattle.udfs_walk.specs.Routes.{IsWalk, Walked, is_deep, is_loop}
use Rattle.udfs_walk.specs.Standings.{body_standing}
use Rattle.udfs_walk.specs.Targets.{Target, bad, unread, entry, target}
use Rattle.udfs_walk.specs.declared.standings.Standing.{Standing}
use Rattle.udfs_walk.specs.declared.standings.Standing.TheVariants.{Whole, Torn, Loop, Fault}

-- a loop, or what the body says; where 64 names lead to it the entry counts as whole until it is settled
abbrev pub unsettled_standing : View → Walked → EntryFields → Standing
unsettled_standing view w e = cond (is_loop w) Loop
    (cond (is_deep w) Whole (bare_standing (body_standing view.profile e.kind false (body view w.address.reference w.address.block e))))

-- the node of what an address leads to
abbrev pub unsettled_at : View → Walked → Target → NodeFields
unsettled_at view w (bad f) = untold w (Fault f)
unsettled_at view w (unread n) = untold w (Torn no_lists)
unsettled_at view w (entry e) = told view.profile w e (unsettled_standing view w e)

-- the node that a walk has come to, as it is first recorded, without its blocks and holes
unfoldable pub unsettled : View → Walked → NodeFields
unsettled view w = unsettled_at view w (target view w.address)

-- a standing that is whole
abbrev pub is_whole : Standing → Bool
is_whole Whole = true
is_whole (Torn torn) = false
is_whole Loop = false
is_whole (Fault f) = false

-- a node that is still to be settled: it counts as whole, and 64 names lead to it
abbrev pub waits : NodeFields → Bool
waits n = nat_le 64 (length n.path) && is_whole n.standing

-- the node with what the body of the entry says that its address leads to, where 64 names lead there
abbrev pub settled_at : View → NodeFields → Target → NodeFields
settled_at view n (bad f) = n
settled_at view n (unread m) = n
settled_at view n (entry e) = node_with n (bare_standing (body_standing view.profile e.kind true (body view n.icb.reference n.icb.block e)))

-- the node as it is listed, without its blocks and holes
unfoldable pub settled : View → NodeFields → NodeFields
settled view n = cond (waits n) (settled_at view n (target view n.icb)) n

-- the nodes at the ends of all routes, in lexicographic order of the routes, of which there are at most 65,536, not yet settled
pub record AreUnsettled (view : View) (root : LongAd) (nodes : List NodeFields) : Type 0 where
  pub walks : List Walked
  pub walk : IsWalk view root walks
  pub few : length walks ≤ 65536
  pub is : nodes ≡ map (unsettled view) walks
