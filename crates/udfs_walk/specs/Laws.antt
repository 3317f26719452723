-- What holds of every walk, and of the nodes at its ends.
--     SomeWalk, OnlyWalk                   every volume has a walk, and only one
--     NoMoreRoutes, MoreRoutes             it has as many routes as the walk has ends
--     RoutesStandOnce                      each route occurs once among routes in order
--     PathsHaveParts                       what is between two `/` of a node's path is a valid path component
--     NodeCells                            a node with a body has the cells that are at the end of its route
use Rattle.std.specs.Prelude.{◌≡◌, ◌<◌, ◌≤◌, ⊤, ℕ, List, length, Option, Some, None, slice_get, Contains}
use Rattle.udfs_osta.specs.Escapes.{escaped}
use Rattle.udfs_osta.specs.Parts.{IsPathPart}
use Rattle.udfs_tag.specs.declared.layouts.LongAd.{LongAd}
use Rattle.udfs_space.specs.Places.{View}
use Rattle.udfs_file.specs.declared.cells.Cell.{Cell}
use Rattle.udfs_walk.specs.NodeBodies.{HasCells}
use Rattle.udfs_walk.specs.NodeFields.{NodeFields}
use Rattle.udfs_walk.specs.Routes.{Route, Walked, IsInOrder, IsWalk, HasMoreRoutes}
use Rattle.udfs_walk.specs.Walks.{AreNodes}
use Rattle.udfs_walk.specs.declared.standings.Standing.{Standing}
use Rattle.udfs_walk.specs.declared.standings.Standing.TheVariants.{Whole, Torn, Loop, Fault}

-- every volume has a walk
abbrev pub SomeWalk : Type 0
SomeWalk = (view : View) (root : LongAd) → (walks : List Walked) × IsWalk view root walks

-- and only one
abbrev pub OnlyWalk : Type 0
OnlyWalk = (view : View) (root : LongAd) (walks others : List Walked) → IsWalk view root walks → IsWalk view root others → walks ≡ others

-- where a walk has at most `count` ends, no more than `count` routes lead anywhere
abbrev pub NoMoreRoutes : Type 0
NoMoreRoutes = (view : View) (root : LongAd) (walks : List Walked) (count : ℕ) → IsWalk view root walks → length walks ≤ count → ¬ HasMoreRoutes view root count

-- and where it has more ends, more routes do
abbrev pub MoreRoutes : Type 0
MoreRoutes = (view : View) (root : LongAd) (walks : List Walked) (count : ℕ) → IsWalk view root walks → count < length walks → HasMoreRoutes view root count

-- a route occurs once among routes that are in order
abbrev pub RoutesStandOnce : Type 0
RoutesStandOnce = (routes : List Route) (i j : ℕ) (route : Route) → IsInOrder routes → slice_get routes i ≡ Some route → slice_get routes j ≡ Some route → i ≡ j

-- the node is whole, or torn and of known size: its entry is read, and its body has no fault
abbrev pub HasBody : Standing → Option ℕ → Type 0
HasBody Whole size = ⊤
HasBody (Torn torn) None = ⊥
HasBody (Torn torn) (Some size) = ⊤
HasBody Loop size = ⊥
HasBody (Fault f) size = ⊥

-- a listed node with a body has the address at the end of the route with the same index, and the body there has cells
abbrev pub NodeCells : Type 0
NodeCells = (view : View) (root : LongAd) (nodes : List NodeFields) (are : AreNodes view root nodes) (index : ℕ) (n : NodeFields)
    → slice_get nodes index ≡ Some n → HasBody n.standing n.size
    → (end : Walked) × (slice_get are.walks index ≡ Some end) × (n.icb ≡ end.address) × ((cs : List Cell) × HasCells view end.address cs)

-- each part of the path of a node, in its escaped form, is a valid path component
abbrev pub PathsHaveParts : Type 0
PathsHaveParts = (view : View) (root : LongAd) (nodes : List NodeFields) → AreNodes view root nodes → (n : NodeFields) → Contains nodes n
    → (part : List ℕ) → Contains n.path part → IsPathPart (escaped part)
