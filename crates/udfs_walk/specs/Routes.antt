-- Routes from the root: at each directory the place of an entry among its entries.
--     walked view root route              what is at the end of a route, if it leads anywhere
--     IsBefore, IsInOrder                 lexicographic order: a route comes before those that it begins
--     IsWalk view root walks              all routes in that order
--     HasMoreRoutes view root count       more than `count` routes lead anywhere
use Rattle.std.specs.Prelude.{◌≡◌, ℕ, ◌<◌, bit_and, Bool, false, List, [], ◌∷◌, ◌++◌, length, cond, nat_le, ◌==◌, ◌||◌, ◌⊎◌, Option, Some, None, slice_get, IsSome, ⊤, Contains}
use Rattle.std.specs.List.{list_any, AllZip}
use Rattle.udfs_tag.specs.declared.layouts.LongAd.{LongAd}
use Rattle.udfs_space.specs.Places.{View}
use Rattle.udfs_volume.specs.declared.profiles.Profile.{Profile}
use Rattle.udfs_file.specs.Bodies.{Body, cells, faulty_body, body}
use Rattle.udfs_file.specs.Fronts.{entries_by}
use Rattle.udfs_file.specs.declared.directories.DirEntry.{DirEntry}
use Rattle.udfs_file.specs.declared.faults.Kind.{Kind}
use Rattle.udfs_file.specs.declared.faults.Kind.TheVariants.{Directory}
use Rattle.udfs_walk.specs.Targets.{Target, entry, target, Icb, icb_of, is_icb}

-- The end of a route: the address read there, the names read on the way, the ICBs of the directories on the way,
-- and whether the last name is marked as hidden.
pub record Walked : Type 0 where
  pub address : LongAd
  pub path : List (List ℕ)
  pub above : List Icb
  pub hidden : Bool

-- the walk at its beginning
abbrev pub at_root : LongAd → Walked
at_root root = record { address = root; path = []; above = []; hidden = false }

-- an entry of a directory of this path, below these ICBs
abbrev pub inside : List (List ℕ) → List Icb → DirEntry → Walked
inside path above e = record { address = e.icb; path = path ++ e.name ∷ []; above = above; hidden = bit_and e.marks.0 1 == 1 }

-- one entry further
abbrev pub below : Walked → DirEntry → Walked
below w e = inside w.path (w.above ++ icb_of w.address ∷ []) e

-- whether the ICB is that of a directory on the way
abbrev pub is_loop : Walked → Bool
is_loop w = list_any (is_icb (icb_of w.address)) w.above

-- whether 64 names or more lead here
abbrev pub is_deep : Walked → Bool
is_deep w = nat_le 64 (length w.path)

-- the entries of a directory's body, by these rules; a faulty body has none
abbrev pub entries_in : Profile → Body → List DirEntry
entries_in profile (cells cs) = entries_by profile cs
entries_in profile (faulty_body fault) = []

-- the entries of a directory; a node of another kind has none
abbrev pub kind_entries : Profile → Kind → Body → List DirEntry
kind_entries profile Directory b = entries_in profile b
kind_entries profile _ b = []

-- the entries below what an address leads to
abbrev pub target_entries : View → LongAd → Target → List DirEntry
target_entries view a (entry e) = kind_entries view.profile e.kind (body view a.reference a.block e)
target_entries view a _ = []

-- the entries to which a route goes on: those of a directory that is no loop and has fewer than 64 names above
unfoldable pub entries_below : View → Walked → List DirEntry
entries_below view w = cond (is_loop w || is_deep w) [] (target_entries view w.address (target view w.address))

-- at each directory the place of an entry, counted from 0
abbrev pub Route : Type 0
Route = List ℕ

-- the walk along a route, whose numbers each choose an entry
abbrev pub walk_from : View → Walked → Route → Option Walked
walk_from view w [] = Some w
walk_from view w (j ∷ js) = elim (slice_get (entries_below view w) j) [ None ↦ None | Some e ↦ walk_from view (below w e) js ]

-- what is at the end of a route
unfoldable pub walked : View → LongAd → Route → Option Walked
walked view root route = walk_from view (at_root root) route

-- the first route comes before the second in lexicographic order: it is a shorter beginning of it, or has the smaller number where they first differ
abbrev pub IsBefore : Route → Route → Type 0
IsBefore [] [] = ⊥
IsBefore [] (j ∷ js) = ⊤
IsBefore (i ∷ is) [] = ⊥
IsBefore (i ∷ is) (j ∷ js) = (i < j) ⊎ ((i ≡ j) × IsBefore is js)

-- the routes are in lexicographic order, each once, a directory before what is below it
abbrev pub IsInOrder : List Route → Type 0
IsInOrder [] = ⊤
IsInOrder (r ∷ []) = ⊤
IsInOrder (r ∷ s ∷ rest) = IsBefore r s × IsInOrder (s ∷ rest)

-- all routes that lead anywhere, in order, and what is at the end of each
pub record IsWalk (view : View) (root : LongAd) (walks : List Walked) : Type 0 where
  pub routes : List Route
  pub in_order : IsInOrder routes
  pub all : (route : Route) → IsSome (walked view root route) → Contains routes route
  pub each : AllZip (λ route w. walked view root route ≡ Some w) routes walks

-- more than `count` routes lead anywhere
pub record HasMoreRoutes (view : View) (root : LongAd) (count : ℕ) : Type 0 where
  pub routes : List Route
  pub in_order : IsInOrder routes
  pub lead : (route : Route) → Contains routes route → IsSome (walked view root route)
  pub more : count < length routes
