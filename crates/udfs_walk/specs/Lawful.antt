-- What is asked of the tree of a complete view.
--     AreWhole all root         whatever a route leads to is whole
--     AreDistinct all root      the names of each directory differ
--     IsLawfulTree all root     both, and at most 65,536 routes
use Rattle.std.specs.Prelude.{◌≡◌, ◌≢◌, AllPairs, Some}
use Rattle.udfs_tag.specs.declared.layouts.LongAd.{LongAd}
use Rattle.udfs_space.specs.Places.{View}
use Rattle.udfs_walk.specs.Routes.{Route, Walked, walked, entries_below, HasMoreRoutes}
use Rattle.udfs_walk.specs.Nodes.{node}
use Rattle.udfs_walk.specs.declared.standings.Standing.TheVariants.{Whole}

-- whatever a route leads to is whole: it has no fault, is no loop, and all of it is there
abbrev pub AreWhole : View → LongAd → Type 0
AreWhole all root = (route : Route) (w : Walked) → walked all root route ≡ Some w → (node all w).standing ≡ Whole

-- the names of each directory differ
abbrev pub AreDistinct : View → LongAd → Type 0
AreDistinct all root = (route : Route) (w : Walked) → walked all root route ≡ Some w
    → AllPairs (λ d e. d.name ≢ e.name) (entries_below all w)

-- each node is whole, the names in each directory differ, and at most 65,536 routes lead anywhere
pub record IsLawfulTree (all : View) (root : LongAd) : Type 0 where
  pub nodes : AreWhole all root
  pub distinct : AreDistinct all root
  pub limit : ¬ HasMoreRoutes all root 65536
