-- The nodes of the sample volumes: the root, and the files A and B below it.
--     at_a, at_b maps         the ends of the routes to them
--     AreNodesIn v maps       all three are whole in a view, the root goes on to A and B, and these go on to nothing
--     AreSampleNodes maps     so it is in the view of the sample
use Rattle.std.specs.Prelude.{◌≡◌, [], ◌∷◌}
use Rattle.udfs_volume.specs.Sample.{Maps}
use Rattle.udfs_space.specs.Places.{View}
use Rattle.udfs_file.specs.Sample.{icb_of_a, icb_of_b, entry_named, sample_root, sample_view}
use Rattle.udfs_walk.specs.Nodes.{node}
use Rattle.udfs_walk.specs.Routes.{Walked, at_root, below, entries_below}
use Rattle.udfs_walk.specs.declared.standings.Standing.TheVariants.{Whole}

-- the sample's root
abbrev pub top : Walked
top = at_root sample_root

-- the sample's file A
abbrev pub at_a : Walked
at_a = below top (entry_named 0x41 icb_of_a)

-- the sample's file B
abbrev pub at_b : Maps → Walked
at_b maps = below top (entry_named 0x42 (icb_of_b maps))

-- the three nodes of a view with the files of a sample, all whole
pub record AreNodesIn (v : View) (maps : Maps) : Type 0 where
  pub whole_root : (node v top).standing ≡ Whole
  pub below_root : entries_below v top ≡ entry_named 0x41 icb_of_a ∷ entry_named 0x42 (icb_of_b maps) ∷ []
  pub whole_a : (node v at_a).standing ≡ Whole
  pub below_a : entries_below v at_a ≡ []
  pub whole_b : (node v (at_b maps)).standing ≡ Whole
  pub below_b : entries_below v (at_b maps) ≡ []

-- those of the sample itself
abbrev pub AreSampleNodes : Maps → Type 0
AreSampleNodes maps = AreNodesIn (sample_view maps) maps

-- so it is in each sample volume
abbrev pub HaveSampleNodes : Type 0
HaveSampleNodes = (maps : Maps) → AreSampleNodes maps
