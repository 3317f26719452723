-- The ICBs that nodes name, as code keeps them: each as one number.
--     AreNamed view nodes keys      a block is named exactly if its number is among the keys
use Rattle.std.specs.Prelude.{◌≡◌, ℕ, ◌<◌, List, nat_eq}
use Rattle.std.specs.List.{list_any}
use Rattle.udfs_tag.specs.Fields.{number_of}
use Rattle.udfs_space.specs.Places.{View}
use Rattle.udfs_walk.specs.NodeFields.{NodeFields}
use Rattle.udfs_walk.specs.Targets.{Icb}
use Rattle.udfs_walk.specs.UnnamedEntries.{names}

-- the keys are those of the ICBs that the nodes name
unfoldable pub AreNamed : View → List NodeFields → List ℕ → Type 0
AreNamed view nodes keys = (icb : Icb) → icb.block < 4294967296 → list_any (nat_eq (number_of icb)) keys ≡ list_any (names view icb) nodes
