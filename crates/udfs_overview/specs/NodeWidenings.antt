-- Entries that the strict rules refuse, and whose bodies the wide rules read.
--     wider_count rules blocks last nodes   how many nodes these are, where the strict rules were taken
--     wider_line count                      the line that gives this number
use Rattle.std.specs.Prelude.{ℕ, ◌==◌, ◌&&◌, Bool, List, [], ◌++◌, codes, cond, count_by, if◌then◌else◌}
use Rattle.udfs_lattice.specs.Volumes.{Blocks}
use Rattle.udfs_volume.specs.Answers.{Answer, found, holes, faulty}
use Rattle.udfs_volume.specs.declared.profiles.Profile.{Profile}
use Rattle.udfs_volume.specs.declared.profiles.Profile.TheVariants.{Strict, Wide}
use Rattle.udfs_space.specs.Places.{View, view}
use Rattle.udfs_walk.specs.NodeBodies.{has_tail}
use Rattle.udfs_walk.specs.NodeFields.{NodeFields}
use Rattle.udfs_salvage.specs.Found.{Found, volume_by}
use Rattle.udfs_overview.specs.Disagreements.{has_room}
use Rattle.udfs_overview.specs.Sentences.{counted}
use Rattle.udfs_overview.specs.Tallies.{is_faulty}

-- it has a fault, and in this view its body is read by the tail of its last extent
abbrev pub is_wider : View → NodeFields → Bool
is_wider view n = is_faulty n.standing && has_tail view n.icb

-- how many nodes these are in a volume by other rules
abbrev pub wider_in : Blocks → Answer Found → List NodeFields → ℕ
wider_in blocks (found f) nodes = count_by (is_wider (view blocks f.space)) nodes
wider_in blocks (holes unread) nodes = 0
wider_in blocks (faulty fault) nodes = 0

-- how many they are by the wide rules, where the strict ones were taken, of a disc that has room for a volume
unfoldable pub wider_count : Profile → Blocks → ℕ → List NodeFields → ℕ
wider_count Strict blocks last nodes = cond (has_room last) (wider_in blocks (volume_by Wide blocks last) nodes) 0
wider_count Wide blocks last nodes = 0

-- the line of several of these nodes
abbrev pub many_wider_line : ℕ → List ℕ
many_wider_line n = codes "Wide       " ++ counted n (codes " with faults are read by the wide rules: add --profile wide\n")

-- the line of one of them, or of several
abbrev pub some_wider_line : ℕ → List ℕ
some_wider_line n = if n == 1 then codes "Wide       1 with a fault is read by the wide rules: add --profile wide\n" else many_wider_line n

-- the line of these nodes, if there are any
abbrev pub wider_line : ℕ → List ℕ
wider_line n = if n == 0 then [] else some_wider_line n
