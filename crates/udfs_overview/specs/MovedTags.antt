-- Folders in which tags name another place than the block in which they are: by the wide rules these are read all the same.
--     is_moved view node          the node is such a folder
--     moved_count blocks report   how many nodes of a report these are
--     moved_line count            the line that gives this number
use Rattle.std.specs.Prelude.{ℕ, ◌==◌, ◌&&◌, Bool, false, true, List, [], ◌++◌, count_by, codes, if◌then◌else◌}
use Rattle.udfs_lattice.specs.Volumes.{Blocks}
use Rattle.udfs_tag.specs.declared.layouts.LongAd.{LongAd}
use Rattle.udfs_volume.specs.Answers.{Answer, found, holes, faulty}
use Rattle.udfs_volume.specs.declared.profiles.Profile.{Profile}
use Rattle.udfs_volume.specs.declared.profiles.Profile.TheVariants.{Strict, Wide}
use Rattle.udfs_space.specs.Places.{View, view}
use Rattle.udfs_file.specs.Bodies.{Body, body, cells, faulty_body}
use Rattle.udfs_file.specs.Fronts.{has_moved_tags}
use Rattle.udfs_file.specs.declared.faults.Kind.{Kind}
use Rattle.udfs_file.specs.declared.faults.Kind.TheVariants as kind
use Rattle.udfs_walk.specs.NodeFields.{NodeFields}
use Rattle.udfs_walk.specs.Targets.{Target, bad, unread, entry, target}
use Rattle.udfs_walk.specs.declared.standings.Standing.{Standing}
use Rattle.udfs_walk.specs.declared.standings.Standing.TheVariants as standing
use Rattle.udfs_salvage.specs.Found.{Found}
use Rattle.udfs_salvage.specs.Reports.{Report}
use Rattle.udfs_overview.specs.Sentences.{counted}

-- a folder
abbrev pub is_directory : Kind → Bool
is_directory kind.Directory = true
is_directory _ = false

-- a folder that is not inside itself
abbrev pub is_folder : Standing → Kind → Bool
is_folder standing.Loop k = false
is_folder _ k = is_directory k

-- some tag in a body names another place
abbrev pub body_moved : Body → Bool
body_moved (cells cs) = has_moved_tags cs
body_moved (faulty_body f) = false

-- the same of the body of what an address leads to
abbrev pub target_moved : View → LongAd → Target → Bool
target_moved view a (bad f) = false
target_moved view a (unread n) = false
target_moved view a (entry e) = body_moved (body view a.reference a.block e)

-- a folder that is read by these rules though it has such a tag: the strict ones end it there
abbrev pub is_moved_by : Profile → View → NodeFields → Bool
is_moved_by Strict view n = false
is_moved_by Wide view n = is_folder n.standing n.kind && target_moved view n.icb (target view n.icb)

-- the same by the rules of the view
abbrev pub is_moved : View → NodeFields → Bool
is_moved view n = is_moved_by view.profile view n

-- how many these are by what a volume is: one that does not open has none
abbrev pub moved_by : Blocks → Answer Found → List NodeFields → ℕ
moved_by blocks (found f) nodes = count_by (is_moved (view blocks f.space)) nodes
moved_by blocks (holes listed) nodes = 0
moved_by blocks (faulty fault) nodes = 0

-- how many they are in a report
unfoldable pub moved_count : Blocks → Report → ℕ
moved_count blocks r = moved_by blocks r.volume r.nodes

-- the line of several such folders
abbrev pub many_moved_line : ℕ → List ℕ
many_moved_line n = codes "Tags       " ++ counted n (codes " folders have tags that name another place\n")

-- the line of one such folder, or of several
abbrev pub some_moved_line : ℕ → List ℕ
some_moved_line n = if n == 1 then codes "Tags       1 folder has tags that name another place\n" else many_moved_line n

-- the line of these folders, if there are any
abbrev pub moved_line : ℕ → List ℕ
moved_line n = if n == 0 then [] else some_moved_line n
