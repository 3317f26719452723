-- What is counted of nodes.
--     is_of sort standing kind     a node of this standing and kind is of the sort
--     count_of sort nodes          how many nodes are of the sort
--     bytes_of sort nodes          how many bytes they have
--     torn_files blocks nodes      the torn files, each with what it lacks, and whether it is disputed
--     tally_with torn nodes        all that is counted of nodes, of which these are the torn files
--     tally_of blocks nodes        all that is counted of nodes
use Rattle.std.specs.Prelude.{ℕ, ◌+◌, ◌^◌, ◌-◌, ◌&&◌, ◌||◌, Bool, true, false, not, List, cond, count_by, filter_map, sum_by, min, Option, Some, None, is_none, is_some}
use Rattle.std.specs.List.{list_all}
use Rattle.udfs_lattice.specs.States.{is_conflict}
use Rattle.udfs_lattice.specs.Volumes.{Blocks}
use Rattle.udfs_file.specs.declared.faults.Kind.{Kind}
use Rattle.udfs_file.specs.declared.faults.Kind.TheVariants as kind
use Rattle.udfs_walk.specs.NodeFields.{NodeFields}
use Rattle.udfs_walk.specs.declared.standings.Standing.{Standing}
use Rattle.udfs_walk.specs.declared.standings.Standing.TheVariants as standing
use Rattle.udfs_walk.specs.Unsettled.{is_whole}
use Rattle.udfs_salvage.specs.UnnamedExtraction.{is_file}
use Rattle.udfs_overview.specs.LeftOut.{left_out_type}
use Rattle.udfs_overview.specs.NodeLists.{lost_of}
use Rattle.udfs_overview.specs.TornRows.{TornPart}
use Rattle.udfs_overview.specs.declared.tallies.Tally.{Tally}
use Rattle.udfs_overview.specs.declared.tallies.NodeSort.{NodeSort}
use Rattle.udfs_overview.specs.declared.tallies.NodeSort.TheVariants as sort

-- bytes are missing of it
abbrev pub is_torn : Standing → Bool
is_torn standing.Whole = false
is_torn (standing.Torn torn) = true
is_torn standing.Loop = false
is_torn (standing.Fault f) = false

-- it is a directory on its own path
abbrev pub is_loop : Standing → Bool
is_loop standing.Whole = false
is_loop (standing.Torn torn) = false
is_loop standing.Loop = true
is_loop (standing.Fault f) = false

-- it has a fault
abbrev pub is_faulty : Standing → Bool
is_faulty standing.Whole = false
is_faulty (standing.Torn torn) = false
is_faulty standing.Loop = false
is_faulty (standing.Fault f) = true

-- it is a directory
abbrev pub is_folder : Kind → Bool
is_folder kind.Directory = true
is_folder kind.File = false
is_folder kind.Link = false
is_folder (kind.Other t) = false
is_folder kind.Unread = false

-- it was not read
abbrev pub is_unread : Kind → Bool
is_unread kind.Directory = false
is_unread kind.File = false
is_unread kind.Link = false
is_unread (kind.Other t) = false
is_unread kind.Unread = true

-- it is a link, or of another type than directories, files and links
abbrev pub is_other : Kind → Bool
is_other kind.Directory = false
is_other kind.File = false
is_other kind.Link = true
is_other (kind.Other t) = true
is_other kind.Unread = false

-- loops and faults are counted by themselves, whatever their kind
abbrev pub is_of : NodeSort → Standing → Kind → Bool
is_of sort.WholeFile s k = is_whole s && is_file k
is_of sort.TornFile s k = is_torn s && is_file k
is_of sort.Unread s k = (is_whole s || is_torn s) && is_unread k
is_of sort.WholeFolder s k = is_whole s && is_folder k
is_of sort.TornFolder s k = is_torn s && is_folder k
is_of sort.Other s k = (is_whole s || is_torn s) && is_other k
is_of sort.Faulty s k = is_faulty s
is_of sort.Loop s k = is_loop s

-- the node is of the sort
abbrev pub is_node_of : NodeSort → NodeFields → Bool
is_node_of a n = is_of a n.standing n.kind

-- it is a link or a device, or an empty one of another type: not among the files that are left out
abbrev pub is_aside : NodeFields → Bool
is_aside n = is_node_of sort.Other n && is_none (left_out_type n)

-- it is a file of a type that is not written
abbrev pub is_left_out : NodeFields → Bool
is_left_out n = is_some (left_out_type n)

-- how many nodes are of the sort
abbrev pub count_of : NodeSort → List NodeFields → ℕ
count_of a nodes = count_by (is_node_of a) nodes

-- a number, or 0 for `None`
abbrev pub or_zero : Option ℕ → ℕ
or_zero None = 0
or_zero (Some n) = n

-- how many bytes the nodes of the sort have, as far as their sizes are known
abbrev pub bytes_of : NodeSort → List NodeFields → ℕ
bytes_of a nodes = sum_by (λ (n : NodeFields). cond (is_node_of a n) (or_zero n.size) 0) nodes

-- ---- torn files

-- of each of these blocks two readings differ
abbrev pub only_conflicts : Blocks → List ℕ → Bool
only_conflicts blocks missing = list_all (λ n. is_conflict (blocks n)) missing

-- nothing is missing but blocks in conflict: its bytes were read, and which of them are right is not known
abbrev pub is_disputed : Blocks → Standing → Bool
is_disputed blocks standing.Whole = false
is_disputed blocks (standing.Torn torn) = only_conflicts blocks torn.missing
is_disputed blocks standing.Loop = false
is_disputed blocks (standing.Fault f) = false

-- what a node lacks
abbrev pub torn_part : Blocks → NodeFields → TornPart
torn_part blocks n = record { path = n.path; size = or_zero n.size; lost = or_zero (lost_of n.standing n.kind); disputed = is_disputed blocks n.standing }

-- what a torn file lacks
abbrev pub torn_file : Blocks → NodeFields → Option TornPart
torn_file blocks n = cond (is_node_of sort.TornFile n) (Some (torn_part blocks n)) None

-- the torn files, in the order of the nodes
unfoldable pub torn_files : Blocks → List NodeFields → List TornPart
torn_files blocks nodes = filter_map (torn_file blocks) nodes

-- how many of them are disputed
abbrev pub disputed_count : List TornPart → ℕ
disputed_count files = count_by (λ (f : TornPart). f.disputed) files

-- how many are not
abbrev pub damaged_count : List TornPart → ℕ
damaged_count files = count_by (λ (f : TornPart). not f.disputed) files

-- how many bytes those have that are not disputed
abbrev pub damaged_bytes : List TornPart → ℕ
damaged_bytes files = sum_by (λ (f : TornPart). cond f.disputed 0 f.size) files

-- how many of these bytes are lost
abbrev pub damaged_lost : List TornPart → ℕ
damaged_lost files = sum_by (λ (f : TornPart). cond f.disputed 0 f.lost) files

-- the greatest number of 128 bits in place of a greater one
abbrev pub at_most_128_bits : ℕ → ℕ
at_most_128_bits n = min n (2 ^ 128 - 1)

-- ---- all

-- all that is counted of nodes, of which these are the torn files
unfoldable pub tally_with : List TornPart → List NodeFields → Tally
tally_with torn nodes = record {
  whole_files = count_of sort.WholeFile nodes;
  whole_bytes = bytes_of sort.WholeFile nodes;
  torn_files = damaged_count torn;
  torn_bytes = damaged_bytes torn;
  lost_bytes = at_most_128_bits (damaged_lost torn);
  disputed = disputed_count torn;
  unread = count_of sort.Unread nodes;
  whole_folders = count_of sort.WholeFolder nodes;
  torn_folders = count_of sort.TornFolder nodes;
  others = count_by is_aside nodes;
  left_out = count_by is_left_out nodes;
  faulty = count_of sort.Faulty nodes;
  loops = count_of sort.Loop nodes;
}

-- all that is counted of nodes
unfoldable pub tally_of : Blocks → List NodeFields → Tally
tally_of blocks nodes = tally_with (torn_files blocks nodes) nodes

-- how many nodes are counted, of all sorts
abbrev pub node_count : Tally → ℕ
node_count t = t.whole_files + t.torn_files + t.disputed + t.unread + t.whole_folders + t.torn_folders + t.others + t.left_out + t.faulty + t.loops
