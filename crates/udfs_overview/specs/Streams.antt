-- Files with named streams, which are ignored.
--     names_streams bytes           the entry in these bytes has a stream directory
--     has_streams view node         the node is a file, whole or torn, whose entry has one
--     entry_has_streams view entry  the same of an entry that no name leads to
--     stream_count blocks report    how many nodes and entries of a report these are
--     streams_line count            the line that gives this number
use Rattle.std.specs.Prelude.{ℕ, ◌+◌, ◌==◌, ◌&&◌, ◌||◌, Bool, false, List, [], ◌++◌, nat_lt, count_by, codes, Option, Some, None, if◌then◌else◌}
use Rattle.udfs_lattice.specs.States.{State}
use Rattle.udfs_lattice.specs.Volumes.{Blocks}
use Rattle.udfs_lattice.specs.declared.facts.Fact.TheVariants.{Unknown, Known, Conflict}
use Rattle.udfs_tag.specs.Fields.{long_ad_at}
use Rattle.udfs_tag.specs.Tags.{identifier}
use Rattle.udfs_volume.specs.Answers.{Answer, found, holes, faulty}
use Rattle.udfs_space.specs.Places.{View, block_at, view}
use Rattle.udfs_file.specs.declared.faults.Kind.{Kind}
use Rattle.udfs_walk.specs.NodeFields.{NodeFields}
use Rattle.udfs_walk.specs.declared.answers.Unnamed.{Unnamed}
use Rattle.udfs_walk.specs.declared.standings.Standing.{Standing}
use Rattle.udfs_salvage.specs.Found.{Found}
use Rattle.udfs_salvage.specs.Reports.{Report}
use Rattle.udfs_overview.specs.Sentences.{counted}
use Rattle.udfs_overview.specs.Tallies.{is_of}
use Rattle.udfs_overview.specs.declared.tallies.NodeSort.TheVariants as sort

-- an extended file entry whose stream directory's address, at byte 152, has a length (ECMA-167 4/14.17)
abbrev pub names_streams : List ℕ → Bool
names_streams bytes = (identifier bytes == 266) && nat_lt 0 (long_ad_at bytes 152).length

-- the same of what is known of a block
abbrev pub state_names_streams : State → Bool
state_names_streams Unknown = false
state_names_streams (Known bytes) = names_streams bytes
state_names_streams Conflict = false

-- the same of a block, if there is one
abbrev pub block_names_streams : Option (ℕ × State) → Bool
block_names_streams None = false
block_names_streams (Some block) = state_names_streams block.1

-- a file, whole or torn: its entry was read, and is a sound one
abbrev pub is_read_file : Standing → Kind → Bool
is_read_file s k = is_of sort.WholeFile s k || is_of sort.TornFile s k

-- a file by its name, whose entry has a stream directory
abbrev pub has_streams : View → NodeFields → Bool
has_streams view n = is_read_file n.standing n.kind && block_names_streams (block_at view n.icb.reference n.icb.block)

-- a file that no name leads to, whose entry has a stream directory
abbrev pub entry_has_streams : View → Unnamed → Bool
entry_has_streams view u = is_read_file u.standing u.kind && block_names_streams (block_at view u.reference u.block)

-- how many these are: each name of a file counts, as in all of the summary
abbrev pub streams_in : View → List NodeFields → List Unnamed → ℕ
streams_in view nodes entries = count_by (has_streams view) nodes + count_by (entry_has_streams view) entries

-- how many they are by what a volume is: one that does not open has none
abbrev pub streams_by : Blocks → Answer Found → List NodeFields → List Unnamed → ℕ
streams_by blocks (found f) nodes entries = streams_in (view blocks f.space) nodes entries
streams_by blocks (holes listed) nodes entries = 0
streams_by blocks (faulty fault) nodes entries = 0

-- how many they are in a report
unfoldable pub stream_count : Blocks → Report → ℕ
stream_count blocks r = streams_by blocks r.volume r.nodes r.unnamed

-- the line of several such files
abbrev pub many_streams_line : ℕ → List ℕ
many_streams_line n = codes "Streams    " ++ counted n (codes " files with named streams, which are ignored\n")

-- the line of one such file, or of several
abbrev pub some_streams_line : ℕ → List ℕ
some_streams_line n = if n == 1 then codes "Streams    1 file with named streams, which are ignored\n" else many_streams_line n

-- the line of these files, if there are any
abbrev pub streams_line : ℕ → List ℕ
streams_line n = if n == 0 then [] else some_streams_line n
