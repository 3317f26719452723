-- The figures of a summary as a JSON object. Keys are in byte order.
--     guarantee_data answer                   whether the guarantee holds
--     summary_json rules table last report answer    the object of a report, and a line feed
use Rattle.std.specs.Prelude.{ℕ, ◌+◌, ◌*◌, ◌==◌, ◌&&◌, Bool, not, List, ◌++◌, codes, length}
use Rattle.serde_json.specs.Data.{Data, null, boolean, string, object, Members, member, no_members}
use Rattle.serde_json.specs.Written.{compact_text}
use Rattle.udfs_lattice.specs.Tables.{Table}
use Rattle.udfs_osta.specs.declared.labels.Label.{Label}
use Rattle.udfs_osta.specs.declared.labels.Label.TheVariants as label
use Rattle.udfs_volume.specs.Answers.{Answer, found, holes, faulty}
use Rattle.udfs_volume.specs.FaultNames.{volume_fault_name}
use Rattle.udfs_volume.specs.Layout.{Layout}
use Rattle.udfs_volume.specs.declared.profiles.Profile.{Profile}
use Rattle.udfs_volume.specs.declared.profiles.Profile.TheVariants.{Strict, Wide}
use Rattle.udfs_salvage.specs.Found.{Found}
use Rattle.udfs_salvage.specs.JsonNodes.{count}
use Rattle.udfs_salvage.specs.Reports.{Report}
use Rattle.udfs_salvage.specs.Texts.{revision_text}
use Rattle.udfs_lawfulness.specs.declared.answers.Lawfulness.{Lawfulness}
use Rattle.udfs_lawfulness.specs.declared.answers.Lawfulness.TheVariants as answer
use Rattle.udfs_overview.specs.Guarantees.{guarantee_text}
use Rattle.udfs_overview.specs.SafeNames.{safe_name}
use Rattle.udfs_overview.specs.SummaryFigures.{figures_of}
use Rattle.udfs_overview.specs.declared.disc_tallies.DiscTally.{DiscTally}
use Rattle.udfs_overview.specs.declared.disc_tallies.UnnamedTally.{UnnamedTally}
use Rattle.udfs_overview.specs.declared.lost_tallies.LostTally.{LostTally}
use Rattle.udfs_overview.specs.declared.summary_figures.Figures.{Figures}
use Rattle.udfs_overview.specs.declared.tallies.Tally.{Tally}
use Rattle.udfs_overview.specs.declared.verdicts.Verdict.{Verdict}

-- what is not read may be a whole folder, and a torn folder may lack names: the figures of files and folders are the least that they can be
abbrev pub is_at_least : Tally → Bool
is_at_least t = not (t.unread == 0 && t.torn_folders == 0)

-- the blocks of a disc with this last block
unfoldable pub disc_data : ℕ → DiscTally → Data
disc_data last t = object (
    member (codes "blocks") (count (last + 1))
    (member (codes "conflicts") (count t.conflicts)
    (member (codes "known") (count t.known)
    (member (codes "needed") (count t.needed)
    (member (codes "not_known") (count t.not_known)
    (member (codes "places") (count t.runs)
    no_members))))))

-- the files, and their bytes
unfoldable pub files_data : Tally → Data
files_data t = object (
    member (codes "disputed") (count t.disputed)
    (member (codes "left_out") (count t.left_out)
    (member (codes "lost_bytes") (count t.lost_bytes)
    (member (codes "torn") (count t.torn_files)
    (member (codes "torn_bytes") (count t.torn_bytes)
    (member (codes "whole") (count t.whole_files)
    (member (codes "whole_bytes") (count t.whole_bytes)
    no_members)))))))

-- the folders
unfoldable pub folders_data : Tally → Data
folders_data t = object (member (codes "torn") (count t.torn_folders) (member (codes "whole") (count t.whole_folders) no_members))

-- what has a fault, is a link or a device, is a folder inside itself, or was not read
unfoldable pub others_data : Tally → Data
others_data t = object (
    member (codes "faulty") (count t.faulty)
    (member (codes "links_and_devices") (count t.others)
    (member (codes "loops") (count t.loops)
    (member (codes "unread") (count t.unread)
    no_members))))

-- what is lost, and how many entries were deleted
unfoldable pub lost_data : LostTally → Data
lost_data t = object (
    member (codes "deleted") (count t.deleted)
    (member (codes "files_without_folder") (count t.files)
    (member (codes "folders") (count t.folders)
    (member (codes "too_many") (boolean t.too_many)
    (member (codes "torn") (count t.torn_files)
    (member (codes "whole") (count t.whole_files)
    (member (codes "whole_bytes") (count t.whole_bytes)
    no_members)))))))

-- the whole files that no name leads to
unfoldable pub unnamed_data : UnnamedTally → Data
unnamed_data t = object (member (codes "empty") (count t.empty) (member (codes "with_data") (count t.with_data) no_members))

-- folders with tags of another place, whether sparing copies disagree, and files with named streams
unfoldable pub remarks_data : Figures → Data
remarks_data f = object (
    member (codes "moved_folders") (count f.moved)
    (member (codes "spares_disagree") (boolean f.spares_disagree)
    (member (codes "with_streams") (count f.streams)
    no_members)))

-- the label as a person is shown it; null if it is empty or malformed
abbrev pub label_data : Label → Data
label_data label.Empty = null
label_data (label.Name units) = string (safe_name units)
label_data label.Invalid = null

-- the name of a profile
abbrev pub profile_name : Profile → List ℕ
profile_name Strict = codes "strict"
profile_name Wide = codes "wide"

-- how many blocks that are not known decide whether the volume is lawful
abbrev pub open_count : Lawfulness → ℕ
open_count answer.Lawful = 0
open_count (answer.Unlawful why) = 0
open_count (answer.Open blocks) = length blocks.items

-- whether the guarantee holds, in a word
abbrev pub guarantee_state : Lawfulness → List ℕ
guarantee_state answer.Lawful = codes "holds"
guarantee_state (answer.Unlawful why) = codes "fails"
guarantee_state (answer.Open blocks) = codes "open"

-- whether the guarantee holds
unfoldable pub guarantee_data : Lawfulness → Data
guarantee_data a = object (
    member (codes "not_known") (count (open_count a))
    (member (codes "state") (string (guarantee_state a))
    (member (codes "text") (string (guarantee_text a))
    no_members)))

-- of a volume that opens
unfoldable pub open_data : Figures → Layout → Verdict → Data
open_data f l a = object (
    member (codes "all_whole") (boolean f.all_whole)
    (member (codes "at_least") (boolean (is_at_least f.tally))
    (member (codes "disc") (disc_data f.last f.disc)
    (member (codes "files") (files_data f.tally)
    (member (codes "folders") (folders_data f.tally)
    (member (codes "guarantee") (guarantee_data a.lawfulness)
    (member (codes "label") (label_data l.label)
    (member (codes "lost") (lost_data a.lost)
    (member (codes "others") (others_data f.tally)
    (member (codes "profile") (string (profile_name f.profile))
    (member (codes "remarks") (remarks_data f)
    (member (codes "revision") (string (revision_text l.revision))
    (member (codes "state") (string (codes "ok"))
    (member (codes "unnamed") (unnamed_data f.unnamed)
    no_members))))))))))))))

-- of a volume that lacks blocks before it opens
unfoldable pub holes_data : Figures → Verdict → Data
holes_data f a = object (
    member (codes "disc") (disc_data f.last f.disc)
    (member (codes "guarantee") (guarantee_data a.lawfulness)
    (member (codes "lost") (lost_data a.lost)
    (member (codes "profile") (string (profile_name f.profile))
    (member (codes "state") (string (codes "holes"))
    no_members)))))

-- of a volume with this fault
unfoldable pub fault_data : Figures → List ℕ → Verdict → Data
fault_data f name a = object (
    member (codes "disc") (disc_data f.last f.disc)
    (member (codes "fault") (string name)
    (member (codes "guarantee") (guarantee_data a.lawfulness)
    (member (codes "lost") (lost_data a.lost)
    (member (codes "profile") (string (profile_name f.profile))
    (member (codes "state") (string (codes "fault"))
    no_members))))))

-- by what the volume is: of one that does not open, its files are not counted
abbrev pub summary_data : Answer Found → Figures → Verdict → Data
summary_data (found o) f a = open_data f o.layout a
summary_data (holes blocks) f a = holes_data f a
summary_data (faulty fault) f a = fault_data f (volume_fault_name fault) a

-- the object of a volume with these figures, where this answers whether it is lawful, and what is lost of it, and a line feed
unfoldable pub figures_json : Answer Found → Figures → Verdict → List ℕ
figures_json volume f a = compact_text (summary_data volume f a) ++ codes "\n"

-- the object of a report by the rules of a profile
unfoldable pub summary_json : Profile → Table → ℕ → Report → Verdict → List ℕ
summary_json rules table last r a = figures_json r.volume (figures_of rules table last r) a
