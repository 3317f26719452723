-- What is kept of entries, each by the number of its information control block.
--     word_of standing, standing_of word     a standing without its blocks and holes, as a `Word` and back
--     known_of profile kind body             what is kept of an entry of this kind with this body
--     known_standing is_deep known           the standing that is kept
--     HasWords view memo                     what is known of each entry is what its body says
--     IsMemo view memo                       and what is kept of what it lists is all of it
use Rattle.std.specs.Prelude.{◌≡◌, ℕ, ◌<◌, Bool, true, false, ◌&&◌, List, length, nat_lt, Some}
use Rattle.std.specs.BTreeMap.{BTreeMap, get}
use Rattle.std.specs.Ordering.{nat_cmp}
use Rattle.udfs_tag.specs.Fields.{number_of}
use Rattle.udfs_space.specs.Places.{View}
use Rattle.udfs_volume.specs.declared.profiles.Profile.{Profile}
use Rattle.udfs_file.specs.Bodies.{Body, body}
use Rattle.udfs_file.specs.Entries.{entry_of}
use Rattle.udfs_file.specs.Stretches.{IsStanding}
use Rattle.udfs_file.specs.declared.faults.Kind.{Kind}
use Rattle.udfs_file.specs.declared.faults.NodeFault.TheVariants.{Depth}
use Rattle.udfs_walk.specs.Bare.{no_lists}
use Rattle.udfs_walk.specs.Routes.{kind_entries}
use Rattle.udfs_walk.specs.Standings.{body_standing}
use Rattle.udfs_walk.specs.Targets.{Icb}
use Rattle.udfs_walk.specs.Visits.{AreListed}
use Rattle.udfs_walk.specs.declared.memos.Kept.{Kept}
use Rattle.udfs_walk.specs.declared.memos.Known.{Known}
use Rattle.udfs_walk.specs.declared.memos.Memo.{Memo}
use Rattle.udfs_walk.specs.declared.memos.Word.{Word}
use Rattle.udfs_walk.specs.declared.memos.Word.TheVariants as word
use Rattle.udfs_walk.specs.declared.standings.Standing.{Standing}
use Rattle.udfs_walk.specs.declared.standings.Standing.TheVariants.{Whole, Torn, Loop, Fault}

-- a standing as a `Word`, without its blocks and holes
abbrev pub word_of : Standing → Word
word_of Whole = word.Whole
word_of (Torn torn) = word.Torn
word_of Loop = word.Loop
word_of (Fault f) = word.Fault f

-- the standing of a `Word`, without blocks and holes
abbrev pub standing_of : Word → Standing
standing_of word.Whole = Whole
standing_of word.Torn = Torn no_lists
standing_of word.Loop = Loop
standing_of (word.Fault f) = Fault f

-- the `Word` of a directory with entries; one too deep to be entered has the fault Depth, unless it has another
abbrev pub deep_word : Bool → Word → Word
deep_word true word.Whole = word.Fault Depth
deep_word true word.Torn = word.Fault Depth
deep_word true word.Loop = word.Fault Depth
deep_word true (word.Fault f) = word.Fault f
deep_word false w = w

-- how whole an entry of this kind with this body is, and whether it lists entries
abbrev pub known_of : Profile → Kind → Body → Known
known_of profile kind b = record { word = word_of (body_standing profile kind false b); lists = nat_lt 0 (length (kind_entries profile kind b)) }

-- the standing that is kept, where the entry is no loop
abbrev pub known_standing : Bool → Known → Standing
known_standing is_deep known = standing_of (deep_word (is_deep && known.lists) known.word)

-- what is kept by the number of an ICB is so for the bytes that are known there
abbrev pub AreKept : {X : Type 0} → View → (Icb → List ℕ → X → Type 0) → BTreeMap ℕ X → Type 0
AreKept view IsSo kept = (icb : Icb) (bytes : List ℕ) (x : _) → icb.block < 4294967296 → IsStanding view icb.reference icb.block bytes
    → get nat_cmp kept (number_of icb) ≡ Some x → IsSo icb bytes x

-- what is known is what the body says of the entry there
abbrev pub IsWordOf : View → Icb → List ℕ → Kept → Type 0
IsWordOf view icb bytes kept = kept.known ≡ known_of view.profile (entry_of bytes).kind (body view icb.reference icb.block (entry_of bytes))

-- and what is kept of what the entry there lists is all of it
abbrev pub IsToldOf : View → Icb → List ℕ → Kept → Type 0
IsToldOf view icb bytes kept = IsWordOf view icb bytes kept × AreListed kept.entries (kind_entries view.profile (entry_of bytes).kind (body view icb.reference icb.block (entry_of bytes)))

-- what is known of each entry is what its body says
abbrev pub HasWords : View → Memo → Type 0
HasWords view memo = AreKept view (IsWordOf view) memo.kept

-- and what is kept of what it lists is all of it
abbrev pub IsMemo : View → Memo → Type 0
IsMemo view memo = AreKept view (IsToldOf view) memo.kept
