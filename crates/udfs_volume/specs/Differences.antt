-- Known copies that do not say the same: no lawful volume agrees with the table.
--     anchors_apart blocks last        two places of known anchors that name different extents
--     copies_differ profile blocks last   a known main block and its known reserve block do not say the same of the sequence or of the layout
--     AgreesWithNoLayoutBy             no volume with a lawful layout, by the rules of a profile, agrees with the table
--     AnchorsAgreeBy, CopiesAgreeBy profile   of a lawful layout no known anchors are apart, and no known copies differ
use Rattle.std.specs.Prelude.{◌≡◌, ℕ, ◌+◌, ◌/◌, ◌&&◌, ◌||◌, Bool, false, cond, not, nat_eq, List, drop, Option, Some, None, find, is_none, option_map}
use Rattle.std.specs.List.{list_all, list_any, range_with_len}
use Rattle.std.specs.Str.{bytes_eq}
use Rattle.udfs_lattice.specs.States.{State}
use Rattle.udfs_lattice.specs.declared.facts.Fact.TheVariants.{Unknown, Known, Conflict}
use Rattle.udfs_lattice.specs.Volumes.{Agrees, Blocks, IsVolume, Volume}
use Rattle.udfs_tag.specs.Fields.{part}
use Rattle.udfs_tag.specs.Tags.{is_sound, identifier}
use Rattle.udfs_volume.specs.Answers.{Answer, found, holes, faulty}
use Rattle.udfs_volume.specs.declared.anchors.AnchorExtents.{AnchorExtents}
use Rattle.udfs_volume.specs.declared.profiles.Profile.{Profile}
use Rattle.udfs_volume.specs.Laws.{IsLawfulLayoutBy, is_of_layout}
use Rattle.udfs_volume.specs.Sequence.{Bytes, anchor, anchor_here, anchor_places, are_extents_by, goes_on, position, shared}

-- the bytes 16 to 31 of the anchor at a place, which name the extents, if it is known and valid there (ECMA-167 3/10.2)
abbrev pub named_at : Blocks → ℕ → Option Bytes
named_at blocks n = option_map (λ bytes. part bytes 16 16) (anchor_here n (blocks n))

-- whether there is an anchor at a place
abbrev pub has_anchor : Blocks → ℕ → Bool
has_anchor blocks n = not (is_none (named_at blocks n))

-- whether there are two, and they differ
abbrev pub are_apart : Option Bytes → Option Bytes → Bool
are_apart None other = false
are_apart (Some one) None = false
are_apart (Some one) (Some other) = not (bytes_eq one other)

-- whether there are anchors at two places, and they name different extents
abbrev pub anchors_differ : Blocks → ℕ → ℕ → Bool
anchors_differ blocks n m = are_apart (named_at blocks n) (named_at blocks m)

-- the place n, with the first of these whose anchor names other extents than that at n
abbrev pub apart_from : Blocks → List ℕ → Option ℕ → Option (ℕ × ℕ)
apart_from blocks places None = None
apart_from blocks places (Some n) = option_map (λ m. (n, m)) (find (anchors_differ blocks n) places)

-- the first place of a known valid anchor, and the first one whose anchor names other extents
abbrev pub anchors_apart : Blocks → ℕ → Option (ℕ × ℕ)
anchors_apart blocks last = apart_from blocks (anchor_places last) (find (has_anchor blocks) (anchor_places last))

-- whether two descriptors have one identifier and, where the layout is read from them, the same bytes from 16 on
abbrev pub read_alike : Bytes → Bytes → Bool
read_alike one other = nat_eq (identifier one) (identifier other) && (not (is_of_layout (identifier one)) || bytes_eq (drop 16 one) (drop 16 other))

-- whether two blocks are such descriptors at their places, or neither is a descriptor there
abbrev pub say_the_same : Bytes → ℕ → Bytes → ℕ → Bool
say_the_same one n other m = cond (is_sound one n) (is_sound other m && read_alike one other) (not (is_sound other m))

-- whether they do not say the same
abbrev pub contents_differ : Bytes → ℕ → Bytes → ℕ → Bool
contents_differ one n other m = not (say_the_same one n other m)

-- the same of a block and what is known of another
abbrev pub differs_known : Bytes → ℕ → State → ℕ → Bool
differs_known one n Unknown m = false
differs_known one n (Known other) m = contents_differ one n other m
differs_known one n Conflict m = false

-- the same where both are known
abbrev pub known_differ : State → ℕ → State → ℕ → Bool
known_differ Unknown n other m = false
known_differ (Known one) n other m = differs_known one n other m
known_differ Conflict n other m = false

-- so do the main and the reserve block of position i
abbrev pub differ_at : Blocks → AnchorExtents → ℕ → Bool
differ_at blocks e i = known_differ (blocks (e.main.block + i)) (e.main.block + i) (blocks (e.reserve.block + i)) (e.reserve.block + i)

-- whether the sequence is known to go on through the positions before i
abbrev pub reaches : Blocks → AnchorExtents → ℕ → Bool
reaches blocks e i = list_all (λ j. goes_on (position blocks (e.main.block + j) (e.reserve.block + j))) (range_with_len 0 i)

-- whether the sequence is known to reach a position whose copies differ
abbrev pub differ_in : Blocks → AnchorExtents → Bool
differ_in blocks e = list_any (λ i. reaches blocks e i && differ_at blocks e i) (range_with_len 0 (e.main.length / 2048))

-- the same in the extents of the anchor as far as the shorter one goes, if it is known, and they are taken
abbrev pub differ_by : Profile → Blocks → ℕ → Answer AnchorExtents → Bool
differ_by profile blocks last (found e) = are_extents_by profile last e && differ_in blocks (shared e)
differ_by profile blocks last (holes unread) = false
differ_by profile blocks last (faulty fault) = false

-- whether known copies of a position of the sequence do not say the same: one is a descriptor and the other is none, or they have different identifiers,
-- or they are partition descriptors or logical volume descriptors with different bytes
abbrev pub copies_differ : Profile → Blocks → ℕ → Bool
copies_differ profile blocks last = differ_by profile blocks last (anchor blocks last)

-- no volume whose layout is lawful by these rules agrees with the table
abbrev pub AgreesWithNoLayoutBy : Profile → Blocks → ℕ → Type 0
AgreesWithNoLayoutBy profile blocks last = (volume : Volume) → IsVolume volume last → IsLawfulLayoutBy profile volume last → ¬ Agrees blocks volume last

-- the known anchors of a volume whose layout is lawful name the same extents
abbrev pub AnchorsAgreeBy : Profile → Type 0
AnchorsAgreeBy profile = (blocks : Blocks) (volume : Volume) (last : ℕ) → IsLawfulLayoutBy profile volume last → Agrees blocks volume last
    → anchors_apart blocks last ≡ None

-- the known copies of the sequence of a volume whose layout is lawful do not differ so
abbrev pub CopiesAgreeBy : Profile → Type 0
CopiesAgreeBy profile = (blocks : Blocks) (volume : Volume) (last : ℕ) → IsVolume volume last → IsLawfulLayoutBy profile volume last → Agrees blocks volume last
    → copies_differ profile blocks last ≡ false
