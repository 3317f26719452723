-- What holds of the layout of a lawful volume of which a part is known.
--     IsLawfulLayoutBy profile volume last      anchors and copies of the sequence that say the same, and no fault
--     IsLayoutOfEqualCopiesBy profile volume last   the same, with copies that are equal in every descriptor
--     IsSequenceGroup                           blocks of which one has to be known: the valid anchors, and each pair
--     LayoutLawBy profile                       the layout is the volume's, or a group is unread
--     MainLayoutBy profile                      it is what the main sequence gives, so that the reserve one is not asked
--     LayoutBounds, FoundBoundsBy profile       a layout that is found lies within the volume
--     StandardLayoutBy profile                  with all known it is that of the first anchor and the main sequence
--     EqualCopiesAreLawfulBy profile            where all copies are equal, the layout is lawful
--     StrictSequence                            by the strict rules the extents have one length
--     AscendingRises                            what is listed ascending rises
-- IsLawfulLayout, LayoutLaw, FoundBounds, StandardLayout and EqualCopiesAreLawful are these by the strict rules.
use Rattle.std.specs.Prelude.{◌≡◌, ◌≢◌, ℕ, ◌+◌, ◌/◌, ◌<◌, ◌≤◌, ◌||◌, Bool, true, false, nat_eq, List, [], ◌∷◌, filter, map, length, drop, ◌⊎◌, ⊤, Some, Contains}
use Rattle.udfs_lattice.specs.Volumes.{Blocks, Volume, IsVolume, Agrees, ascending, complete, IsUnread, IsKnownAt}
use Rattle.udfs_tag.specs.Fields.{part}
use Rattle.udfs_tag.specs.Tags.{is_valid, is_sound, identifier}
use Rattle.udfs_volume.specs.Answers.{Answer, found, holes}
use Rattle.udfs_volume.specs.declared.anchors.AnchorExtents.{AnchorExtents}
use Rattle.udfs_volume.specs.declared.profiles.Profile.{Profile}
use Rattle.udfs_volume.specs.declared.profiles.Profile.TheVariants.{Strict}
use Rattle.udfs_volume.specs.Seen.{IsRising}
use Rattle.udfs_volume.specs.Sequence.{Descriptor, anchor, anchor_places, are_extents, position, goes_on, shared}
use Rattle.udfs_volume.specs.Standard.{standard_anchor, standard_layout_by}
use Rattle.udfs_volume.specs.Layout.{Layout, Partition, PartitionMap, type1, sparable, repeats_kind, blocks_in, layout_by, layout_of, main_layout_by}

-- the anchor places at which the volume has a valid anchor volume descriptor pointer (ECMA-167 3/10.2)
abbrev pub valid_anchors : Volume → ℕ → List ℕ
valid_anchors volume last = filter (λ n. is_valid (volume n) n 2) (anchor_places last)

-- position i is before the one that ends the sequence, or is that one
pub record IsThroughEnd (volume : Volume) (last : ℕ) (e : AnchorExtents) (i : ℕ) : Type 0 where
  pub inside : i < (shared e).main.length / 2048
  pub before : (j : ℕ) → j < i → goes_on (position (complete volume last) (e.main.block + j) (e.reserve.block + j)) ≡ true

-- whether the layout is read from descriptors of this kind: partition descriptors (5) and logical volume descriptors (6; ECMA-167 3/7.2.1)
abbrev pub is_of_layout : ℕ → Bool
is_of_layout id = nat_eq id 5 || nat_eq id 6

-- both are descriptors with the same identifier, or neither is one; those of which the layout is read have the same bytes from 16 on
pub record SaysTheSame (volume : Volume) (main reserve : ℕ) : Type 0 where
  pub soundness : is_sound (volume main) main ≡ is_sound (volume reserve) reserve
  pub identifiers : is_sound (volume main) main ≡ true → identifier (volume main) ≡ identifier (volume reserve)
  pub contents : is_sound (volume main) main ≡ true → is_of_layout (identifier (volume main)) ≡ true → drop 16 (volume main) ≡ drop 16 (volume reserve)

-- a volume has an anchor, its anchors name the same extents, both copies of its descriptor sequence say the same of the layout, and with all known it
-- has one
pub record IsLawfulLayoutBy (profile : Profile) (volume : Volume) (last : ℕ) : Type 0 where
  pub anchored : valid_anchors volume last ≢ []
  pub anchors : (a b : ℕ) → Contains (valid_anchors volume last) a → Contains (valid_anchors volume last) b
      → part (volume a) 16 16 ≡ part (volume b) 16 16
  pub copies : (e : AnchorExtents) (i : ℕ) → anchor (complete volume last) last ≡ found e → IsThroughEnd volume last e i
      → SaysTheSame volume (e.main.block + i) (e.reserve.block + i)
  pub laid_out : (l : Layout) × (layout_by profile (complete volume last) last ≡ found l)

-- the same by the strict rules
abbrev pub IsLawfulLayout : Volume → ℕ → Type 0
IsLawfulLayout = IsLawfulLayoutBy Strict

-- both are descriptors with the same identifier and bytes from 16 on, whatever their kind, or neither is one
pub record AreEqualCopies (volume : Volume) (main reserve : ℕ) : Type 0 where
  pub soundness : is_sound (volume main) main ≡ is_sound (volume reserve) reserve
  pub identifiers : is_sound (volume main) main ≡ true → identifier (volume main) ≡ identifier (volume reserve)
  pub contents : is_sound (volume main) main ≡ true → drop 16 (volume main) ≡ drop 16 (volume reserve)

-- what a lawful layout asks for, and at each position through the one that ends the sequence copies that are equal, also of descriptors from which
-- no layout is read
pub record IsLayoutOfEqualCopiesBy (profile : Profile) (volume : Volume) (last : ℕ) : Type 0 where
  pub anchored : valid_anchors volume last ≢ []
  pub anchors : (a b : ℕ) → Contains (valid_anchors volume last) a → Contains (valid_anchors volume last) b
      → part (volume a) 16 16 ≡ part (volume b) 16 16
  pub copies : (e : AnchorExtents) (i : ℕ) → anchor (complete volume last) last ≡ found e → IsThroughEnd volume last e i
      → AreEqualCopies volume (e.main.block + i) (e.reserve.block + i)
  pub laid_out : (l : Layout) × (layout_by profile (complete volume last) last ≡ found l)

-- where the copies of each position are equal, the layout is lawful
abbrev pub EqualCopiesAreLawfulBy : Profile → Type 0
EqualCopiesAreLawfulBy profile = (volume : Volume) (last : ℕ) → IsLayoutOfEqualCopiesBy profile volume last → IsLawfulLayoutBy profile volume last

-- the same by the strict rules
abbrev pub EqualCopiesAreLawful : Type 0
EqualCopiesAreLawful = EqualCopiesAreLawfulBy Strict

-- the two copies of one position of the sequence, up to the one that ends it
pub record IsPair (volume : Volume) (last : ℕ) (group : List ℕ) : Type 0 where
  pub extents : AnchorExtents
  pub place : ℕ
  pub from : anchor (complete volume last) last ≡ found extents
  pub through : IsThroughEnd volume last extents place
  pub is : group ≡ (extents.main.block + place) ∷ (extents.reserve.block + place) ∷ []

-- a group of blocks of which one is enough: the valid anchors, or both copies of one position of the sequence
abbrev pub IsSequenceGroup : Volume → ℕ → List ℕ → Type 0
IsSequenceGroup volume last group = (group ≡ valid_anchors volume last) ⊎ IsPair volume last group

-- the listed blocks are not known; they hold all of some group of which no block is known; and each is of
-- such a group, or an anchor place while no valid anchor is known
pub record ListsGroup (blocks : Blocks) (anchors places : List ℕ) (IsGroup : List ℕ → Type 0) (listed : List ℕ) : Type 0 where
  pub group : List ℕ
  pub is_group : IsGroup group
  pub unread : IsUnread blocks group
  pub holds : (n : ℕ) → Contains group n → Contains listed n
  pub not_known : IsUnread blocks listed
  pub each : (n : ℕ) → Contains listed n
      → ((g : List ℕ) × IsGroup g × IsUnread blocks g × Contains g n) ⊎ (Contains places n × IsUnread blocks anchors)

-- each group has a known block, and `some` is `all`; or `some` is holes that list a group without a known block
pub data IsAnswerOf {A : Type 0} (blocks : Blocks) (anchors places : List ℕ) (IsGroup : List ℕ → Type 0) (some all : Answer A) : Type 0 where
  the_same : some ≡ all → ((g : List ℕ) → IsGroup g → (n : ℕ) × Contains g n × IsKnownAt blocks n) → IsAnswerOf blocks anchors places IsGroup some all
  unread : (listed : List ℕ) → some ≡ holes listed → ListsGroup blocks anchors places IsGroup listed → IsAnswerOf blocks anchors places IsGroup some all

-- over a table that agrees with a lawful volume the layout is the volume's, or holes hold an unread group
abbrev pub LayoutLawBy : Profile → Type 0
LayoutLawBy profile = (blocks : Blocks) (volume : Volume) (last : ℕ) → IsVolume volume last → IsLawfulLayoutBy profile volume last → Agrees blocks volume last
    → IsAnswerOf blocks (valid_anchors volume last) (anchor_places last) (IsSequenceGroup volume last)
    (layout_by profile blocks last) (layout_by profile (complete volume last) last)

-- the same by the strict rules
abbrev pub LayoutLaw : Type 0
LayoutLaw = LayoutLawBy Strict

-- over such a table the layout is what the main sequence gives: the reserve one is not asked
abbrev pub MainLayoutBy : Profile → Type 0
MainLayoutBy profile = (blocks : Blocks) (volume : Volume) (last : ℕ) → IsVolume volume last → IsLawfulLayoutBy profile volume last → Agrees blocks volume last
    → layout_by profile blocks last ≡ main_layout_by profile blocks last

-- the numbers of a sparable map: blocks in a packet, the size of a table, and tables that lie within the volume
pub record AreBounded (last packet size : ℕ) (tables : List ℕ) : Type 0 where
  pub packet_is : (1 ≤ packet) × (packet ≤ 128)
  pub from : 56 ≤ size
  pub to : size ≤ 65536
  pub one : 1 ≤ length tables
  pub four : length tables ≤ 4
  pub ends : (place : ℕ) → Contains tables place → place + blocks_in size ≤ last + 1

-- a partition map's sparing tables lie within the volume
abbrev pub IsBoundedMap : ℕ → PartitionMap → Type 0
IsBoundedMap last type1 = ⊤
IsBoundedMap last (sparable packet size tables) = AreBounded last packet size tables

-- a partition ends within the volume
pub record IsBoundedPartition (last : ℕ) (p : Partition) : Type 0 where
  pub not_empty : 0 < p.size
  pub ends : p.start + p.size ≤ last + 1
  pub bounded_map : IsBoundedMap last p.kind

-- what a layout satisfies where one is found
pub record IsBounded (last : ℕ) (l : Layout) : Type 0 where
  pub is_last : l.last ≡ last
  pub one : 1 ≤ length l.partitions
  pub two : length l.partitions ≤ 2
  pub of_each : (p : Partition) → Contains l.partitions p → IsBoundedPartition last p
  pub kinds : repeats_kind (map (λ p. p.kind) l.partitions) ≡ false

-- a layout that is found lies within the volume, by whatever rules
abbrev pub LayoutBounds : Type 0
LayoutBounds = (profile : Profile) (last : ℕ) (ds : List Descriptor) (l : Layout) → layout_of profile last ds ≡ found l → IsBounded last l

-- and so does the layout of a table
abbrev pub FoundBoundsBy : Profile → Type 0
FoundBoundsBy profile = (blocks : Blocks) (last : ℕ) (l : Layout) → layout_by profile blocks last ≡ found l → IsBounded last l

-- the same by the strict rules
abbrev pub FoundBounds : Type 0
FoundBounds = FoundBoundsBy Strict

-- with all known, the layout is that of the first anchor and the main sequence
abbrev pub StandardLayoutBy : Profile → Type 0
StandardLayoutBy profile = (volume : Volume) (last : ℕ) → IsVolume volume last → IsLawfulLayoutBy profile volume last
    → (n : ℕ) × (standard_anchor volume last ≡ Some n) × (standard_layout_by profile volume last n ≡ layout_by profile (complete volume last) last)

-- the same by the strict rules
abbrev pub StandardLayout : Type 0
StandardLayout = StandardLayoutBy Strict

-- by the strict rules both extents have one length, so the sequence has all of their blocks
abbrev pub StrictSequence : Type 0
StrictSequence = (last : ℕ) (e : AnchorExtents) → are_extents last e ≡ true → shared e ≡ e

-- the ascending list of some numbers rises strictly
abbrev pub AscendingRises : Type 0
AscendingRises = (ns : List ℕ) → IsRising (ascending ns)
