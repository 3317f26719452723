-- Anchors (ECMA-167 3/10.2) and volume descriptor sequences (3/8.4).
--     anchor blocks last                the extents of the first anchor that is known and valid
--     position blocks main reserve      one position of a sequence, in two copies
--     sequence_by profile blocks last   the descriptors before the end, by the rules of a profile
--     reserve_sequence_by profile blocks last   the same with the roles of both extents exchanged
--     sequence blocks last              the same by the strict rules
use Rattle.std.specs.Prelude.{ℕ, ◌+◌, ◌-◌, ◌/◌, ◌%◌, Bool, false, not, List, [], ◌∷◌, length, drop, map, cond, nat_eq, nat_le, ◌&&◌, ◌||◌, Option, Some, None, take_while, slice_get}
use Rattle.std.specs.List.{range_with_len}
use Rattle.udfs_lattice.specs.Volumes.{Blocks, first_known, not_known, ascending}
use Rattle.udfs_lattice.specs.States.{State}
use Rattle.udfs_lattice.specs.declared.facts.Fact.TheVariants.{Unknown, Known, Conflict}
use Rattle.udfs_tag.specs.declared.layouts.ExtentAd.{ExtentAd}
use Rattle.udfs_volume.specs.declared.anchors.AnchorExtents.{AnchorExtents}
use Rattle.udfs_volume.specs.declared.profiles.Profile.{Profile}
use Rattle.udfs_volume.specs.declared.profiles.Profile.TheVariants.{Strict, Wide}
use Rattle.udfs_tag.specs.Fields.{extent_ad_at, part}
use Rattle.udfs_tag.specs.Faults.{is_within}
use Rattle.udfs_tag.specs.Tags.{is_valid, is_sound, identifier}
use Rattle.udfs_volume.specs.Answers.{Answer, found, holes, faulty, and_then}
use Rattle.udfs_volume.specs.declared.faults.VolumeFault.TheVariants.{NoAnchor, Extents, Pointer}

-- a list of bytes
abbrev pub Bytes : Type 0
Bytes = List ℕ

-- the places where an anchor may be (3/8.4.2.1, UDF 2.2.3)
abbrev pub anchor_places : ℕ → List ℕ
anchor_places last = 256 ∷ (last - 256) ∷ last ∷ []

-- the main and the reserve extent that an anchor names in its bytes 16 to 31 (ECMA-167 3/10.2)
abbrev pub extents_of : Bytes → AnchorExtents
extents_of bytes = let extents = part bytes 16 16 in record { main = extent_ad_at extents 0; reserve = extent_ad_at extents 8 }

-- the anchor at a place, if the block is known and valid
abbrev pub anchor_here : ℕ → State → Option Bytes
anchor_here place Unknown = None
anchor_here place (Known bytes) = cond (is_valid bytes place 2) (Some bytes) None
anchor_here place Conflict = None

-- the first of two that is there
abbrev pub or_else : {A : Type 0} → Option A → Option A → Option A
or_else None later = later
or_else (Some x) later = Some x

-- the first of these places that is known, and valid there as an anchor
abbrev pub first_anchor : Blocks → List ℕ → Option Bytes
first_anchor blocks [] = None
first_anchor blocks (n ∷ ns) = or_else (anchor_here n (blocks n)) (first_anchor blocks ns)

-- the extents of an anchor; without one, the places that are not known have to be read, and if all are known the fault is `NoAnchor`
abbrev pub anchor_or : Option Bytes → List ℕ → Answer AnchorExtents
anchor_or (Some bytes) unread = found (extents_of bytes)
anchor_or None [] = faulty NoAnchor
anchor_or None (n ∷ ns) = holes (n ∷ ns)

-- the extents of the first known and valid anchor, or the anchor places to read first, or the fault `NoAnchor`
unfoldable pub anchor : Blocks → ℕ → Answer AnchorExtents
anchor blocks last = anchor_or (first_anchor blocks (anchor_places last)) (not_known blocks (anchor_places last))

-- whether an extent ends at the last block or before it
abbrev pub fits_to : ℕ → ExtentAd → Bool
fits_to last e = nat_le (e.block + e.length / 2048) (last + 1)

-- whether both extents have one length of whole blocks, from 16 to 256 of them, and none passes the last block (this
-- project's own rule; UDF 2.2.3.1 requires at least 16)
abbrev pub are_extents : ℕ → AnchorExtents → Bool
are_extents last e = nat_eq e.main.length e.reserve.length && nat_eq (e.main.length % 2048) 0
    && is_within 32768 524288 e.main.length && fits_to last e.main && fits_to last e.reserve

-- whether an extent has 1 to 256 whole blocks, and ends at the last block or before it
abbrev pub is_extent : ℕ → ExtentAd → Bool
is_extent last e = nat_eq (e.length % 2048) 0 && is_within 2048 524288 e.length && fits_to last e

-- whether the extents are taken: by the wide rules each may have a length of its own, from 1 block on
abbrev pub are_extents_by : Profile → ℕ → AnchorExtents → Bool
are_extents_by Strict last e = are_extents last e
are_extents_by Wide last e = is_extent last e.main && is_extent last e.reserve

-- the length of the shorter extent
abbrev pub shorter : AnchorExtents → ℕ
shorter e = cond (nat_le e.main.length e.reserve.length) e.main.length e.reserve.length

-- both extents as far as the shorter one goes; where they have one length, as by the strict rules, these are the extents themselves
abbrev pub shared : AnchorExtents → AnchorExtents
shared e = record { main = record { length = shorter e; block = e.main.block }; reserve = record { length = shorter e; block = e.reserve.block } }

-- A descriptor of a sequence: its identifier, and its bytes from byte position 16 on.
pub record Descriptor : Type 0 where
  pub identifier : ℕ
  pub content : Bytes

-- What is at a position: neither copy is known, or the first known copy is no sound descriptor at its block, or
-- it is one.
pub data Position : Type 0 where
  unread : List ℕ → Position
  invalid : Position
  descriptor : Descriptor → Position

-- a position of the descriptor sequence: unread, a sound descriptor, or invalid
abbrev pub position_of : List ℕ → Option (ℕ × Bytes) → Position
position_of copies None = unread (ascending copies)
position_of copies (Some known) = cond (is_sound known.1 known.0)
    (descriptor (record { identifier = identifier known.1; content = drop 16 known.1 })) invalid

-- a position of the sequence, by the first of its two copies that is known
unfoldable pub position : Blocks → ℕ → ℕ → Position
position blocks main reserve = position_of (main ∷ reserve ∷ []) (first_known blocks (main ∷ reserve ∷ []))

-- the positions of the descriptor sequence, each with its two copies
abbrev pub positions : Blocks → AnchorExtents → List Position
positions blocks e =
    map (λ i. position blocks (e.main.block + i) (e.reserve.block + i)) (range_with_len 0 (e.main.length / 2048))

-- whether the sequence goes on after a position: it ends at what is unread or invalid, at 8 (terminating) and at 3 (a pointer)
abbrev pub goes_on : Position → Bool
goes_on (unread copies) = false
goes_on invalid = false
goes_on (descriptor d) = not (nat_eq d.identifier 8 || nat_eq d.identifier 3)

-- a position's descriptor, if it has one, before others
abbrev pub cons_descriptor : Position → List Descriptor → List Descriptor
cons_descriptor (unread copies) ds = ds
cons_descriptor invalid ds = ds
cons_descriptor (descriptor d) ds = d ∷ ds

-- the descriptors of some positions
abbrev pub descriptors : List Position → List Descriptor
descriptors [] = []
descriptors (p ∷ ps) = cons_descriptor p (descriptors ps)

-- what the descriptors before a stop give, at that stop or at the end of the extent
abbrev pub ended_by : Option Position → List Descriptor → Answer (List Descriptor)
ended_by None ds = found ds
ended_by (Some (unread copies)) ds = holes copies
ended_by (Some invalid) ds = found ds
ended_by (Some (descriptor d)) ds = cond (nat_eq d.identifier 3) (faulty Pointer) (found ds)

-- the descriptors up to the end of the sequence, or the copies to read first, or a fault
abbrev pub read_positions : List Position → Answer (List Descriptor)
read_positions all = let front = take_while goes_on all in ended_by (slice_get all (length front)) (descriptors front)

-- the descriptor sequence in an anchor's extents, as long as the shorter one
abbrev pub sequence_at : Profile → Blocks → ℕ → AnchorExtents → Answer (List Descriptor)
sequence_at profile blocks last e = cond (are_extents_by profile last e) (read_positions (positions blocks (shared e))) (faulty Extents)

-- the descriptor sequence of a volume, by the rules of a profile
unfoldable pub sequence_by : Profile → Blocks → ℕ → Answer (List Descriptor)
sequence_by profile blocks last = and_then (anchor blocks last) (sequence_at profile blocks last)

-- the extents with their roles exchanged
abbrev pub exchanged : AnchorExtents → AnchorExtents
exchanged e = record { main = e.reserve; reserve = e.main }

-- the descriptor sequence with the roles of the extents exchanged: at each position the reserve copy is read where it is known, else the main one
unfoldable pub reserve_sequence_by : Profile → Blocks → ℕ → Answer (List Descriptor)
reserve_sequence_by profile blocks last = and_then (anchor blocks last) (λ e. sequence_at profile blocks last (exchanged e))

-- the same as `sequence_by` by the strict rules
abbrev pub sequence : Blocks → ℕ → Answer (List Descriptor)
sequence = sequence_by Strict
