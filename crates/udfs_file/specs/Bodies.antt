-- The body of an entry (ECMA-167 4/14.5, 4/14.14): its allocation descriptors, and the cells that they give.
--     chain tail view form r left area  all allocation descriptors, area after area
--     used size ds                      those that are taken, each with its first cell
--     in_whole_blocks d                 the last extent of a list, where its tail is taken
--     body view r b entry               the cells, or the fault
use Rattle.std.specs.Prelude.{◌≡◌, ℕ, zero, suc, ◌+◌, ◌-◌, ◌*◌, ◌/◌, ◌%◌, ◌<◌, ◌≤◌, min, Bool, true, false, not, List, [], ◌∷◌, ◌++◌, length, take, map, flat_map, replicate, take_while, slice_get, slice_index, cond, ◌==◌, nat_le, nat_lt, ◌&&◌, ◌||◌, Option, Some, None, is_none, ◌⊎◌, Contains}
use Rattle.std.specs.List.{range_with_len}
use Rattle.udfs_lattice.specs.States.{State}
use Rattle.udfs_lattice.specs.declared.facts.Fact.TheVariants.{Unknown, Known, Conflict}
use Rattle.udfs_tag.specs.declared.layouts.LongAd.{LongAd}
use Rattle.udfs_tag.specs.declared.layouts.ShortAd.{ShortAd}
use Rattle.udfs_tag.specs.Fields.{uint32_at}
use Rattle.udfs_tag.specs.Fields.{short_ad_at, long_ad_at, part}
use Rattle.udfs_tag.specs.Faults.{first_fault}
use Rattle.udfs_tag.specs.Tags.{is_valid}
use Rattle.udfs_volume.specs.Layout.{blocks_in}
use Rattle.udfs_space.specs.Places.{View, block_at, is_past}
use Rattle.udfs_volume.specs.Profiles.{takes_tail}
use Rattle.udfs_file.specs.Entries.{EntryFields, descriptor_size}
use Rattle.udfs_file.specs.declared.cells.Cell.{Cell}
use Rattle.udfs_file.specs.declared.cells.Cell.TheVariants.{Byte, Gap}
use Rattle.udfs_file.specs.declared.faults.NodeFault.{NodeFault}
use Rattle.udfs_file.specs.declared.faults.NodeFault.TheVariants.{Reference, Range, Short, Chain, Odd}

-- a short descriptor refers to the partition that the entry is in
abbrev pub long_of : ℕ → ShortAd → LongAd
long_of r s = record { kind = s.kind; length = s.length; block = s.block; reference = r }

-- descriptor i of an area
abbrev pub recorded_at : ℕ → ℕ → List ℕ → ℕ → LongAd
recorded_at form r area i = cond (form == 0) (long_of r (short_ad_at area (8 * i))) (long_ad_at area (16 * i))

-- how many descriptors an area has
abbrev pub descriptor_count : ℕ → List ℕ → ℕ
descriptor_count form area = length area / descriptor_size form

-- whether no other extent is after descriptor i of an area: there is no descriptor, or one of length 0
abbrev pub is_last_at : ℕ → ℕ → List ℕ → ℕ → Bool
is_last_at form r area i = nat_le (descriptor_count form area) (i + 1) || ((recorded_at form r area (i + 1)).length == 0)

-- an extent up to the end of its last block
abbrev pub in_whole_blocks : LongAd → LongAd
in_whole_blocks d = record { kind = d.kind; length = cond (d.kind == 3) d.length (2048 * blocks_in d.length); block = d.block; reference = d.reference }

-- descriptor i, as it is counted: where the tail is taken, the last extent goes on to the end of its last block
abbrev pub descriptor_at : Bool → ℕ → ℕ → List ℕ → ℕ → LongAd
descriptor_at tail form r area i = cond (tail && is_last_at form r area i) (in_whole_blocks (recorded_at form r area i)) (recorded_at form r area i)

-- the allocation descriptors in an area
abbrev pub descriptors_in : Bool → ℕ → ℕ → List ℕ → List LongAd
descriptors_in tail form r area = map (descriptor_at tail form r area) (range_with_len 0 (descriptor_count form area))

-- What is after the allocation descriptors of an area: nothing, another area, a block that is not known, or a fault.
pub data Next : Type 0 where
  no_more : Next
  area_at : List ℕ → Next
  unread_at : ℕ → Next
  broken : NodeFault → Next

-- the bytes are an allocation extent descriptor of this form at logical block b (4/14.5)
abbrev pub is_extent : ℕ → ℕ → List ℕ → Bool
is_extent form b bytes =
    is_valid bytes b 258 && nat_le (24 + uint32_at bytes 20) 2048 && (uint32_at bytes 20 % descriptor_size form == 0)

-- the area in block n, if it is known and an allocation extent descriptor at logical block b
abbrev pub next_area : ℕ → ℕ → ℕ → State → Next
next_area form b n Unknown = unread_at n
next_area form b n (Known bytes) = cond (is_extent form b bytes) (area_at (part bytes 24 (uint32_at bytes 20))) (broken Chain)
next_area form b n Conflict = unread_at n

-- what a continuation leads to, by its fault and what is known of its block
abbrev pub next_if : ℕ → ℕ → Option NodeFault → Option (ℕ × State) → Next
next_if form b (Some fault) block = broken fault
next_if form b None None = broken Range
next_if form b None (Some block) = next_area form b block.0 block.1

-- the fault of a continuation before its block is looked at: its reference, its place, then its length or that it is one too many
abbrev pub continuation_fault : View → Bool → LongAd → Option NodeFault
continuation_fault view is_last d = first_fault (
    (nat_le view.partitions d.reference, Reference)
    ∷ (is_none (view.place d.reference d.block), Range)
    ∷ (nat_lt 2048 d.length || is_last, Chain)
    ∷ [])

-- what a descriptor of type 3 leads to
abbrev pub next_by : View → ℕ → Bool → LongAd → Next
next_by view form is_last d = next_if form d.block (continuation_fault view is_last d) (block_at view d.reference d.block)

-- what the first descriptor of type 3 leads to, if there is one
abbrev pub next_of : View → ℕ → Bool → Option LongAd → Next
next_of view form is_last None = no_more
next_of view form is_last (Some d) = next_by view form is_last d

-- All allocation descriptors of an entry, and what is after the last.
pub record Descriptors : Type 0 where
  pub all : List LongAd
  pub behind : Next

-- the descriptors of an area up to the first of type 3, and with it
abbrev pub up_to_next : List LongAd → List LongAd
up_to_next ds = take (length (take_while (λ d. not (d.kind == 3)) ds) + 1) ds

-- the first descriptor of type 3 (ECMA-167 4/14.14.1.1)
abbrev pub next_descriptor : List LongAd → Option LongAd
next_descriptor ds = slice_get ds (length (take_while (λ d. not (d.kind == 3)) ds))

-- the allocation descriptors of an area and of those that it is continued in
abbrev pub joined : List LongAd → Next → (List ℕ → Descriptors) → Descriptors
joined ds no_more later = record { all = ds; behind = no_more }
joined ds (area_at area) later = let rest = later area in record { all = ds ++ rest.all; behind = rest.behind }
joined ds (unread_at n) later = record { all = ds; behind = unread_at n }
joined ds (broken fault) later = record { all = ds; behind = broken fault }

-- no descriptor, and nothing after it
abbrev pub no_descriptors : Descriptors
no_descriptors = record { all = []; behind = no_more }

-- the descriptors of an area and of its continuations, of which there may be this many
abbrev pub chain : Bool → View → ℕ → ℕ → ℕ → List ℕ → Descriptors
chain tail view form r zero area = let ds = descriptors_in tail form r area in
    joined (up_to_next ds) (next_of view form true (next_descriptor ds)) (λ a. no_descriptors)
chain tail view form r (suc left) area = let ds = descriptors_in tail form r area in
    joined (up_to_next ds) (next_of view form false (next_descriptor ds)) (λ a. chain tail view form r left a)

-- the allocation descriptors of an entry, with those of at most 256 continuations
unfoldable pub allocation_descriptors : View → ℕ → EntryFields → Descriptors
allocation_descriptors view r entry = chain (takes_tail view.profile) view entry.form r 256 entry.area

-- how many cells a descriptor covers
abbrev pub covers : LongAd → ℕ
covers d = cond (d.kind == 3) 0 d.length

-- each descriptor with the number of cells that those before it cover
abbrev pub with_start : ℕ → List LongAd → List (ℕ × LongAd)
with_start c [] = []
with_start c (d ∷ ds) = (c, d) ∷ with_start (c + covers d) ds

-- a descriptor is taken if cells are left at it, and its own length is not 0; the first that is not taken
-- ends the list
unfoldable pub used : ℕ → List LongAd → List (ℕ × LongAd)
used size ds = take_while (λ e. nat_lt e.0 size && nat_lt 0 e.1.length) (with_start 0 ds)

-- how many cells of the body lie in a taken extent
abbrev pub cells_in : ℕ → ℕ × LongAd → ℕ
cells_in size e = min (covers e.1) (size - e.0)

-- whether a recorded extent refers to no partition that there is
abbrev pub is_misreferred : View → LongAd → Bool
is_misreferred view d = (d.kind == 0) && nat_le view.partitions d.reference

-- whether one of the blocks that hold the first `count` bytes of a recorded extent has no place
abbrev pub is_misplaced : View → LongAd → ℕ → Bool
is_misplaced view d count = (d.kind == 0) && is_past view.place d.reference d.block (blocks_in count)

-- whether an extent that ends before the body does leaves a block unfilled
abbrev pub is_odd : ℕ → ℕ → LongAd → Bool
is_odd size c d = not (d.kind == 3) && nat_lt (c + d.length) size && not (d.length % 2048 == 0)

-- the first rule that an extent breaks
abbrev pub extent_fault : View → ℕ → ℕ × LongAd → Option NodeFault
extent_fault view size e = first_fault (
    (is_misreferred view e.1, Reference)
    ∷ (is_misplaced view e.1 (cells_in size e), Range)
    ∷ (is_odd size e.0 e.1, Odd)
    ∷ [])

-- byte i of logical block b, which is block n with this state: the byte, or that block n is missing
abbrev pub cell_in : ℕ → ℕ → ℕ → State → Cell
cell_in b n i Unknown = Gap n
cell_in b n i (Known bytes) = Byte (slice_index bytes i) (Some b)
cell_in b n i Conflict = Gap n

-- byte i of logical block b; it would be 0 if the block had no place
abbrev pub cell_at : ℕ → ℕ → Option (ℕ × State) → Cell
cell_at b i None = Byte 0 None
cell_at b i (Some block) = cell_in b block.0 i block.1

-- the cell at offset i from the beginning of logical block b of partition r
abbrev pub recorded_cell : View → ℕ → ℕ → ℕ → Cell
recorded_cell view r b i = cell_at (b + i / 2048) (i % 2048) (block_at view r (b + i / 2048))

-- the cells of an extent: those of consecutive logical blocks, or zeros where nothing is recorded
abbrev pub extent_cells : View → ℕ → ℕ × LongAd → List Cell
extent_cells view size e = cond (e.1.kind == 0)
    (map (recorded_cell view e.1.reference e.1.block) (range_with_len 0 (cells_in size e)))
    (replicate (cells_in size e) (Byte 0 None))

-- the cells of a file's or directory's bytes, or the fault for which it has no body
pub data Body : Type 0 where
  cells : List Cell → Body
  faulty_body : NodeFault → Body

-- the first fault of a list
abbrev pub first_of_all : List (Option NodeFault) → Option NodeFault
first_of_all [] = None
first_of_all (None ∷ faults) = first_of_all faults
first_of_all (Some fault ∷ faults) = Some fault

-- the body whose taken extents have these cells, where more are left after them
abbrev pub ended_body : ℕ → Next → List Cell → Body
ended_body left no_more front = faulty_body Short
ended_body left (area_at area) front = faulty_body Short
ended_body left (unread_at n) front = cells (front ++ replicate left (Gap n))
ended_body left (broken fault) front = faulty_body fault

-- a body, unless there is a fault
abbrev pub body_unless : Option NodeFault → Body → Body
body_unless None b = b
body_unless (Some fault) b = faulty_body fault

-- how many bytes extents cover together
abbrev pub all_covered : List (ℕ × LongAd) → ℕ
all_covered [] = 0
all_covered (e ∷ es) = covers e.1 + all_covered es

-- the body, by case: all cells are covered, or a descriptor of length 0 ends the list, or all allocation descriptors are taken
abbrev pub covered_body : ℕ → List (ℕ × LongAd) → Descriptors → List Cell → Body
covered_body size taken ds front = let covered = all_covered taken in
    cond (nat_le size covered) (cells front)
    (cond (nat_lt (length taken) (length ds.all)) (faulty_body Short) (ended_body (size - covered) ds.behind front))

-- the body that allocation descriptors describe
abbrev pub extents_body : View → ℕ → Descriptors → Body
extents_body view size ds = let taken = used size ds.all in
    body_unless (first_of_all (map (extent_fault view size) taken))
    (covered_body size taken ds (flat_map (extent_cells view size) taken))

-- the body that the descriptors in this area begin, with the tail of the last extent or without it
unfoldable pub listed_body : Bool → View → ℕ → ℕ → ℕ → List ℕ → Body
listed_body tail view form r size area = extents_body view size (chain tail view form r 256 area)

-- a body, or where it has a fault the other one
abbrev pub or_body : Body → Body → Body
or_body (cells cs) other = cells cs
or_body (faulty_body fault) other = other

-- the body with the tail of the last extent, where the view takes it and it gives a body; else without the tail
unfoldable pub extents_body_by : View → ℕ → ℕ → ℕ → List ℕ → Body
extents_body_by view form r size area = cond (takes_tail view.profile) (or_body (listed_body true view form r size area) (listed_body false view form r size area))
    (listed_body false view form r size area)

-- the body that is embedded in its entry (ECMA-167 4/14.6.8)
abbrev pub embedded_body : ℕ → EntryFields → Body
embedded_body b entry = cond (nat_le entry.size (length entry.area))
    (cells (map (λ x. Byte x (Some b)) (take entry.size entry.area))) (faulty_body Short)

-- the body of an entry in logical block b of partition r
unfoldable pub body : View → ℕ → ℕ → EntryFields → Body
body view r b entry = cond (entry.form == 3) (embedded_body b entry)
    (extents_body_by view entry.form r entry.size entry.area)

-- block n holds cell k of the body, in a recorded extent that is taken
pub record IsRecordedFor (view : View) (size : ℕ) (taken : List (ℕ × LongAd)) (k n : ℕ) : Type 0 where
  pub extent : ℕ × LongAd
  pub is_taken : Contains taken extent
  pub is_recorded : extent.1.kind ≡ 0
  pub from : extent.0 ≤ k
  pub to : k < extent.0 + cells_in size extent
  pub place : view.place extent.1.reference (extent.1.block + (k - extent.0) / 2048) ≡ Some n

-- block n holds a continuation of the list of descriptors that comes in it at or before cell k
pub record IsContinuedFor (view : View) (taken : List (ℕ × LongAd)) (k n : ℕ) : Type 0 where
  pub extent : ℕ × LongAd
  pub is_taken : Contains taken extent
  pub continues : extent.1.kind ≡ 3
  pub from : extent.0 ≤ k
  pub place : view.place extent.1.reference extent.1.block ≡ Some n

-- cell k of a body can be read only if block n is known
abbrev pub IsNeededFor : View → ℕ → EntryFields → ℕ → ℕ → Type 0
IsNeededFor view r entry k n = let taken = used entry.size (allocation_descriptors view r entry).all in
    (k < entry.size) × (¬ (entry.form ≡ 3)) × (IsRecordedFor view entry.size taken k n ⊎ IsContinuedFor view taken k n)
