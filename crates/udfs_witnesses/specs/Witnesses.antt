-- Known blocks that a new pass is to read once more, so that a pass of another disc shows.
--     named blocks last structures         the blocks that name the volume: its anchors, its descriptors, and these structures
--     spread blocks last                   in each ninth of the disc the first known block whose bytes are not all equal
--     inserted ns rising                   these in their places in a rising list
--     witnesses blocks last structures     those of them that are known, ascending and each once
use Rattle.std.specs.Prelude.{ℕ, zero, suc, ◌+◌, ◌-◌, ◌*◌, ◌/◌, Bool, false, not, List, [], ◌∷◌, ◌++◌, cond, filter, slice_index, nat_le, ◌&&◌, ◌==◌}
use Rattle.std.specs.List.{list_any}
use Rattle.udfs_lattice.specs.States.{State, is_known}
use Rattle.udfs_lattice.specs.Volumes.{Blocks, ascending, insert_once}
use Rattle.udfs_lattice.specs.declared.facts.Fact.TheVariants.{Unknown, Known, Conflict}
use Rattle.udfs_tag.specs.Tags.{is_valid}
use Rattle.udfs_volume.specs.Answers.{Answer, found, holes, faulty}
use Rattle.udfs_volume.specs.Sequence.{anchor, anchor_places}
use Rattle.udfs_volume.specs.declared.anchors.AnchorExtents.{AnchorExtents}

-- the first of `count` numbers from n on that passes a test, as a list of at most one
unfoldable pub first_of : (ℕ → Bool) → ℕ → ℕ → List ℕ
first_of test n zero = []
first_of test n (suc count) = cond (test n) (n ∷ []) (first_of test (n + 1) count)

-- ---- the blocks that name the volume

-- whether a state is that of a known block that is a valid descriptor of this kind at its place
abbrev pub is_descriptor : ℕ → ℕ → State → Bool
is_descriptor identifier n Unknown = false
is_descriptor identifier n (Known bytes) = is_valid bytes n identifier
is_descriptor identifier n Conflict = false

-- of the sixteen blocks from one on the first that is a known, valid descriptor of a kind
abbrev pub descriptor_from : Blocks → ℕ → ℕ → List ℕ
descriptor_from blocks first identifier = first_of (λ n. is_descriptor identifier n (blocks n)) first 16

-- in the main extent, if it begins on the disc, the first primary volume descriptor (1) and the first logical volume descriptor (6)
abbrev pub descriptors_in : Blocks → ℕ → Answer AnchorExtents → List ℕ
descriptors_in blocks last (found e) = cond (nat_le e.main.block last) (descriptor_from blocks e.main.block 1 ++ descriptor_from blocks e.main.block 6) []
descriptors_in blocks last (holes unread) = []
descriptors_in blocks last (faulty fault) = []

-- the places of the anchors, those descriptors, and the structures that are given
abbrev pub named : Blocks → ℕ → List ℕ → List ℕ
named blocks last structures = anchor_places last ++ descriptors_in blocks last (anchor blocks last) ++ structures

-- ---- the others

-- whether one of these bytes is another one than the first
abbrev pub is_mixed : List ℕ → Bool
is_mixed bytes = list_any (λ x. not (x == slice_index bytes 0)) bytes

-- whether a state is that of a known block whose bytes are not all equal
abbrev pub is_telling : State → Bool
is_telling Unknown = false
is_telling (Known bytes) = is_mixed bytes
is_telling Conflict = false

-- where a ninth of the disc begins
abbrev pub ninth : ℕ → ℕ → ℕ
ninth last i = i * (last + 1) / 9

-- the first such block in a ninth of the disc
abbrev pub telling_in : Blocks → ℕ → ℕ → List ℕ
telling_in blocks last i = first_of (λ n. is_telling (blocks n)) (ninth last i) (ninth last (i + 1) - ninth last i)

-- those of `count` ninths from one on
unfoldable pub telling_from : Blocks → ℕ → ℕ → ℕ → List ℕ
telling_from blocks last i zero = []
telling_from blocks last i (suc count) = telling_in blocks last i ++ telling_from blocks last (i + 1) count

-- those of all ninths
abbrev pub spread : Blocks → ℕ → List ℕ
spread blocks last = telling_from blocks last 0 9

-- ---- all of them

-- each of these in its place in a rising list, unless it is there
abbrev pub inserted : List ℕ → List ℕ → List ℕ
inserted [] rising = rising
inserted (n ∷ ns) rising = insert_once n (inserted ns rising)

-- whether a block is one of the disc and is known
abbrev pub is_witness : Blocks → ℕ → ℕ → Bool
is_witness blocks last n = nat_le n last && is_known (blocks n)

-- those that are known, ascending and each once
unfoldable pub witnesses : Blocks → ℕ → List ℕ → List ℕ
witnesses blocks last structures = ascending (filter (is_witness blocks last) (named blocks last structures ++ spread blocks last))
