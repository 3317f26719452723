-- Cells that are told of by what is known of their blocks.
use Rattle.std.proofs.Common.{◌≡◌, sym, ◌∙◌, ap, subst, ℕ, ◌+◌, ◌-◌, ◌*◌, ◌/◌, ◌%◌, ◌<◌, ◌≤◌, List, ◌∷◌, length, take, drop, map, arith, Option, Some, None, replicate}
use Rattle.std.specs.Prelude.{⊤, zero, suc, option_map}
use Rattle.std.specs.List.{range_with_len}
use Rattle.udfs_lattice.specs.States.{State}
use Rattle.udfs_lattice.specs.Stores.{known_as}
use Rattle.udfs_lattice.specs.declared.facts.Fact.{Fact}
use Rattle.udfs_lattice.specs.declared.facts.Fact.TheVariants.{Unknown, Known, Conflict}
use Rattle.udfs_space.specs.Places.{View, block_at}
use Rattle.udfs_file.specs.Bodies.{cell_in, cell_at, recorded_cell}
use Rattle.udfs_file.specs.Knowledge.{AreKnownCells, IsByte, IsKnowledge, IsKnownFirst, knowledge_count}
use Rattle.udfs_file.specs.Stretches.{cells_of, stretch_cells, stretch_count}
use Rattle.udfs_file.specs.declared.cells.Cell.{Cell}
use Rattle.udfs_file.specs.declared.cells.Cell.TheVariants.{Byte, Gap}
use Rattle.udfs_file.specs.declared.knowledge.Knowledge.{Knowledge}
use Rattle.udfs_file.specs.declared.stretches.Stretch.{Stretch}
use Rattle.udfs_file.proofs.CellLemmas.{front_part, left_in}
use Rattle.udfs_file.proofs.PortionCells.{same_block}

-- a block in this state is known
abbrev IsKnownState : State → Type 0
IsKnownState Unknown = ⊥
IsKnownState (Known bytes) = ⊤
IsKnownState Conflict = ⊥

-- there is no block, or it is known
abbrev IsKnownAt : Option (ℕ × State) → Type 0
IsKnownAt None = ⊤
IsKnownAt (Some block) = IsKnownState block.1

-- what is known of a place, without the bytes
abbrev told_at : Option (ℕ × State) → Option (ℕ × Fact (Unit {0}))
told_at o = option_map (λ (block : ℕ × State). (block.0, known_as block.1)) o

-- ---- the cells of one block
byte_in : (b i n : ℕ) (s : State) → IsKnownState s → IsByte (cell_in b n i s)
byte_in b i n Unknown k = absurd k
byte_in b i n (Known bytes) k = tt
byte_in b i n Conflict k = absurd k

byte_at : (b i : ℕ) (o : Option (ℕ × State)) → IsKnownAt o → IsByte (cell_at b i o)
byte_at b i None k = tt
byte_at b i (Some block) k = byte_in b i block.0 block.1 k

known_from : (v : View) (r b q p k : ℕ) → 2048 * q ≤ p → p + k ≤ 2048 * q + 2048 → IsKnownAt (block_at v r (b + q)) → AreKnownCells (map (recorded_cell v r b) (range_with_len p k))
known_from v r b q p zero h m u = tt
known_from v r b q p (suc k) h m u = (
  subst (λ z. IsByte (cell_at (b + z) (p % 2048) (block_at v r (b + z)))) (sym (same_block q p h (omega (arith, m)))) (byte_at (b + q) (p % 2048) (block_at v r (b + q)) u),
  known_from v r b q (p + 1) k (omega (arith, h)) (omega (arith, m)) u,
)

known_cells : (v : View) (r b at k : ℕ) → at % 2048 + k ≤ 2048 → IsKnownAt (block_at v r (b + at / 2048)) → AreKnownCells (map (recorded_cell v r b) (range_with_len at k))
known_cells v r b at k h u = known_from v r b (at / 2048) at k (omega arith) (omega (arith, h)) u

-- what is told is that the block is known, or that there is none
abbrev IsKnownFact : Fact (Unit {0}) → Type 0
IsKnownFact Unknown = ⊥
IsKnownFact (Known bytes) = ⊤
IsKnownFact Conflict = ⊥

abbrev IsToldKnown : Option (ℕ × Fact (Unit {0})) → Type 0
IsToldKnown None = ⊤
IsToldKnown (Some block) = IsKnownFact block.1

state_known : (s : State) → IsKnownFact (known_as s) → IsKnownState s
state_known Unknown k = k
state_known (Known bytes) k = tt
state_known Conflict k = k

known_by : (o : Option (ℕ × State)) → IsToldKnown (told_at o) → IsKnownAt o
known_by None k = tt
known_by (Some block) k = state_known block.1 k

-- a place without a block has zeros
pub no_place : (v : View) (r b at k : ℕ) → at % 2048 + k ≤ 2048 → None ≡ told_at (block_at v r (b + at / 2048)) → AreKnownCells (map (recorded_cell v r b) (range_with_len at k))
no_place v r b at k h e = known_cells v r b at k h (known_by (block_at v r (b + at / 2048)) (subst IsToldKnown e tt))

-- a known block has its bytes
pub known_place : (v : View) (r b at k n : ℕ) → at % 2048 + k ≤ 2048 → Some (n, Known tt) ≡ told_at (block_at v r (b + at / 2048)) → AreKnownCells (map (recorded_cell v r b) (range_with_len at k))
known_place v r b at k n h e = known_cells v r b at k h (known_by (block_at v r (b + at / 2048)) (subst IsToldKnown e tt))

-- zeros are known
zeros_are : (k : ℕ) → AreKnownCells (replicate k (Byte 0 None))
zeros_are zero = tt
zeros_are (suc k) = (tt, zeros_are k)

pub known_zeros : (k : ℕ) (cs : List Cell) → cs ≡ replicate k (Byte 0 None) → AreKnownCells cs
known_zeros k cs e = subst AreKnownCells (sym e) (zeros_are k)

-- ---- what is known of the first of the cells that are left
pub first_known : (v : View) (all : List Stretch) (s : Stretch) (ss : List Stretch) (p k : ℕ) (r : Knowledge) (whole t : List Cell) → all ≡ s ∷ ss → p < stretch_count s
    → k ≡ knowledge_count r → IsKnowledge r (take (knowledge_count r) (drop p (stretch_cells v s))) → 1 ≤ knowledge_count r → p + knowledge_count r ≤ stretch_count s
    → drop p (cells_of v all) ≡ whole → t ≡ drop k (drop p (cells_of v all)) → IsKnownFirst r whole t
first_known v all s ss p k r whole t e h d i o m w b = record {
  some = o;
  there = subst (λ z. knowledge_count r ≤ length z) w (let q : length (drop p (cells_of v all)) ≡ stretch_count s - p + length (cells_of v ss) = left_in v all s ss p e h in omega (arith, q, m));
  knowledge = subst (IsKnowledge r) (sym (front_part v s ss all p (knowledge_count r) e m) ∙ ap (take (knowledge_count r)) w) i;
  rest = b ∙ ap (λ z. drop z (drop p (cells_of v all))) d ∙ ap (drop (knowledge_count r)) w;
}
