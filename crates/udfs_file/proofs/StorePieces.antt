-- So many cells at the front, of a body whose blocks are in a store.
use Rattle.std.proofs.Common.{◌≡◌, sym, subst, ℕ, ◌+◌, ◌-◌, ◌<◌, ◌≤◌, min, List, ◌++◌, length, take, drop, arith, Option}
use Rattle.udfs_lattice.specs.Volumes.{Blocks}
use Rattle.udfs_space.specs.Views.{view_by}
use Rattle.udfs_file.specs.StoreCells.{IsStoreSettled, store_left, store_room}
use Rattle.udfs_file.specs.declared.store_cells.StoreCells.{StoreCells}
use Rattle.udfs_file.specs.Pieces.{Starts, byte_cells}
use Rattle.udfs_file.specs.Stretches.{LieInBlocks}
use Rattle.udfs_file.specs.declared.cells.Cell.{Cell}
use Rattle.udfs_file.proofs.FrontPieces.{room_some, second_enough, cut, left_behind}

first_some : {X : Type 0} (st : X → Blocks) (A : StoreCells X) (want k : ℕ) → IsStoreSettled A → 1 ≤ want → want ≤ length (store_left st A) → k ≡ min want (store_room A) → 1 ≤ k
first_some st A want k i o h e = let q : 1 ≤ store_room A = room_some (view_by st A.view) A.stretches.now A.passed want i o h in omega (arith, q, o, e)

pub first_bytes : {X : Type 0} (st : X → Blocks) (C A : StoreCells X) (want k : ℕ) → store_left st A ≡ store_left st C → IsStoreSettled A → 1 ≤ want → want ≤ length (store_left st C) → k ≡ min want (store_room A) → 1 ≤ k
first_bytes st C A want k a i o h e = first_some st A want k i o (subst (λ z. want ≤ length z) (sym a) h) e

-- the second piece has room for what is left
pub joined_room : {X : Type 0} (st : X → Blocks) (C A B S : StoreCells X) (want k : ℕ)
    → store_left st A ≡ store_left st C → IsStoreSettled A → (LieInBlocks C.stretches.now → LieInBlocks A.stretches.now)
    → store_left st B ≡ drop k (store_left st A) → (Starts (A.passed + k) A.stretches.now → Starts B.passed B.stretches.now) → (LieInBlocks A.stretches.now → LieInBlocks B.stretches.now)
    → store_left st S ≡ store_left st B → IsStoreSettled S → ((j : ℕ) → Starts (B.passed + j) B.stretches.now → Starts (S.passed + j) S.stretches.now) → (LieInBlocks B.stretches.now → LieInBlocks S.stretches.now)
    → LieInBlocks C.stretches.now → 1 ≤ want → want ≤ 2048 → want ≤ length (store_left st C)
    → k ≡ min want (store_room A) → k < want → want - k ≤ store_room S
joined_room st C A B S want k ac ai al bc bs bl sc si ss sl l w m h e short =
    second_enough (view_by st S.view) A.stretches.now B.stretches.now S.stretches.now A.passed B.passed S.passed k want ai e short
    (first_bytes st C A want k ac ai w h e) m bs ss si (sl (bl (al l))) (left_behind want k (store_left st C) (store_left st A) (store_left st B) (store_left st S) ac bc sc h)

pub joined_front : {X : Type 0} (st : X → Blocks) (C A B S : StoreCells X) (want : ℕ) (o : Option ℕ) (first : List ℕ) (second : List Cell)
    → store_left st A ≡ store_left st C → IsStoreSettled A → (LieInBlocks C.stretches.now → LieInBlocks A.stretches.now)
    → store_left st B ≡ drop (length first) (store_left st A) → (Starts (A.passed + length first) A.stretches.now → Starts B.passed B.stretches.now) → (LieInBlocks A.stretches.now → LieInBlocks B.stretches.now)
    → store_left st S ≡ store_left st B → IsStoreSettled S → ((j : ℕ) → Starts (B.passed + j) B.stretches.now → Starts (S.passed + j) S.stretches.now) → (LieInBlocks B.stretches.now → LieInBlocks S.stretches.now)
    → LieInBlocks C.stretches.now → 1 ≤ want → want ≤ 2048 → want ≤ length (store_left st C)
    → length first ≡ min want (store_room A) → length first < want → take (min want (store_room A)) (store_left st A) ≡ byte_cells o first
    → take (min (want - length first) (store_room S)) (store_left st S) ≡ second → take want (store_left st C) ≡ byte_cells o first ++ second
joined_front st C A B S want o first second ac ai al bc bs bl sc si ss sl l w m h e short f q =
    cut want (store_room A) (store_room S) (store_left st C) (store_left st A) (store_left st B) (store_left st S) second o first ac bc sc e short f
    (second_enough (view_by st S.view) A.stretches.now B.stretches.now S.stretches.now A.passed B.passed S.passed (length first) want ai e short
    (first_bytes st C A want (length first) ac ai w h e) m bs ss si (sl (bl (al l))) (left_behind want (length first) (store_left st C) (store_left st A) (store_left st B) (store_left st S) ac bc sc h)) q
