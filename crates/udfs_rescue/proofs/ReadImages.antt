-- The image of a table with its mapfile has the table.
use Rattle.std.specs.Prelude.{◌↔◌, All}
use Rattle.std.proofs.Common.{◌≡◌, inl, inr, ℕ, zero, suc, ◌+◌, ◌-◌, ◌*◌, ◌<◌, ◌≤◌, List, length, take, drop, Result, Ok, refl, sym, ap, subst, ◌∙◌, arith, length-append}
use Rattle.std.proofs.lemmas.List.{drop_at, take_at, length-replicate}
use Rattle.std.proofs.lemmas.List.Elements.{All-append, All-replicate}
use Rattle.udfs_lattice.specs.declared.facts.Fact.TheVariants.{Unknown, Known, Conflict}
use Rattle.udfs_lattice.specs.States.{State}
use Rattle.udfs_lattice.specs.Records.{table_of}
use Rattle.udfs_lattice.specs.Tables.{Table, IsTable, IsStateAt, state_of, without_conflict}
use Rattle.udfs_reading.specs.declared.error.ReadingFault.{ReadingFault}
use Rattle.udfs_reading.specs.declared.error.ReadingFault.TheVariants as fault
use Rattle.udfs_rescue.specs.declared.run.Run.{Run}
use Rattle.udfs_rescue.specs.declared.opening.PairFault.TheVariants as pair
use Rattle.udfs_rescue.specs.Blocks.{block_of, reading_of}
use Rattle.udfs_rescue.specs.Images.{bytes_of_state, blocks_from, image_bytes}
use Rattle.udfs_rescue.specs.Known.{IsKnown, KnownFails}
use Rattle.udfs_rescue.specs.Opening.{KnowsBlocks}
use Rattle.udfs_rescue.specs.ReadBack.{HasTable, ImageReadsBack, ImageIsPair}
use Rattle.udfs_rescue.proofs.ImageText.{blocks_split}
use Rattle.udfs_rescue.proofs.PairTables.{knows}
use Rattle.udfs_rescue.proofs.ReadMaps.{image_map_reads_back}

-- ---- the image's bytes

block_long : (n : ℕ) (s : State) → IsStateAt n s → length (bytes_of_state s) ≡ 2048
block_long n Unknown h = length-replicate {A = ℕ} 2048 0
block_long n (Known b) h = h.1.whole
block_long n Conflict h = length-replicate {A = ℕ} 2048 0

block_bytes : (n : ℕ) (s : State) → IsStateAt n s → All (λ x. x < 256) (bytes_of_state s)
block_bytes n Unknown h = All-replicate (λ x. x < 256) 2048 0 (omega arith)
block_bytes n (Known b) h = h.1.bytes
block_bytes n Conflict h = All-replicate (λ x. x < 256) 2048 0 (omega arith)

blocks_long : (t : Table) → IsTable t → (n k : ℕ) → length (blocks_from t n k) ≡ 2048 * k
blocks_long t h n zero = refl
blocks_long t h n (suc k) =
    let more : length (blocks_from t (n + 1) k) ≡ 2048 * k = blocks_long t h (n + 1) k in
    let one : length (bytes_of_state (state_of t n)) ≡ 2048 = block_long n (state_of t n) (h n) in
    length-append (bytes_of_state (state_of t n)) (blocks_from t (n + 1) k) ∙ omega (arith, more, one)

blocks_bytes : (t : Table) → IsTable t → (n k : ℕ) → All (λ x. x < 256) (blocks_from t n k)
blocks_bytes t h n zero = All-replicate (λ x. x < 256) 0 0 (omega arith)
blocks_bytes t h n (suc k) = All-append (λ x. x < 256) (bytes_of_state (state_of t n)) (blocks_from t (n + 1) k) (block_bytes n (state_of t n) (h n)) (blocks_bytes t h (n + 1) k)

-- block n of the image is what the table has there
block_in : (t : Table) (last n : ℕ) → IsTable t → n ≤ last → block_of (image_bytes t last) n ≡ bytes_of_state (state_of t n)
block_in t last n h low =
    let left : last + 1 ≡ n + suc (last - n) = omega (arith, low) in
    let place : 0 + n ≡ n = omega arith in
    ap (λ l. take 2048 (drop (2048 * n) l)) (blocks_split t 0 n (suc (last - n)) (last + 1) left)
    ∙ ap (take 2048) (drop_at (blocks_from t 0 n) (blocks_from t (0 + n) (suc (last - n))) (2048 * n) (blocks_long t h 0 n))
    ∙ ap (λ m. take 2048 (blocks_from t m (suc (last - n)))) place
    ∙ take_at (bytes_of_state (state_of t n)) (blocks_from t (n + 1) (last - n)) 2048 (block_long n (state_of t n) (h n))

-- ---- its table

same_state : (t : Table) (last n : ℕ) (s : State) (found : State) (runs : List Run) → IsTable t → n ≤ last → state_of t n ≡ s
    → (IsKnown runs n ↔ ((n ≤ last) × ((bytes : List ℕ) × (state_of t n ≡ Known bytes))))
    → (IsKnown runs n → found ≡ Known (block_of (image_bytes t last) n)) → ((IsKnown runs n → ⊥) → found ≡ Unknown) → found ≡ without_conflict s
same_state t last n Unknown found runs h low is exactly known unknown = unknown (λ k. let a = (exactly.0 k).1.1 in absurd cc)
same_state t last n (Known b) found runs h low is exactly known unknown = known (exactly.1 (low, (b, is))) ∙ ap Known (block_in t last n h low ∙ ap bytes_of_state is)
same_state t last n Conflict found runs h low is exactly known unknown = unknown (λ k. let a = (exactly.0 k).1.1 in absurd cc)

one_outcome : {X Y : Type 0} (r : Result X Y) (x y : X) → r ≡ Ok x → r ≡ Ok y → x ≡ y
one_outcome r x y e f = cc

has_table : (t : Table) (last : ℕ) (runs : List Run) (bytes : List ℕ) → IsTable t
    → ((n : ℕ) → IsKnown runs n ↔ ((n ≤ last) × ((bytes : List ℕ) × (state_of t n ≡ Known bytes)))) → KnowsBlocks (image_bytes t last) runs bytes → HasTable t last bytes
has_table t last runs bytes h exactly k =
    record {
      records = k.records;
      reading = k.reading;
      inside = λ n low. same_state t last n (state_of t n) (state_of (table_of k.records) n) runs h low refl (exactly n) (k.known n) (k.unknown n);
      beyond = λ n high. k.unknown n (λ is. let low = ((exactly n).0 is).0 in omega (arith, low, high));
    }

pub image_reads_back : ImageReadsBack
image_reads_back t last left low h pair =
    let map = image_map_reads_back t last low in
    let same : map.runs ≡ pair.known.runs = one_outcome _ _ _ map.says pair.known.says in
    let exactly = subst (λ runs. (n : ℕ) → IsKnown runs n ↔ ((n ≤ last) × ((bytes : List ℕ) × (state_of t n ≡ Known bytes)))) same map.exactly in (
      reading_of (image_bytes t last) pair.ranges,
      pair.bytes,
      has_table t last pair.known.runs (reading_of (image_bytes t last) pair.ranges) h exactly
          (knows (image_bytes t last) pair.known.runs pair.ranges pair.known.exactly pair.known.blocks pair.inside (blocks_bytes t h 0 (last + 1))),
    )

-- ---- it is a pair

not_above : (t : Table) (last : ℕ) → last ≤ 4194303 → (runs : List Run) → ((n : ℕ) → IsKnown runs n ↔ ((n ≤ last) × ((bytes : List ℕ) × (state_of t n ≡ Known bytes)))) → (f : ReadingFault) (number : ℕ)
    → KnownFails runs f number → (f ≡ fault.OutOfMemory) × (number ≡ 0)
not_above t last low runs exactly fault.Magic number h = absurd h
not_above t last low runs exactly fault.BlockSize number h = absurd h
not_above t last low runs exactly fault.BlockNumber number h = let a = ((exactly h.block).0 h.known).0 in absurd (omega (arith, a, low, h.above))
not_above t last low runs exactly fault.Truncated number h = absurd h
not_above t last low runs exactly fault.Trailing number h = absurd h
not_above t last low runs exactly fault.Order number h = absurd h
not_above t last low runs exactly fault.State number h = absurd h
not_above t last low runs exactly fault.Io number h = absurd h
not_above t last low runs exactly fault.OutOfMemory number h = (refl, h)

pub image_is_pair : ImageIsPair
image_is_pair t last (pair.Line f) low h e = absurd (let map = image_map_reads_back t last low in let says = map.says in cc)
image_is_pair t last (pair.Reading e) low h (inl k) = (inl k.0, k.1)
image_is_pair t last (pair.Reading e) low h (inr k) =
    let map = image_map_reads_back t last low in
    let same : map.runs ≡ k.runs = one_outcome _ _ _ map.says k.says in
    let exactly = subst (λ runs. (n : ℕ) → IsKnown runs n ↔ ((n ≤ last) × ((bytes : List ℕ) × (state_of t n ≡ Known bytes)))) same map.exactly in
    let a = not_above t last low k.runs exactly e.fault e.number k.why in
    (inr a.0, a.1)
image_is_pair t last (pair.EndsBefore b) low h e =
    let map = image_map_reads_back t last low in
    let same : map.runs ≡ e.known.runs = one_outcome _ _ _ map.says e.known.says in
    let known : IsKnown map.runs b = subst (λ runs. IsKnown runs b) (sym same) ((e.known.exactly b).0 e.outside.among) in
    let few : b ≤ last = ((map.exactly b).0 known).0 in
    let long : length (image_bytes t last) ≡ 2048 * (last + 1) = blocks_long t h 0 (last + 1) in
    omega (arith, few, long, e.outside.outside)
image_is_pair t last pair.OutOfMemory low h e = tt
