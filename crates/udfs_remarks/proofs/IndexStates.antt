-- The blocks of an index are those of the table that it took.
use Rattle.std.proofs.Common.{◌≡◌, ◌≢◌, ◌∙◌, ◌+◌, ◌<◌, ◌≤◌, ◌⊎◌, arith, ap, inl, inr, refl, sym, cond, ℕ, Bool, true, false, List, Option, map, nat_lt}
use Rattle.std.specs.Borrow.{Bor}
use Rattle.std.proofs.lemmas.Bool.{ltb-false, ltb-true}
use Rattle.udfs_index.proofs.IndexLemmas.{told_all}
use Rattle.udfs_index.proofs.StoreLemmas.{took_states}
use Rattle.udfs_index.specs.Copying.{AreAllTold}
use Rattle.udfs_index.specs.Index.{Took, contents_of}
use Rattle.udfs_index.specs.Places.{state_by}
use Rattle.udfs_index.specs.Slots.{slot_at}
use Rattle.udfs_index.specs.Stores.{bytes_of, states_of}
use Rattle.udfs_index.specs.declared.packet.Packet.{Packet}
use Rattle.udfs_lattice.specs.States.{State}
use Rattle.udfs_lattice.specs.Tables.{IsStateAt, IsTable, Table, state_of}
use Rattle.udfs_lattice.specs.Volumes.{Blocks}
use Rattle.udfs_lattice.specs.declared.facts.Fact.TheVariants.{Conflict, Known, Unknown}
use Rattle.udfs_lattice.specs.Stores.{known_as}
use Rattle.udfs_salvage.specs.Reports.{IsNothingPast, IsPastEnd}
use Rattle.udfs_remarks.specs.IndexBlocks.{IsNothingBehind, bounded}

-- nothing is known of a block that no volume has
above : (n : ℕ) (s : State) → 4194304 ≤ n → IsStateAt n s → s ≡ Unknown
above n Unknown far fits = refl
above n (Known bytes) far fits = let near = fits.0 in absurd (omega (arith, far, near))
above n Conflict far fits = absurd (omega (arith, far, fits))

within : (s : State) (blocks : Blocks) (n : ℕ) (b : Bool) → nat_lt n 4194304 ≡ b → IsStateAt n s → blocks n ≡ s → s ≡ cond b (blocks n) Unknown
within s blocks n true is fits same = sym same
within s blocks n false is fits same = above n s (ltb-false n 4194304 is) fits

pub held_by : {S : Type 0} (content : S → Option (List ℕ)) (inputs : List (Bor S)) (packets : List Packet) (t : Table) (n : ℕ) → AreAllTold content → IsTable t → Took (contents_of content inputs) packets t → state_of t n ≡ bounded (states_of (contents_of content inputs) packets) n
held_by content inputs packets t n told fits took =
    let w = told_all content inputs told in
    within (state_of t n) (states_of (contents_of content inputs) packets) n (nat_lt n 4194304) refl (fits n) (took_states (contents_of content inputs) packets t w.0 w.1 took n)

-- ---- what is known of one

pub far_is : (blocks : Blocks) (n : ℕ) → 4194304 ≤ n → bounded blocks n ≡ Unknown
far_is blocks n far = go (nat_lt n 4194304) refl
  where
    go : (b : Bool) → nat_lt n 4194304 ≡ b → bounded blocks n ≡ Unknown
    go true e = let near = ltb-true n 4194304 e in absurd (omega (arith, far, near))
    go false e = ap (λ (b : Bool). cond b (blocks n) Unknown) e

pub near_is : (blocks : Blocks) (n : ℕ) → n < 4194304 → bounded blocks n ≡ blocks n
near_is blocks n near = go (nat_lt n 4194304) refl
  where
    go : (b : Bool) → nat_lt n 4194304 ≡ b → bounded blocks n ≡ blocks n
    go true e = ap (λ (b : Bool). cond b (blocks n) Unknown) e
    go false e = let far = ltb-false n 4194304 e in absurd (omega (arith, far, near))

-- ---- the least block of which something is known

unknown_by : (s : State) → known_as s ≡ Unknown → s ≡ Unknown
unknown_by Unknown e = refl
unknown_by (Known bytes) e = absurd (let no : ⊥ = cc in no)
unknown_by Conflict e = absurd (let no : ⊥ = cc in no)

at_or_below : (n block : ℕ) → n < block + 1 → (n < block) ⊎ (n ≡ block)
at_or_below n block lt = go (nat_lt n block) refl
  where
    go : (b : Bool) → nat_lt n block ≡ b → (n < block) ⊎ (n ≡ block)
    go true e = inl (ltb-true n block e)
    go false e = let high = ltb-false n block e in inr (omega (arith, high, lt))

-- nothing is known of one more
pub one_more : (blocks : Blocks) (last block : ℕ) → ((n : ℕ) → last < n → n < block → blocks n ≡ Unknown) → known_as (blocks block) ≡ Unknown → (n : ℕ) → last < n → n < block + 1 → blocks n ≡ Unknown
one_more blocks last block before here n past lt = go (at_or_below n block lt)
  where
    go : (n < block) ⊎ (n ≡ block) → blocks n ≡ Unknown
    go (inl below) = before n past below
    go (inr same) = ap blocks same ∙ unknown_by (blocks block) here

-- something is known of this one
pub least_past : (blocks : Blocks) (last block : ℕ) → last < block → ((n : ℕ) → last < n → n < block → blocks n ≡ Unknown) → known_as (blocks block) ≢ Unknown → IsPastEnd blocks last block
least_past blocks last block past before some = record {
  past = past;
  not_unknown = λ none. some (ap known_as none);
  least = λ m lt known. let below : (m < block) → ⊥ = λ l. known (before m lt l) in omega (arith, below);
}

-- where an index says nothing of a block, nothing is known of it
pub unsaid : (contents : List (Option (List ℕ))) (packets : List Packet) (n : ℕ) → slot_at packets n ≡ Unknown → bounded (states_of contents packets) n ≡ Unknown
unsaid contents packets n none = go (nat_lt n 4194304)
  where
    go : (b : Bool) → cond b (states_of contents packets n) Unknown ≡ Unknown
    go true = ap (state_by (map bytes_of contents)) none
    go false = refl

-- nothing is known up to this block, nor from it on
pub none_behind : (blocks : Blocks) (last block : ℕ) → ((n : ℕ) → last < n → n < block → blocks n ≡ Unknown) → ((n : ℕ) → block ≤ n → n < 4194304 → blocks n ≡ Unknown) → IsNothingBehind blocks last
none_behind blocks last block before rest n past lt = go (nat_lt n block) refl
  where
    go : (b : Bool) → nat_lt n block ≡ b → blocks n ≡ Unknown
    go true e = before n past (ltb-true n block e)
    go false e = rest n (ltb-false n block e) lt

-- where no volume has more blocks, nothing is known of any after the last
pub nothing_past : (blocks : Blocks) (last : ℕ) → IsNothingBehind (bounded blocks) last → IsNothingPast (bounded blocks) last
nothing_past blocks last behind n past = go (nat_lt n 4194304) refl
  where
    go : (b : Bool) → nat_lt n 4194304 ≡ b → bounded blocks n ≡ Unknown
    go true e = behind n past (ltb-true n 4194304 e)
    go false e = ap (λ (b : Bool). cond b (blocks n) Unknown) e
