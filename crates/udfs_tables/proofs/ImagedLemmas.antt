-- What an image is written of: the least block behind the last one of which an index says something, and the bytes of its blocks.
use Rattle.std.proofs.Common.{◌≡◌, ◌≢◌, ◌⊎◌, ℕ, zero, suc, ◌+◌, ◌<◌, ◌≤◌, ◌++◌, List, Some, map, refl, sym, ap, ◌∙◌, arith, inl, inr, ⊎_elim}
use Rattle.std.specs.List.{flat_map}
use Rattle.std.proofs.lemmas.Bool.{cases_lt}
use Rattle.udfs_lattice.specs.declared.facts.Fact.TheVariants.{Unknown, Known, Conflict}
use Rattle.udfs_lattice.specs.States.{State}
use Rattle.udfs_lattice.specs.Tables.{IsStateAt, IsTable, Table, state_of}
use Rattle.udfs_reading.specs.PacketFile.{states_from}
use Rattle.udfs_reading.proofs.PacketStates.{states-next, states-none}
use Rattle.udfs_index.specs.declared.packet.Packet.{Packet}
use Rattle.udfs_index.specs.Imaging.{filled, filled_to}
use Rattle.udfs_index.specs.Places.{state_by}
use Rattle.udfs_index.specs.Slots.{Slot, slot_at}
use Rattle.udfs_rescue.specs.Images.{blocks_from, bytes_of_state, image_bytes}
use Rattle.udfs_rescue.specs.Writing.{map_text, table_status}
use Rattle.udfs_rescue.specs.declared.run.RunStatus.{RunStatus}
use Rattle.udfs_salvage.specs.Reports.{IsNothingPast, IsPastEnd}

-- ---- the bytes of its blocks

same_bytes : (s : State) → filled s ≡ bytes_of_state s
same_bytes Unknown = refl
same_bytes (Known bytes) = refl
same_bytes Conflict = refl

same_blocks : (t : Table) (n m : ℕ) → flat_map filled (states_from t n m) ≡ blocks_from t n m
same_blocks t n zero = ap (flat_map filled) (states-none t n)
same_blocks t n (suc m) =
    ap (flat_map filled) (states-next t n m)
    ∙ ap (λ (l : List ℕ). l ++ flat_map filled (states_from t (n + 1) m)) (same_bytes (state_of t n))
    ∙ ap (λ (l : List ℕ). bytes_of_state (state_of t n) ++ l) (same_blocks t (n + 1) m)

-- they make the image
pub same_image : (t : Table) (last : ℕ) → filled_to t last ≡ image_bytes t last
same_image t last = same_blocks t 0 (last + 1)

-- and the statuses its mapfile
pub same_map : (status : ℕ → RunStatus) (t : Table) (last : ℕ) → ((n : ℕ) → status n ≡ table_status t n) → map_text status last ≡ map_text (table_status t) last
same_map status t last same = ap (λ (f : ℕ → RunStatus). map_text f last) (λ i n. same n i)

-- ---- the blocks behind the last one

-- nothing is said of the blocks behind the last one that are before this block
pub record Behind (packets : List Packet) (last block : ℕ) : Type 0 where
  pub past : last < block
  pub none : (n : ℕ) → last < n → n < block → slot_at packets n ≡ Unknown

pub behind_first : (packets : List Packet) (last block : ℕ) → block ≡ last + 1 → Behind packets last block
behind_first packets last block is = record { past = omega (arith, is); none = λ n low high. absurd (omega (arith, is, low, high)) }

none_by : (packets : List Packet) (last block n : ℕ) → Behind packets last block → slot_at packets block ≡ Unknown → last < n → (n < block) ⊎ (block ≤ n) → n < block + 1 → slot_at packets n ≡ Unknown
none_by packets last block n h is low (inl less) high = h.none n low less
none_by packets last block n h is low (inr more) high = let same : n ≡ block = omega (arith, more, high) in ap (slot_at packets) same ∙ is

pub behind_more : (packets : List Packet) (last block : ℕ) → slot_at packets block ≡ Unknown → Behind packets last block → Behind packets last (block + 1)
behind_more packets last block is h = record { past = let past = h.past in omega (arith, past); none = λ n low high. none_by packets last block n h is low (cases_lt n block) high }

pub some_known : {slot : Slot} {place : ℕ} → slot ≡ Known place → slot ≢ Unknown
some_known {slot} {place} is none = let bad : ◌≡◌ {A = Slot} (Known place) Unknown = sym is ∙ none in cc

pub some_conflict : {slot : Slot} → slot ≡ Conflict → slot ≢ Unknown
some_conflict {slot} is none = let bad : ◌≡◌ {A = Slot} Conflict Unknown = sym is ∙ none in cc

unsaid : (wholes : List (List ℕ)) (slot : Slot) → slot ≡ Unknown → state_by wholes slot ≡ Unknown
unsaid wholes slot is = ap (state_by wholes) is

said : (wholes : List (List ℕ)) (slot : Slot) → slot ≢ Unknown → state_by wholes slot ≢ Unknown
said wholes Unknown some = absurd (some refl)
said wholes (Known place) some = λ e. let bad : ⊥ = cc in bad
said wholes Conflict some = λ e. let bad : ⊥ = cc in bad

least_by : (wholes : List (List ℕ)) (packets : List Packet) (t : Table) (last block m : ℕ) → ((n : ℕ) → state_of t n ≡ state_by wholes (slot_at packets n)) → Behind packets last block → last < m → state_of t m ≢ Unknown → (m < block) ⊎ (block ≤ m) → block ≤ m
least_by wholes packets t last block m says h low some (inl less) = absurd (some (says m ∙ unsaid wholes (slot_at packets m) (h.none m low less)))
least_by wholes packets t last block m says h low some (inr more) = more

-- where something is said of this one, it is the least such
pub least_behind : (wholes : List (List ℕ)) (packets : List Packet) (t : Table) (last block : ℕ) → ((n : ℕ) → state_of t n ≡ state_by wholes (slot_at packets n)) → Behind packets last block → slot_at packets block ≢ Unknown → IsPastEnd (state_of t) last block
least_behind wholes packets t last block says h some = record {
  past = h.past;
  not_unknown = λ e. said wholes (slot_at packets block) some (sym (says block) ∙ e);
  least = λ m low known. least_by wholes packets t last block m says h low known (cases_lt m block);
}

far : (n : ℕ) (s : State) → IsStateAt n s → 4194304 ≤ n → s ≡ Unknown
far n Unknown fits high = refl
far n (Known bytes) fits high = let low = fits.0 in absurd (omega (arith, low, high))
far n Conflict fits high = absurd (omega (arith, fits, high))

beyond : (packets : List Packet) (last end n : ℕ) → Behind packets last end → ((q : ℕ) → end ≤ q → q < 4194304 → slot_at packets q ≡ Unknown) → last < n → n < 4194304 → (n < end) ⊎ (end ≤ n) → slot_at packets n ≡ Unknown
beyond packets last end n h rest low near (inl less) = h.none n low less
beyond packets last end n h rest low near (inr more) = rest n more near

nothing_at : (wholes : List (List ℕ)) (packets : List Packet) (t : Table) (last end n : ℕ) → IsTable t → ((q : ℕ) → state_of t q ≡ state_by wholes (slot_at packets q)) → Behind packets last end → ((q : ℕ) → end ≤ q → q < 4194304 → slot_at packets q ≡ Unknown) → last < n → (n < 4194304) ⊎ (4194304 ≤ n) → state_of t n ≡ Unknown
nothing_at wholes packets t last end n is says h rest low (inl near) = says n ∙ unsaid wholes (slot_at packets n) (beyond packets last end n h rest low near (cases_lt n end))
nothing_at wholes packets t last end n is says h rest low (inr high) = far n (state_of t n) (is n) high

-- where nothing is said of those either that are left, there is none
pub nothing_behind : (wholes : List (List ℕ)) (packets : List Packet) (t : Table) (last block end : ℕ) → IsTable t → ((q : ℕ) → state_of t q ≡ state_by wholes (slot_at packets q)) → Behind packets last block → end ≤ block → ((q : ℕ) → end ≤ q → q < 4194304 → slot_at packets q ≡ Unknown) → IsNothingPast (state_of t) last
nothing_behind wholes packets t last block end is says h over rest n low =
    nothing_at wholes packets t last block n is says h (λ q far near. rest q (omega (arith, over, far)) near) low (cases_lt n 4194304)
