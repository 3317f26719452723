-- Complete volumes, tables that agree with one, and what a table knows of several blocks. All speak of the states of
-- blocks alone, so a table is cited by its states.
use Rattle.std.specs.Prelude.{◌≡◌, ℕ, ◌<◌, ◌≤◌, List, [], ◌∷◌, cond, filter, not, false, nat_le, nat_lt, ◌==◌, Option, Some, None, Contains}
use Rattle.udfs_lattice.specs.declared.facts.Fact.TheVariants.{Unknown, Known, Conflict}
use Rattle.udfs_lattice.specs.States.{State, IsBlock, is_known}

-- a state for each block number
abbrev pub Blocks : Type 0
Blocks = ℕ → State

-- ---- complete volumes

-- to each block its bytes; what it says above the last block is not used
abbrev pub Volume : Type 0
Volume = ℕ → List ℕ

-- the last block is 513 to 4,194,303, and each block up to it has 2048 bytes
pub record IsVolume (volume : Volume) (last : ℕ) : Type 0 where
  pub from : 513 ≤ last
  pub to : last ≤ 4194303
  pub each : (n : ℕ) → n ≤ last → IsBlock (volume n)

-- each block up to the last one is Known with the volume's bytes, and each block above it is Unknown
abbrev pub complete : Volume → ℕ → Blocks
complete volume last n = cond (nat_le n last) (Known (volume n)) Unknown

-- nothing above the last block, and where a block is known, the volume's bytes. A conflict says nothing.
pub record Agrees (blocks : Blocks) (volume : Volume) (last : ℕ) : Type 0 where
  pub above : (n : ℕ) → last < n → blocks n ≡ Unknown
  pub known : (n : ℕ) (bytes : List ℕ) → blocks n ≡ Known bytes → bytes ≡ volume n

-- ---- several blocks

-- the block n with its bytes where its state is Known, and else what is found later
abbrev pub first_known_by : ℕ → State → Option (ℕ × List ℕ) → Option (ℕ × List ℕ)
first_known_by n Unknown later = later
first_known_by n (Known bytes) later = Some (n, bytes)
first_known_by n Conflict later = later

-- the first of these blocks that is known, with its bytes
abbrev pub first_known : Blocks → List ℕ → Option (ℕ × List ℕ)
first_known blocks [] = None
first_known blocks (n ∷ ns) = first_known_by n (blocks n) (first_known blocks ns)

-- those of these blocks that are not Known: they are Unknown or in Conflict
abbrev pub not_known : Blocks → List ℕ → List ℕ
not_known blocks ns = filter (λ n. not (is_known (blocks n))) ns

-- the block n is Known
abbrev pub IsKnownAt : Blocks → ℕ → Type 0
IsKnownAt blocks n = (bytes : List ℕ) × (blocks n ≡ Known bytes)

-- none of these blocks is Known: each is Unknown or in Conflict
abbrev pub IsUnread : Blocks → List ℕ → Type 0
IsUnread blocks group = (n : ℕ) → Contains group n → is_known (blocks n) ≡ false

-- n in its place in a rising list, unless it is there
abbrev pub insert_once : ℕ → List ℕ → List ℕ
insert_once n [] = n ∷ []
insert_once n (m ∷ ms) = cond (nat_lt n m) (n ∷ m ∷ ms) (cond (n == m) (m ∷ ms) (m ∷ insert_once n ms))

-- the numbers of a list, ascending and each once
abbrev pub ascending : List ℕ → List ℕ
ascending [] = []
ascending (n ∷ ns) = insert_once n (ascending ns)
