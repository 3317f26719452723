-- What is at each path after a crash, and steps from one such disk to another.
use Rattle.std.specs.Prelude.{◌≡◌, ◌≢◌, ◌⊎◌, ℕ, List, Option, None}

-- what is at each path after a crash: bytes, or nothing
abbrev pub Disk : Type 0
Disk = List ℕ → Option (List ℕ)

-- all paths hold the same
abbrev pub Same : Disk → Disk → Type 0
Same d c = (q : List ℕ) → c q ≡ d q

-- the same at every path but this one, where anything may be
abbrev pub SameBut : List ℕ → Disk → Disk → Type 0
SameBut path d c = (q : List ℕ) → q ≢ path → c q ≡ d q

-- A file was moved: at its new path is what was there, or what a crash leaves of the file that was moved. Nothing is said of its old path.
pub record Moved (from to : List ℕ) (kept : Option (List ℕ) → Type 0) (d c : Disk) : Type 0 where
  pub others : (q : List ℕ) → q ≢ from → q ≢ to → c q ≡ d q
  pub target : (c to ≡ d to) ⊎ kept (c to)

-- A file was removed: at its path is what was there, or nothing.
pub record Gone (path : List ℕ) (d c : Disk) : Type 0 where
  pub others : (q : List ℕ) → q ≢ path → c q ≡ d q
  pub target : (c path ≡ d path) ⊎ (c path ≡ None)

-- one of these outcomes of a crash, and then this step
abbrev pub After : (Disk → Type 0) → (Disk → Disk → Type 0) → Disk → Type 0
After outcomes step c = (d : Disk) × outcomes d × step d c
