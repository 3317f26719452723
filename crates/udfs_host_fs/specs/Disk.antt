-- What files hold, what a crash may leave of them, and how both change.
--     Disk                            what is at each path after a crash
--     Same, SameBut, Moved, Gone      steps from one disk to another
--     Replaced path bytes             a file was put in the place of another, or not yet
--     Goes .. old new step            from old to new, each moment leaves what old might have left, after this step
--     Fails faults                    some call failed: a count of faults went up by one
--     SinkFails stream                some write failed: the count of faults of its sink went up by one
use Rattle.std.specs.Prelude.{◌≡◌, ◌≢◌, ◌⊎◌, ℕ, ◌+◌, ◌%◌, ◌^◌, ◌≤◌, List, [], ◌∷◌, ◌++◌, Bool, Option, Some, None, codes, nat_eq, true, false, if◌then◌else◌}
use Rattle.udfs_reading.specs.Device.{Stream}

-- what is at each path after a crash: bytes, or nothing
abbrev pub Disk : Type 0
Disk = List ℕ → Option (List ℕ)

-- all paths hold the same
abbrev pub Same : Disk → Disk → Type 0
Same d c = (q : List ℕ) → c q ≡ d q

-- the same at every path but this one, where anything may be
abbrev pub SameBut : List ℕ → Disk → Disk → Type 0
SameBut path d c = (q : List ℕ) → q ≢ path → c q ≡ d q

-- A file was moved: at its new path is what was there, or what a crash leaves of the file that was moved. Nothing is said of its old path.
pub record Moved (from to : List ℕ) (kept : Option (List ℕ) → Type 0) (d c : Disk) : Type 0 where
  pub others : (q : List ℕ) → q ≢ from → q ≢ to → c q ≡ d q
  pub target : (c to ≡ d to) ⊎ kept (c to)

-- A file was removed: at its path is what was there, or nothing.
pub record Gone (path : List ℕ) (d c : Disk) : Type 0 where
  pub others : (q : List ℕ) → q ≢ path → c q ≡ d q
  pub target : (c path ≡ d path) ⊎ (c path ≡ None)

-- the path of a new file that is to replace this one: the path, followed by `.unfinished`, and perhaps more
abbrev pub IsOwn : List ℕ → List ℕ → Type 0
IsOwn path q = (more : List ℕ) × (q ≡ path ++ codes ".unfinished" ++ more)

-- the same at every path but those of new files that are to go in the place of this one
abbrev pub SameButOwn : List ℕ → Disk → Disk → Type 0
SameButOwn path d c = (q : List ℕ) → (¬ IsOwn path q) → c q ≡ d q

-- at a path is what was there or these bytes, whole, and at every other path but those of new files what was there
pub record Replaced (path bytes : List ℕ) (d c : Disk) : Type 0 where
  pub whole : (c path ≡ d path) ⊎ (c path ≡ Some bytes)
  pub others : (q : List ℕ) → (¬ IsOwn path q) → q ≢ path → c q ≡ d q

-- one of these outcomes of a crash, and then this step
abbrev pub After : (Disk → Type 0) → (Disk → Disk → Type 0) → Disk → Type 0
After outcomes step c = (d : Disk) × outcomes d × step d c

-- From old to new, a crash at any moment leaves what one at old might have left, after this step. What a crash might have left earlier stays so.
pub record Goes {F : Type 0} (moment : F → ℕ) (may_leave : F → Disk → Type 0) (left_since : F → ℕ → Disk → Type 0) (old new : F) (step : Disk → Disk → Type 0) : Type 0 where
  pub later : moment old ≤ moment new
  pub now : (c : Disk) → may_leave new c → After (may_leave old) step c
  pub since : (t : ℕ) (c : Disk) → t ≤ moment old → left_since new t c → left_since old t c ⊎ After (may_leave old) step c
  pub keeps : (t : ℕ) (c : Disk) → t ≤ moment old → left_since old t c → left_since new t c

-- some call failed: a count of faults went up by one, modulo 2 ^ 64
abbrev pub Fails : {X : Type 0} → (X → ℕ) → Type 0
Fails {X} faults = (before : X) × (after : X) × (faults after ≡ (faults before + 1) % 2 ^ 64)

-- some write failed: the count of faults of its sink went up by one, modulo 2 ^ 64
abbrev pub SinkFails : {X : Type 0} → (X → Stream) → Type 0
SinkFails stream = Fails (λ x. (stream x).faults)

-- whether a path has a separator
abbrev pub has_slash : List ℕ → Bool
has_slash [] = false
has_slash (x ∷ xs) = if nat_eq x 47 then true else has_slash xs

-- the folder of a path: all up to its last slash
abbrev pub folder_of : List ℕ → List ℕ
folder_of [] = []
folder_of (x ∷ xs) = if has_slash (x ∷ xs) then x ∷ folder_of xs else []
