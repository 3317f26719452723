-- What a store of blocks, wherever their bytes are, says of a volume.
--     store_error why               why a call on a store gave up, as salvage reports it
--     IfTold P error                this holds of the error, where it is one of a table too
--     IsStoreRefused                why a store has no report
use Rattle.std.specs.Prelude.{⊤, ℕ}
use Rattle.udfs_lattice.specs.Volumes.{Blocks}
use Rattle.udfs_lattice.specs.declared.blocks.GaveUp.{GaveUp}
use Rattle.udfs_lattice.specs.declared.blocks.GaveUp.TheVariants as gave_up
use Rattle.udfs_volume.specs.declared.profiles.Profile.{Profile}
use Rattle.udfs_salvage.specs.Reports.{HasTooManyPathsBy, IsNothingPast, IsOutOfRange, IsPastEnd, MayWantMemoryBy}
use Rattle.udfs_salvage.specs.declared.errors.SalvageError.{SalvageError}
use Rattle.udfs_salvage.specs.declared.errors.SalvageError.TheVariants as errors
use Rattle.udfs_salvage.specs.declared.errors.StoreError.{StoreError}
use Rattle.udfs_salvage.specs.declared.errors.StoreError.TheVariants.{Salvage, Unread}

-- memory ran out, or a read failed
abbrev pub store_error : GaveUp → StoreError
store_error gave_up.OutOfMemory = Salvage errors.OutOfMemory
store_error gave_up.Unread = Unread

-- what holds of an error that a table may have too; of a failed read nothing is said
abbrev pub IfTold : (SalvageError → Type 0) → StoreError → Type 0
IfTold P (Salvage e) = P e
IfTold P Unread = ⊤

-- why what is known has no report for this last block
abbrev pub IsRefused : Profile → Blocks → ℕ → SalvageError → Type 0
IsRefused profile blocks last errors.LastRange = IsOutOfRange last
IsRefused profile blocks last (errors.PastEnd n) = (¬ IsOutOfRange last) × IsPastEnd blocks last n
IsRefused profile blocks last errors.TooManyPaths = (¬ IsOutOfRange last) × IsNothingPast blocks last × HasTooManyPathsBy profile blocks last
IsRefused profile blocks last errors.OutOfMemory = (¬ IsOutOfRange last) × IsNothingPast blocks last × MayWantMemoryBy profile blocks last

-- why a store has none: as a table; or a read failed, of a store that fits its last block
abbrev pub IsStoreRefused : Profile → Blocks → ℕ → StoreError → Type 0
IsStoreRefused profile blocks last (Salvage e) = IsRefused profile blocks last e
IsStoreRefused profile blocks last Unread = (¬ IsOutOfRange last) × IsNothingPast blocks last
