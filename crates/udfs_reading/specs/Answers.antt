-- What a call that reads one file of a kind returns, by the bytes of the source, where these are known.
use Rattle.std.specs.Prelude.{◌≡◌, ℕ, ◌<◌, List, ◌++◌, Option, Result, IfSome, IfOk, IfErr, MatchResult}
use Rattle.udfs_lattice.specs.Tables.{Table}
use Rattle.udfs_reading.specs.declared.error.ReadingError.{ReadingError}
use Rattle.udfs_reading.specs.declared.error.ReadingFault.{ReadingFault}
use Rattle.udfs_reading.specs.declared.error.ReadingFault.TheVariants.{Io, OutOfMemory}
use Rattle.udfs_reading.specs.Kind.{Kind}
use Rattle.udfs_reading.specs.Outcome.{StopsAt}

-- a fault of the bytes, and not of the device or of memory
abbrev pub IsOfFile : ReadingFault → Type 0
IsOfFile Io = ⊥
IsOfFile OutOfMemory = ⊥
IsOfFile fault = Unit {0}

-- the source had given these bytes since
abbrev pub HadGiven : Option (List ℕ) → Option (List ℕ) → (List ℕ → Type 0) → Type 0
HadGiven old new P = IfSome old (λ bytes. IfSome new (λ left. (got : List ℕ) × (bytes ≡ got ++ left) × P got))

-- a table is that of the file
abbrev pub GivesTable : Kind → Option (List ℕ) → Result Table ReadingError → Type 0
GivesTable K told r = IfSome told (λ bytes. IfOk r (λ table. (count : ℕ) × K.IsFile bytes count table))

-- a fault of the file is the first one of the bytes, at its record
abbrev pub GivesFault : Kind → Option (List ℕ) → Result Table ReadingError → Type 0
GivesFault K told r = IfSome told (λ bytes. IfErr r (λ e. IsOfFile e.fault → K.IsFaulty bytes e.fault e.number))

-- a file gives its table, and the only errors are Io and OutOfMemory; OutOfMemory comes only where the file has a record
abbrev pub TakesFile : Kind → Option (List ℕ) → Result Table ReadingError → Type 0
TakesFile K told r = IfSome told (λ bytes. (count : ℕ) (table : Table) → K.IsFile bytes count table →
    MatchResult r (λ t. t ≡ table) (λ e. (¬ IsOfFile e.fault) × (e.fault ≡ OutOfMemory → 0 < count)))

-- other bytes give no table, and no other fault of the file; OutOfMemory comes only past the header
abbrev pub RefusesFaulty : Kind → Option (List ℕ) → Result Table ReadingError → Type 0
RefusesFaulty K told r = IfSome told (λ bytes. (fault : ReadingFault) (number : ℕ) → K.IsFaulty bytes fault number →
    MatchResult r (λ _. ⊥) (λ e. (IsOfFile e.fault → (e.fault ≡ fault) × (e.number ≡ number)) × (e.fault ≡ OutOfMemory → 0 < number)))

-- where the device failed, the bytes that it had given have no fault but a cut at their end
abbrev pub FailsAfter : Kind → Option (List ℕ) → Option (List ℕ) → Result Table ReadingError → Type 0
FailsAfter K told left r = IfErr r (λ e. e.fault ≡ Io → HadGiven told left (λ got. StopsAt K got e.number))
