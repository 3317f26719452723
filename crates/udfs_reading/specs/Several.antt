-- Several inputs, read in order.
use Rattle.std.specs.Prelude.{◌≡◌, ◌≢◌, ℕ, ◌+◌, List, [], ◌∷◌, ◌++◌, length, map, Option, Some, IfSome, Err, ◌↔◌}
use Rattle.udfs_lattice.specs.Tables.{Table, join_tables}
use Rattle.udfs_lattice.specs.Records.{Record}
use Rattle.udfs_reading.specs.declared.error.ReadingFault.{ReadingFault}
use Rattle.udfs_reading.specs.declared.error.ReadingFault.TheVariants.{Io}
use Rattle.udfs_reading.specs.declared.inputs.InputError.{InputError}
use Rattle.udfs_reading.specs.Kind.{Kind}
use Rattle.udfs_reading.specs.Outcome.{Reads}
use Rattle.udfs_reading.specs.Answers.{GivesFault, RefusesFaulty, FailsAfter}
use Rattle.udfs_reading.specs.Reading.{IsReading}
use Rattle.udfs_reading.specs.Inputs.{inputs}

-- the bytes are a reading or a table file with this table
abbrev pub HasTable : List ℕ → Table → Type 0
HasTable bytes table = (count : ℕ) × inputs.IsFile bytes count table

-- each input whose bytes are known has its table at the same place of the list
abbrev pub TablesAre : {R : Type 0} → (R → Option (List ℕ)) → List R → List Table → Type 0
TablesAre remaining [] [] = Unit {0}
TablesAre remaining [] (t ∷ ts) = ⊥
TablesAre remaining (r ∷ rs) [] = ⊥
TablesAre remaining (r ∷ rs) (t ∷ ts) = IfSome (remaining r) (λ bytes. HasTable bytes t) × TablesAre remaining rs ts

-- the bytes of the input are known, and they have this table
abbrev pub Tells : {R : Type 0} → (R → Option (List ℕ)) → R → Table → Type 0
Tells remaining r t = (bytes : List ℕ) × (remaining r ≡ Some bytes) × HasTable bytes t

-- the bytes of each input are known, and they have the table at the same place of the list
abbrev pub AllTell : {R : Type 0} → (R → Option (List ℕ)) → List R → List Table → Type 0
AllTell remaining [] [] = Unit {0}
AllTell remaining [] (t ∷ ts) = ⊥
AllTell remaining (r ∷ rs) [] = ⊥
AllTell remaining (r ∷ rs) (t ∷ ts) = Tells remaining r t × AllTell remaining rs ts

-- the bytes of each input are known, and they are the reading of the records at the same place of the list
abbrev pub AllReadings : {R : Type 0} → (R → Option (List ℕ)) → List R → List (List Record) → Type 0
AllReadings remaining [] [] = Unit {0}
AllReadings remaining [] (rs ∷ rss) = ⊥
AllReadings remaining (r ∷ rest) [] = ⊥
AllReadings remaining (r ∷ rest) (rs ∷ rss) = ((bytes : List ℕ) × (remaining r ≡ Some bytes) × IsReading bytes rs) × AllReadings remaining rest rss

-- a whole input was read, and its table joined to that before
pub record Joins (K : Kind) (old new : Option (List ℕ)) (before after : Table) : Type 0 where
  pub table : Table
  pub reads : Reads K old new table
  pub joined : after ≡ join_tables before table

-- One input, with what is before and after it. Those before it have tables, and those after it were not touched; no
-- other count of faults changed, and its own changed exactly if the device failed.
pub record InputFails {R : Type 0} (remaining : R → Option (List ℕ)) (faults : R → ℕ) (olds news : List R) (e : InputError) : Type 0 where
  pub earlier : List R
  pub earlier_new : List R
  pub later : List R
  pub old : R
  pub new : R
  pub were : olds ≡ earlier ++ old ∷ later
  pub are : news ≡ earlier_new ++ new ∷ later
  pub which : e.input ≡ length earlier + 1
  pub tables : List Table
  pub have_tables : TablesAre remaining earlier tables
  pub counts : map faults earlier_new ≡ map faults earlier
  pub io : (e.error.fault ≡ Io) ↔ (faults new ≢ faults old)
  pub fault : GivesFault inputs (remaining old) (Err e.error)
  pub faulty : RefusesFaulty inputs (remaining old) (Err e.error)
  pub cut : FailsAfter inputs (remaining old) (remaining new) (Err e.error)

-- the first input that is no file is this one, and has this fault
pub record IsFirstFaulty {R : Type 0} (remaining : R → Option (List ℕ)) (all : List R) (input : ℕ) (fault : ReadingFault) (number : ℕ) : Type 0 where
  pub earlier : List R
  pub tables : List Table
  pub tell : AllTell remaining earlier tables
  pub old : R
  pub later : List R
  pub were : all ≡ earlier ++ old ∷ later
  pub which : input ≡ length earlier + 1
  pub bytes : List ℕ
  pub told : remaining old ≡ Some bytes
  pub faulty : inputs.IsFaulty bytes fault number
