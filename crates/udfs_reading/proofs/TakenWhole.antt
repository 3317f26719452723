-- A reading whose records are known without reading, as an input that is read.
use Rattle.std.proofs.Common.{◌≡◌, ℕ, ◌^◌, ◌<◌, List, [], ◌++◌, length, Option, refl, sym, subst, ◌∙◌, append_assoc, append-nil}
use Rattle.std.specs.List.{flat_map}
use Rattle.udfs_lattice.specs.Records.{Record, table_of}
use Rattle.udfs_lattice.specs.Tables.{Table}
use Rattle.udfs_reading.specs.declared.error.ReadingFault.{ReadingFault}
use Rattle.udfs_reading.specs.declared.error.ReadingFault.TheVariants.{Io, OutOfMemory}
use Rattle.udfs_reading.specs.Format.{header, number}
use Rattle.udfs_reading.specs.Gains.{Gains, LeavesReading, TakesReading}
use Rattle.udfs_reading.specs.Inputs.{inputs}
use Rattle.udfs_reading.specs.Outcome.{HeaderIsSound, Stops}
use Rattle.udfs_reading.specs.Reading.{magic, front, record_bytes, AreRecords, readings}
use Rattle.udfs_reading.specs.Several.{Joins}
use Rattle.udfs_reading.proofs.JudgeRecords.{header_is_sound}
use Rattle.udfs_reading.proofs.Magics.{readings_at}

-- behind the magic of a reading
behind : ℕ → List Record → List ℕ
behind count rs = number 2048 ++ (number count ++ flat_map record_bytes rs)

header_behind : (count : ℕ) (more : List ℕ) → header magic count ++ more ≡ magic ++ (number 2048 ++ (number count ++ more))
header_behind count more = append_assoc (magic ++ number 2048) (number count) more ∙ append_assoc magic (number 2048) (number count ++ more)

is_behind : (count : ℕ) (rs : List Record) → front count rs ≡ magic ++ behind count rs
unfolding behind
is_behind count rs = header_behind count (flat_map record_bytes rs)

-- it is an input
is_input : (rs : List Record) → length rs < 2 ^ 32 → AreRecords rs → inputs.IsFile (front (length rs) rs) (length rs) (table_of rs)
is_input rs few each =
    let file : readings.IsFile (front (length rs) rs) (length rs) (table_of rs) = (rs, record { count = few; each = each; spelled = refl }, refl, refl) in
    subst (λ (l : List ℕ). inputs.IsFile l (length rs) (table_of rs)) (sym (is_behind (length rs) rs))
    (readings_at.file (behind (length rs) rs) (length rs) (table_of rs) (subst (λ (l : List ℕ). readings.IsFile l (length rs) (table_of rs)) (is_behind (length rs) rs) file))

-- all of it was taken
pub gains_reading : {old new : Table → Type 0} {a b : Option (List ℕ)} → TakesReading old new a b → Gains old new (Joins inputs a b)
gains_reading h =
    record {
      read = table_of h.records;
      each = λ t. record {
        table = table_of h.records;
        reads = record { got = front (length h.records) h.records; count = length h.records; given = h.given; end = h.end; file = is_input h.records h.few h.each };
        joined = refl;
      };
      took = h.took;
    }

-- by a taker that is as it was before
pub taken_since : {older old new : Table → Type 0} {a b : Option (List ℕ)} → ((t : Table) → older t → old t) → TakesReading old new a b → TakesReading older new a b
taken_since same h = record { records = h.records; few = h.few; each = h.each; given = h.given; end = h.end; took = λ t p. h.took t (same t p) }

-- the header of a reading that has records
sound : (count : ℕ) → count < 2 ^ 32 → 0 < count → HeaderIsSound readings (header magic count)
sound count few some =
    let none : front count [] ++ [] ≡ header magic count = append-nil (front count []) ∙ append-nil (header magic count) in
    subst (HeaderIsSound readings) none (header_is_sound count [] [] (record { more = some; fits = few; each = tt }))

sound_input : (count : ℕ) → count < 2 ^ 32 → 0 < count → HeaderIsSound inputs (header magic count)
sound_input count few some =
    let h = sound count few some in
    record {
      fault = λ more f m has. h.fault more f m (subst (λ (l : List ℕ). readings.IsFaulty l f m) (sym (header_behind count more)) (readings_at.faulty_back (number 2048 ++ (number count ++ more)) f m (subst (λ (l : List ℕ). inputs.IsFaulty l f m) (header_behind count more) has)));
      file = λ more n t is. h.file more n t (subst (λ (l : List ℕ). readings.IsFile l n t) (sym (header_behind count more)) (readings_at.file_back (number 2048 ++ (number count ++ more)) n t (subst (λ (l : List ℕ). inputs.IsFile l n t) (header_behind count more) is)));
    }

IsMemory : ReadingFault → Type 0
IsMemory OutOfMemory = Unit {0}
IsMemory fault = ⊥

no_device : OutOfMemory ≡ Io → ⊥
unfolding IsMemory
no_device e = subst IsMemory e tt

-- not all of it was
pub stops_reading : {a b : Option (List ℕ)} (i j k : ℕ) → j ≡ i → LeavesReading a b k → Stops inputs a b i j (record { fault = OutOfMemory; number = k })
stops_reading i j k same h =
    record {
      ahead = h.ahead;
      ends = record { got = header magic h.count; given = h.given; why = (same, sound_input h.count h.few h.some, h.first) };
      empty = λ e. absurd (no_device e);
    }
