-- What a call that reads a file says of the source.
use Rattle.std.specs.Prelude.{◌≡◌, ℕ, ◌+◌, ◌%◌, ◌^◌, ◌<◌, List, [], ◌++◌, Option, ◌⊎◌}
use Rattle.std.specs.Io.KnownBytes.{Consumes, IsAtEnd}
use Rattle.udfs_lattice.specs.Tables.{Table, join_tables}
use Rattle.udfs_reading.specs.declared.error.ReadingError.{ReadingError}
use Rattle.udfs_reading.specs.declared.error.ReadingFault.{ReadingFault}
use Rattle.udfs_reading.specs.declared.error.ReadingFault.TheVariants.{Truncated, Io, OutOfMemory}
use Rattle.udfs_reading.specs.Device.{left}
use Rattle.udfs_reading.specs.Kind.{Kind}

-- the bytes have no fault but a cut at their end; the number is the record of the cut, or with no cut the count
abbrev pub StopsAt : Kind → List ℕ → ℕ → Type 0
StopsAt K got number = K.IsFaulty got Truncated number ⊎ ((table : Table) × K.IsFile got number table)

-- whatever follows these bytes, their header has no fault and says that there are records
pub record HeaderIsSound (K : Kind) (got : List ℕ) : Type 0 where
  pub fault : (more : List ℕ) (fault : ReadingFault) (number : ℕ) → K.IsFaulty (got ++ more) fault number → 0 < number
  pub file : (more : List ℕ) (count : ℕ) (table : Table) → K.IsFile (got ++ more) count table → 0 < count

-- why a call ended after these bytes; `rest` is what the source has left, and `old` and `new` are its counts of faults
abbrev pub Explains : Kind → List ℕ → Option (List ℕ) → ℕ → ℕ → ReadingFault → ℕ → Type 0
Explains K got rest old new Io number = (new ≡ (old + 1) % 2 ^ 64) × StopsAt K got number
Explains K got rest old new OutOfMemory number = (new ≡ old) × HeaderIsSound K got × (0 < number)
Explains K got rest old new Truncated number = (new ≡ old) × K.IsFaulty got Truncated number × IsAtEnd rest
Explains K got rest old new fault number = (new ≡ old) × K.IsFaulty got fault number

-- the call ended with this error, after the bytes `front` that had come before
pub record Ends (K : Kind) (front : List ℕ) (old new : Option (List ℕ)) (i j : ℕ) (e : ReadingError) : Type 0 where
  pub got : List ℕ
  pub given : Consumes old new got
  pub why : Explains K (front ++ got) new i j e.fault e.number

-- the rest of a file was read, to the end of the source, and the file's table was joined to that before
pub record Takes (K : Kind) (front : List ℕ) (old new : Option (List ℕ)) (before after : Table) : Type 0 where
  pub got : List ℕ
  pub count : ℕ
  pub table : Table
  pub given : Consumes old new got
  pub end : IsAtEnd new
  pub file : K.IsFile (front ++ got) count table
  pub joined : after ≡ join_tables before table

-- a whole file was read, to the end of the source, and this is its table
pub record Reads (K : Kind) (old new : Option (List ℕ)) (table : Table) : Type 0 where
  pub got : List ℕ
  pub count : ℕ
  pub given : Consumes old new got
  pub end : IsAtEnd new
  pub file : K.IsFile got count table

-- the call ended with this error; where the device failed, nothing was read ahead of what was judged
pub record Stops (K : Kind) (old new : Option (List ℕ)) (i j : ℕ) (e : ReadingError) : Type 0 where
  pub ahead : List ℕ
  pub ends : Ends K [] old (left ahead new) i j e
  pub empty : e.fault ≡ Io → ahead ≡ []
