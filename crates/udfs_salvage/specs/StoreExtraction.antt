-- What is written of a node of a store of blocks, wherever their bytes are.
--     PushesNext       what taking the next portion of a body's cells did
--     PassesBody       what taking all bytes of a body did
--     WritesBody       what writing them did
--     StoreExtracts    what writing the bytes of a node did
use Rattle.std.specs.Prelude.{◌≡◌, ⊤, ℕ, Bool, true, false, List, [], ◌++◌, Result, Ok, Err}
use Rattle.udfs_file.specs.declared.cells.Cell.{Cell}
use Rattle.udfs_reading.specs.Device.{Stream}
use Rattle.udfs_reading.specs.Writing.{Failed, FailedPast, Passed, Wrote}
use Rattle.udfs_salvage.specs.Extraction.{Extracts, filled}
use Rattle.udfs_salvage.specs.declared.body_bytes.BodyFault.{BodyFault}
use Rattle.udfs_salvage.specs.declared.body_bytes.BodyFault.TheVariants as body_fault
use Rattle.udfs_salvage.specs.declared.extraction.StoreExtractError.{StoreExtractError}
use Rattle.udfs_salvage.specs.declared.extraction.StoreExtractError.TheVariants.{Extract, Unread}

-- the bytes of the first of these cells were appended to those that were held, and `left` are left; or there are none; or the sink failed at some first ones
abbrev pub PushesNext : Stream → Stream → List ℕ → List ℕ → ℕ → List Cell → List Cell → Result Bool BodyFault → Type 0
PushesNext old new held still fill cells left (Ok true) = (front : List Cell) × (cells ≡ front ++ left) × Passed old new held still (filled fill front)
PushesNext old new held still fill cells left (Ok false) = (cells ≡ []) × (left ≡ []) × (new ≡ old) × (still ≡ held)
PushesNext old new held still fill cells left (Err body_fault.Write) = (front : List Cell) × (rest : List Cell) × (cells ≡ front ++ rest) × FailedPast old new held (filled fill front)
PushesNext old new held still fill cells left (Err body_fault.Unread) = ⊤

-- these bytes were appended to those that were held; or the sink failed first; of what was written before a read failed nothing is said
abbrev pub PassesBody : {X : Type 0} → Stream → Stream → List ℕ → List ℕ → List ℕ → Result X BodyFault → Type 0
PassesBody old new held still bytes (Ok x) = Passed old new held still bytes
PassesBody old new held still bytes (Err body_fault.Write) = FailedPast old new held bytes
PassesBody old new held still bytes (Err body_fault.Unread) = ⊤

-- the same of bytes that were written
abbrev pub WritesBody : {X : Type 0} → Stream → Stream → List ℕ → Result X BodyFault → Type 0
WritesBody old new bytes (Ok x) = Wrote old new bytes
WritesBody old new bytes (Err body_fault.Write) = Failed old new bytes
WritesBody old new bytes (Err body_fault.Unread) = ⊤

-- as of a table's node; of what was written before a read failed nothing is said
abbrev pub StoreExtracts : {X : Type 0} → Stream → Stream → List ℕ → Result X StoreExtractError → Type 0
StoreExtracts old new bytes (Ok x) = Wrote old new bytes
StoreExtracts {X} old new bytes (Err (Extract e)) = Extracts {X = X} old new bytes (Err e)
StoreExtracts old new bytes (Err Unread) = ⊤
