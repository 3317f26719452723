-- What an output has of the bytes of a node, or why they were not written.
use Rattle.std.proofs.Common.{◌≡◌, ◌≢◌, ◌∙◌, ◌++◌, List, [], None, Option, Some, ℕ, ap, refl}
use Rattle.std.specs.Prelude.{Err}
use Rattle.std.specs.Io.KnownBytes.{Appends}
use Rattle.udfs_host_fs.specs.Disk.{SinkFails}
use Rattle.udfs_reading.specs.Device.{Stream}
use Rattle.udfs_salvage.specs.Extraction.{Extracts}
use Rattle.udfs_salvage.specs.StoreExtraction.{StoreExtracts}
use Rattle.udfs_salvage.specs.declared.extraction.ExtractError.{ExtractError}
use Rattle.udfs_salvage.specs.declared.extraction.ExtractError.TheVariants.{NotWhole, Write, OutOfMemory}
use Rattle.udfs_salvage.specs.declared.extraction.StoreExtractError.{StoreExtractError}
use Rattle.udfs_salvage.specs.declared.extraction.StoreExtractError.TheVariants.{Extract, Unread}

-- memory did not run out, so the sink failed
pub sink_failed : {S : Type 0} (X : Type 0) (stream : S → Stream) (old new : S) (bytes : List ℕ) (error : ExtractError) → (error ≢ OutOfMemory) → Extracts {X = X} (stream old) (stream new) bytes (Err error) → SinkFails stream
sink_failed X stream old new bytes NotWhole lasts wrote = absurd wrote
sink_failed X stream old new bytes Write lasts wrote = (old, new, wrote.moved)
sink_failed X stream old new bytes OutOfMemory lasts wrote = absurd (lasts refl)

-- nor did a read fail
pub store_sink_failed : {S : Type 0} (X : Type 0) (stream : S → Stream) (old new : S) (bytes : List ℕ) (error : StoreExtractError) → (error ≢ Extract OutOfMemory) → (error ≢ Unread) → StoreExtracts {X = X} (stream old) (stream new) bytes (Err error) → SinkFails stream
store_sink_failed X stream old new bytes (Extract NotWhole) lasts reads wrote = absurd wrote
store_sink_failed X stream old new bytes (Extract Write) lasts reads wrote = (old, new, wrote.moved)
store_sink_failed X stream old new bytes (Extract OutOfMemory) lasts reads wrote = absurd (lasts refl)
store_sink_failed X stream old new bytes Unread lasts reads wrote = absurd (reads refl)

-- what was written to an output that had nothing is all that it has
pub from_nothing : (old new : Option (List ℕ)) (bytes : List ℕ) → old ≡ Some [] → Appends old new bytes → new ≡ Some bytes
from_nothing None new bytes is more = let bad : None ≡ Some [] = is in absurd (let no : ⊥ = cc in no)
from_nothing (Some xs) None bytes is more = absurd more
from_nothing (Some xs) (Some ys) bytes is more = let e : xs ≡ [] = cc in ap (λ l. Some l) (more ∙ ap (λ l. l ++ bytes) e)
