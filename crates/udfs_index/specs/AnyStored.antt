-- What inputs of both kinds hold.
use Rattle.std.specs.Prelude.{ℕ, List, [], Option, Some, ⊤}
use Rattle.udfs_rescue.specs.Blocks.{reading_known}
use Rattle.udfs_index.specs.declared.any_stored.AnyStored.{AnyStored}
use Rattle.udfs_index.specs.declared.any_stored.AnyStored.TheVariants.{File, Paired, Refused}
use Rattle.udfs_index.specs.declared.stored_pair.StoredPair.{StoredPair}

-- by the input's kind: a pair holds the reading of its known blocks, and one that could not be opened has no bytes
abbrev pub stored_in : {S : Type 0} {g : _} → (S → Option (List ℕ)) → AnyStored S g → Option (List ℕ)
stored_in content (File stored) = content stored
stored_in content (Paired pair) = reading_known (content pair.image) pair.blocks
stored_in content (Refused fault) = Some []

-- whether a call may fail, by the input's kind: on a pair that could not be opened it may
abbrev pub fails_in : {S : Type 0} {g : _} → (S → Type 0) → (StoredPair S g → Type 0) → AnyStored S g → Type 0
fails_in file pair (File stored) = file stored
fails_in file pair (Paired stored) = pair stored
fails_in file pair (Refused fault) = ⊤
