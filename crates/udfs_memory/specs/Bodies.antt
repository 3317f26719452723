-- The bytes of what was opened.
use Rattle.std.specs.Prelude.{ℕ, List}
use Rattle.udfs_memory.specs.declared.descriptor.Body.{Body}
use Rattle.udfs_memory.specs.declared.descriptor.Body.TheVariants.{Stored, Own}

-- the bytes of a file
abbrev pub bytes_of : Body → List ℕ
bytes_of (Stored bytes) = bytes.now
bytes_of (Own bytes) = bytes.items
