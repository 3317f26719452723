-- A cut field of 2048 bytes is a block that was not joined.
use Rattle.std.proofs.Common.{ℕ, ◌<◌, List, length, Option}
use Rattle.udfs_reading.specs.declared.error.ReadingError.{ReadingError}
use Rattle.udfs_reading.specs.declared.error.ReadingFault.{ReadingFault}
use Rattle.udfs_reading.specs.declared.error.ReadingFault.TheVariants.{OutOfMemory}
use Rattle.udfs_reading.specs.Field.{CutBy, CutsField, BlockFailsBy, BlockFails}

cut_why : (fault : ReadingFault) (got : List ℕ) (rest : Option (List ℕ)) (i j : ℕ) → length got < 2048 → CutBy fault rest i j → BlockFailsBy fault got rest i j
cut_why OutOfMemory got rest i j short why = absurd why
cut_why _ got rest i j short why = (short, why)

pub block_cut : {a b : Option (List ℕ)} {i j number : ℕ} {e : ReadingError} → CutsField a b i j 2048 number e → BlockFails a b i j number e
block_cut {a} {b} {i} {j} {number} {e} h = record { got = h.got; given = h.given; why = cut_why e.fault h.got b i j h.short h.why; which = h.which }
