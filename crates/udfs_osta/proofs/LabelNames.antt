-- Where a label is a name.
use Rattle.std.proofs.Common.{◌≡◌, ℕ, ◌<◌, ◌≤◌, ◌==◌, nat_lt, false, List, take, get_or, refl, arith}
use Rattle.std.specs.Prelude.{Result, Ok, Err, IsOk}
use Rattle.std.proofs.lemmas.Bool.{false≢true}
use Rattle.std.proofs.lemmas.Bool.Decides.{nat_tests}
use Rattle.udfs_osta.specs.declared.names.NameFault.{NameFault}
use Rattle.udfs_osta.specs.Names.{units_of}
use Rattle.udfs_osta.specs.Labels.{label_of_name, label_of, IsNamed}

from_name : (r : Result (List ℕ) NameFault) → IsOk r → IsNamed (label_of_name r)
from_name (Ok units) h = (units, refl)
from_name (Err fault) h = absurd (false≢true h)

-- a length of 1 to 127, of bytes that are a name
pub IsNamed-label_of : (bytes : List ℕ) → 0 < get_or bytes 127 0 → get_or bytes 127 0 ≤ 127 → IsOk (units_of (take (get_or bytes 127 0) bytes)) → IsNamed (label_of bytes)
IsNamed-label_of bytes some fits h =
    let used = get_or bytes 127 0 in
    let a : (used == 0) ≡ false = grind (arith, nat_tests) in
    let b : nat_lt 127 used ≡ false = grind (arith, nat_tests) in
    rw (a, b) (from_name (units_of (take used bytes)) h)
