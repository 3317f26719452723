-- Square roots of whole numbers, and quotients by their bounds.
use Rattle.std.proofs.Common.{arith, ◌≡◌, ℕ, zero, suc, ◌+◌, ◌*◌, ◌<◌, ◌≤◌, refl, Bool, true, false}
use Rattle.std.specs.Prelude.{nat_le, if◌then◌else◌}
use Rattle.std.proofs.lemmas.Nat.{mul-le}
use Rattle.udfs_page.specs.Spirals.{IsRoot, root}

-- a square below another has a smaller root
smaller : (a b n : ℕ) → a * a ≤ n → n < (b + 1) * (b + 1) → a ≤ b
smaller a b n h g = grind (arith, mul-le)

-- the root is one
step : (n r : ℕ) (b : Bool) → nat_le ((r + 1) * (r + 1)) (suc n) ≡ b → IsRoot n r → IsRoot (suc n) (if b then r + 1 else r)
step n r true e h = record { square = grind (arith, e); next = grind (arith, h.next) }
step n r false e h = record { square = grind (arith, h.square); next = grind (arith, e) }

pub root_is_root : (n : ℕ) → IsRoot n (root n)
unfolding root
root_is_root zero = record { square = omega arith; next = omega arith }
root_is_root (suc n) = step n (root n) _ refl (root_is_root n)

-- whatever is a root is the root
pub root_is : (n r : ℕ) → r * r ≤ n → n < (r + 1) * (r + 1) → r ≡ root n
root_is n r h g =
    let is = root_is_root n in
    let below : r ≤ root n = smaller r (root n) n h is.next in
    let above : root n ≤ r = smaller (root n) r n is.square g in
    omega (arith, below, above)

-- a root is at least what has a square that is at most the number
pub root_least : (n r : ℕ) → 240000 * 240000 ≤ n → n < (r + 1) * (r + 1) → 240000 ≤ r
root_least n r h g = smaller 240000 r n h g
