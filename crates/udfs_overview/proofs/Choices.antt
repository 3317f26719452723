-- Choices by a test.
use Rattle.std.proofs.Common.{◌≡◌, Bool, true, false, cond, refl}

-- a choice between two values, by the test
pub chosen : {X : Type 0} (P : X → Type 0) (b : Bool) (x y : X) → (b ≡ true → P x) → (b ≡ false → P y) → P (cond b x y)
chosen P true x y p q = p refl
chosen P false x y p q = q refl
