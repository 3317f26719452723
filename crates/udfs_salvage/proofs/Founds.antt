-- What was found, and what is known: plain facts of the two words.
use Rattle.std.proofs.Common.{◌≡◌, refl, sym, ◌∙◌, ap, ℕ, true, false}
use Rattle.udfs_lattice.specs.States.{State, is_known}
use Rattle.udfs_lattice.specs.Volumes.{Blocks, IsKnownAt}
use Rattle.udfs_lattice.specs.declared.facts.Fact.TheVariants.{Unknown, Known, Conflict}
use Rattle.udfs_volume.specs.Answers.{Answer, found, holes, faulty, and_then}

pub found_same : {A : Type 0} (x y : A) → found x ≡ found y → x ≡ y
found_same x y e = cc

-- what is found in two steps is found in each
pub and_then-found : {A B : Type 0} (x : Answer A) (f : A → Answer B) (y : B) → and_then x f ≡ found y → (a : A) × (x ≡ found a) × (f a ≡ found y)
and_then-found (found a) f y e = (a, refl, e)
and_then-found (holes ns) f y e = absurd (let z : ⊥ = cc in z)
and_then-found (faulty g) f y e = absurd (let z : ⊥ = cc in z)

-- what is known has bytes
pub known_at : (M : Blocks) (n : ℕ) → is_known (M n) ≡ true → IsKnownAt M n
known_at M n e = go (M n) refl e
  where
    go : (s : State) → M n ≡ s → is_known s ≡ true → IsKnownAt M n
    go Unknown q e = absurd (let z : ⊥ = cc in z)
    go (Known bytes) q e = (bytes, q)
    go Conflict q e = absurd (let z : ⊥ = cc in z)

-- no block is known and not known
pub known_not_unread : {A : Type 0} (M : Blocks) (n : ℕ) → IsKnownAt M n → is_known (M n) ≡ false → A
known_not_unread M n (bytes, e) u = absurd (let t : true ≡ false = sym (ap is_known e) ∙ u in let z : ⊥ = cc in z)
