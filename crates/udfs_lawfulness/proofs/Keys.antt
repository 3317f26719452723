-- Keys, a number and a list of numbers, and their order.
use Rattle.std.proofs.Common.{◌≡◌, refl, sym, ◌∙◌, ap, ℕ, Bool, true, false, cond, List, inl, inr, ◌⊎◌}
use Rattle.std.specs.Cmp.Lexicographic.{slice_cmp}
use Rattle.std.specs.Ordering.{is_eq, nat_cmp, ordering_then}
use Rattle.std.specs.declared.cmp.Ordering.{Ordering}
use Rattle.std.specs.declared.cmp.Ordering.TheVariants.{Equal, Greater, Less}
use Rattle.std.proofs.lemmas.Cmp.{nat_cmp_total, nat_list_cmp_total, tied_itself}
use Rattle.std.proofs.lemmas.Map.Lookups.{exact_bytes, exact_unsigned}

-- whether the order tells no difference
abbrev pub is_one : ℕ → List ℕ → ℕ → List ℕ → Bool
is_one a x b y = is_eq (ordering_then (nat_cmp a b) (slice_cmp nat_cmp x y))

both : (p q : Ordering) → is_eq (ordering_then p q) ≡ true → (p ≡ Equal) × (q ≡ Equal)
both Less q e = absurd (let no : ⊥ = cc in no)
both Equal Less e = absurd (let no : ⊥ = cc in no)
both Equal Equal e = (refl, refl)
both Equal Greater e = absurd (let no : ⊥ = cc in no)
both Greater q e = absurd (let no : ⊥ = cc in no)

-- then they are the same
pub one_if : (a : ℕ) (x : List ℕ) (b : ℕ) (y : List ℕ) → is_one a x b y ≡ true → (a ≡ b) × (x ≡ y)
one_if a x b y e = let r : (nat_cmp a b ≡ Equal) × (slice_cmp nat_cmp x y ≡ Equal) = both (nat_cmp a b) (slice_cmp nat_cmp x y) e in (exact_unsigned a b r.0, exact_bytes x y r.1)

itself : (a : ℕ) (x : List ℕ) → is_one a x a x ≡ true
itself a x = ap (λ o. is_eq (ordering_then o (slice_cmp nat_cmp x x))) (tied_itself nat_cmp_total a) ∙ ap is_eq (tied_itself nat_list_cmp_total x)

pub if_one : (a : ℕ) (x : List ℕ) (b : ℕ) (y : List ℕ) → a ≡ b → x ≡ y → is_one a x b y ≡ true
if_one a x b y e f = ap (λ n. is_one a x n y) (sym e) ∙ ap (is_one a x a) (sym f) ∙ itself a x

-- ---- what a set has after one more
pub more : (b had has : Bool) → has ≡ cond b true had → has ≡ true → (b ≡ true) ⊎ (had ≡ true)
more true had has e h = inl refl
more false had has e h = inr (sym e ∙ h)

pub added : (b had has : Bool) → has ≡ cond b true had → b ≡ true → has ≡ true
added b had has e h = e ∙ ap (λ v. cond v true had) h

pub still : (b had has : Bool) → has ≡ cond b true had → had ≡ true → has ≡ true
still true had has e h = e
still false had has e h = e ∙ h
