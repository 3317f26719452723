-- Plain facts of what is found, of order, and of what stands in a list.
use Rattle.std.proofs.Common.{◌≡◌, refl, sym, ◌∙◌, ap, inl, inr, ◌⊎◌, ℕ, ◌<◌, ◌≤◌, Bool, true, false, List, [], ◌∷◌, filter, map, cond, arith, Option, Some, None}
use Rattle.udfs_lattice.specs.Volumes.{Blocks, Volume, Agrees, complete}
use Rattle.udfs_lattice.proofs.Inclusion.{Includes}
use Rattle.udfs_lattice.specs.declared.facts.Fact.TheVariants.{Known}
use Rattle.udfs_lattice.proofs.PublicLaws.{complete_knows}
use Rattle.udfs_volume.specs.Answers.{Answer, found, holes, faulty, and_then, unless_fault}
use Rattle.udfs_volume.specs.Sequence.{Bytes}
use Rattle.udfs_volume.specs.declared.faults.VolumeFault.{VolumeFault}

pub found_same : {A : Type 0} (x y : A) → found x ≡ found y → x ≡ y
found_same x y e = cc

-- what is found in two steps is found in each
pub and_then-found : {A B : Type 0} (x : Answer A) (f : A → Answer B) (y : B) → and_then x f ≡ found y → (a : A) × (x ≡ found a) × (f a ≡ found y)
and_then-found (found a) f y e = (a, refl, e)
and_then-found (holes ns) f y e = absurd (let z : ⊥ = cc in z)
and_then-found (faulty g) f y e = absurd (let z : ⊥ = cc in z)

-- and what is found had no fault
pub unless_fault-found : {A : Type 0} (o : Option VolumeFault) (x y : A) → unless_fault o x ≡ found y → (o ≡ None) × (x ≡ y)
unless_fault-found None x y e = (refl, found_same x y e)
unless_fault-found (Some f) x y e = absurd (let z : ⊥ = cc in z)

-- what is known of a volume that agrees is the volume's
pub known_is : (M : Blocks) (V : Volume) (N : ℕ) → Agrees M V N → (n : ℕ) (bytes : Bytes) → M n ≡ Known bytes → M n ≡ Known (V n)
known_is M V N a n bytes e = e ∙ ap Known (a.known n bytes e)

-- with all known, a block up to the last one has its bytes
pub complete-known : (V : Volume) (N n : ℕ) → n ≤ N → complete V N n ≡ Known (V n)
complete-known V N n h = (complete_knows V N n (V n)).1 (h, refl)

pub true_false : {A : Type 0} → (b : Bool) → b ≡ true → b ≡ false → A
true_false b t f = absurd (let no : ⊥ = cc in no)

pub le_or_lt : (a b : ℕ) → (a ≤ b) ⊎ (b < a)
le_or_lt a b = grind arith

pub Includes-map : {A B : Type 0} (f : A → B) (xs : List A) (x : A) → Includes xs x → Includes (map f xs) (f x)
Includes-map f [] x i = i
Includes-map f (y ∷ ys) x (inl p) = inl (ap f p)
Includes-map f (y ∷ ys) x (inr i) = inr (Includes-map f ys x i)

pub Includes-from_filter : (test : ℕ → Bool) (xs : List ℕ) (x : ℕ) → Includes (filter test xs) x → Includes xs x × (test x ≡ true)
Includes-from_filter test [] x h = absurd h
Includes-from_filter test (y ∷ ys) x h = go (Includes-from_filter test ys x) (test y) refl h
  where
    go : (Includes (filter test ys) x → Includes ys x × (test x ≡ true)) → (b : Bool) → test y ≡ b → Includes (cond b (y ∷ filter test ys) (filter test ys)) x → Includes (y ∷ ys) x × (test x ≡ true)
    go later true e (inl p) = (inl p, sym (ap test p) ∙ e)
    go later true e (inr i) = (inr (later i).0, (later i).1)
    go later false e i = (inr (later i).0, (later i).1)
