-- What a table that agrees with a volume knows is the volume's.
use Rattle.std.proofs.Common.{◌≡◌, ◌≢◌, refl, sym, ◌∙◌, ap, inl, inr, ◌⊎◌, ℕ, ◌<◌, ◌≤◌, Bool, true, false, List, [], ◌∷◌, filter, cond, ◌&&◌, arith, Some, None}
use Rattle.std.proofs.lemmas.Bool.{le-leb}
use Rattle.udfs_lattice.specs.States.{is_known, State}
use Rattle.udfs_tag.specs.Tags.{is_valid}
use Rattle.udfs_volume.specs.Sequence.{first_anchor, or_else, anchor_here, Bytes}
use Rattle.udfs_lattice.specs.Volumes.{Blocks, Volume, Agrees, complete}
use Rattle.udfs_lattice.proofs.Inclusion.{Includes}
use Rattle.udfs_lattice.specs.declared.facts.Fact.TheVariants.{Unknown, Known, Conflict}

pub true_false : {A : Type 0} → (b : Bool) → b ≡ true → b ≡ false → A
true_false b t f = absurd (let no : ⊥ = cc in no)

pub both : (a b : Bool) → (a && b) ≡ true → (a ≡ true) × (b ≡ true)
both true true h = (refl, refl)
both true false h = absurd (let no : ⊥ = cc in no)
both false b h = absurd (let no : ⊥ = cc in no)

pub complete-known : (V : Volume) (N n : ℕ) → n ≤ N → complete V N n ≡ Known (V n)
complete-known V N n h = ap (λ b. cond b (Known (V n)) Unknown) (le-leb n N h)

pub le_or_lt : (a b : ℕ) → (a ≤ b) ⊎ (b < a)
le_or_lt a b = grind arith

pub known_is : (M : Blocks) (V : Volume) (N : ℕ) → Agrees M V N → (n : ℕ) (bytes : Bytes) → M n ≡ Known bytes → M n ≡ Known (V n)
known_is M V N a n bytes e = e ∙ ap Known (a.known n bytes e)

pub known_below : (M : Blocks) (V : Volume) (N : ℕ) → Agrees M V N → (n : ℕ) (bytes : Bytes) → M n ≡ Known bytes → n ≤ N
known_below M V N a n bytes e = go (le_or_lt n N)
  where
    go : (n ≤ N) ⊎ (N < n) → n ≤ N
    go (inl h) = h
    go (inr h) = absurd (let u : M n ≡ Unknown = a.above n h in let no : ⊥ = cc in no)

pub unknown_if : (s : State) → s ≡ Unknown → is_known s ≡ false
unknown_if s e = ap is_known e

pub conflict_if : (s : State) → s ≡ Conflict → is_known s ≡ false
conflict_if s e = ap is_known e

pub some_in : (xs : List ℕ) → xs ≢ [] → (n : ℕ) × Includes xs n
some_in [] h = absurd (h refl)
some_in (x ∷ xs) h = (x, inl refl)

pub Includes-filter : (test : ℕ → Bool) (xs : List ℕ) (x : ℕ) → Includes xs x → test x ≡ true → Includes (filter test xs) x
Includes-filter test [] x h t = h
Includes-filter test (y ∷ ys) x h t = go (λ i. Includes-filter test ys x i t) (test y) refl h
  where
    go : (Includes ys x → Includes (filter test ys) x) → (b : Bool) → test y ≡ b → Includes (y ∷ ys) x → Includes (cond b (y ∷ filter test ys) (filter test ys)) x
    go later true e (inl p) = inl p
    go later true e (inr i) = inr (later i)
    go later false e (inl p) = true_false (test y) (ap test p ∙ t) e
    go later false e (inr i) = later i

pub Includes-from_filter : (test : ℕ → Bool) (xs : List ℕ) (x : ℕ) → Includes (filter test xs) x → Includes xs x × (test x ≡ true)
Includes-from_filter test [] x h = absurd h
Includes-from_filter test (y ∷ ys) x h = go (Includes-from_filter test ys x) (test y) refl h
  where
    go : (Includes (filter test ys) x → Includes ys x × (test x ≡ true)) → (b : Bool) → test y ≡ b → Includes (cond b (y ∷ filter test ys) (filter test ys)) x → Includes (y ∷ ys) x × (test x ≡ true)
    go later true e (inl p) = (inl p, sym (ap test p) ∙ e)
    go later true e (inr i) = (inr (later i).0, (later i).1)
    go later false e i = (inr (later i).0, (later i).1)

-- the first anchor of a table is one of the volume's, or none of those is known
pub data FirstAnchor (M : Blocks) (V : Volume) (ns : List ℕ) : Type 0 where
  one_known : (n : ℕ) → Includes ns n → is_valid (V n) n 2 ≡ true → M n ≡ Known (V n) → first_anchor M ns ≡ Some (V n) → FirstAnchor M V ns
  none_known : first_anchor M ns ≡ None → ((n : ℕ) → Includes ns n → is_valid (V n) n 2 ≡ true → is_known (M n) ≡ false) → FirstAnchor M V ns

skip : (M : Blocks) (V : Volume) (n : ℕ) (ns : List ℕ) → first_anchor M (n ∷ ns) ≡ first_anchor M ns
    → (is_valid (V n) n 2 ≡ true → is_known (M n) ≡ false) → FirstAnchor M V ns → FirstAnchor M V (n ∷ ns)
skip M V n ns s u (one_known m i v k f) = one_known m (inr i) v k (s ∙ f)
skip M V n ns s u (none_known f all) = none_known (s ∙ f) each
  where
    each : (m : ℕ) → Includes (n ∷ ns) m → is_valid (V m) m 2 ≡ true → is_known (M m) ≡ false
    each m (inl p) v = sym (ap (λ x. is_known (M x)) p) ∙ u (ap (λ x. is_valid (V x) x 2) p ∙ v)
    each m (inr i) v = all m i v

pub first_anchor_lem : (M : Blocks) (V : Volume) (N : ℕ) → Agrees M V N → (ns : List ℕ) → FirstAnchor M V ns
first_anchor_lem M V N a [] = none_known refl (λ n h. absurd h)
first_anchor_lem M V N a (n ∷ ns) = go (first_anchor_lem M V N a ns) (M n) refl
  where
    found_here : M n ≡ Known (V n) → FirstAnchor M V ns → (b : Bool) → is_valid (V n) n 2 ≡ b → FirstAnchor M V (n ∷ ns)
    found_here e later true v = one_known n (inl refl) v e
        (ap (λ s. or_else (anchor_here n s) (first_anchor M ns)) e ∙ ap (λ b. or_else (cond b (Some (V n)) None) (first_anchor M ns)) v)
    found_here e later false v = skip M V n ns
        (ap (λ s. or_else (anchor_here n s) (first_anchor M ns)) e ∙ ap (λ b. or_else (cond b (Some (V n)) None) (first_anchor M ns)) v)
        (λ t. true_false (is_valid (V n) n 2) t v) later

    go : FirstAnchor M V ns → (s : State) → M n ≡ s → FirstAnchor M V (n ∷ ns)
    go later Unknown e = skip M V n ns (ap (λ s. or_else (anchor_here n s) (first_anchor M ns)) e) (λ v. ap is_known e) later
    go later (Known bytes) e = found_here (known_is M V N a n bytes e) later (is_valid (V n) n 2) refl
    go later Conflict e = skip M V n ns (ap (λ s. or_else (anchor_here n s) (first_anchor M ns)) e) (λ v. ap is_known e) later
