-- The descriptor kept so far is the one that prevails among those gone through.
use Rattle.std.proofs.Common.{◌≡◌, refl, sym, ◌∙◌, ap, inl, inr, ◌⊎◌, ◌<◌, ◌≤◌, Bool, true, false, List, [], ◌∷◌, ◌++◌, cond, ◌&&◌, arith, append_assoc, Some, None, nat_le, nat_lt}
use Rattle.std.specs.Prelude.{find}
use Rattle.std.proofs.lemmas.List.{append-nil}
use Rattle.std.specs.List.{list_all}
use Rattle.std.proofs.lemmas.Bool.{le-leb, lt-leb, ltb-true, ltb-false}
use Rattle.udfs_lattice.proofs.Inclusion.{Includes}
use Rattle.udfs_volume.specs.Sequence.{Descriptor}
use Rattle.udfs_volume.specs.Layout.{sequence_number, prevailing}
use Rattle.udfs_volume.specs.Prevailing.{best_of}

all_true : {A : Type 0} (f : A → Bool) (xs : List A) → ((x : A) → Includes xs x → f x ≡ true) → list_all f xs ≡ true
all_true f [] h = refl
all_true f (x ∷ xs) h = λ i. h x (inl refl) i && all_true f xs (λ y j. h y (inr j)) i

one_false : {A : Type 0} (f : A → Bool) (front : List A) (m : A) (back : List A) → f m ≡ false → list_all f (front ++ m ∷ back) ≡ false
one_false f [] m back h = ap (λ b. b && list_all f back) h
one_false f (x ∷ front) m back h = go (f x) (one_false f front m back h)
  where
    go : (b : Bool) → list_all f (front ++ m ∷ back) ≡ false → (b && list_all f (front ++ m ∷ back)) ≡ false
    go true e = e
    go false e = refl

find_split : {A : Type 0} (p : A → Bool) (front : List A) (m : A) (back : List A) → ((x : A) → Includes front x → p x ≡ false) → p m ≡ true → find p (front ++ m ∷ back) ≡ Some m
find_split p [] m back h e = ap (λ b. cond b (Some m) (find p back)) e
find_split p (x ∷ front) m back h e = ap (λ b. cond b (Some x) (find p (front ++ m ∷ back))) (h x (inl refl)) ∙ find_split p front m back (λ y j. h y (inr j)) e

in_append : {A : Type 0} (xs ys : List A) (x : A) → Includes (xs ++ ys) x → Includes xs x ⊎ Includes ys x
in_append [] ys x h = inr h
in_append (y ∷ xs) ys x (inl e) = inl (inl e)
in_append (y ∷ xs) ys x (inr h) = go (in_append xs ys x h)
  where
    go : Includes xs x ⊎ Includes ys x → Includes (y ∷ xs) x ⊎ Includes ys x
    go (inl j) = inl (inr j)
    go (inr j) = inr j

-- all before m have a lower sequence_number, and none behind it a higher one
record IsFirst (m : Descriptor) (front back : List Descriptor) : Type 0 where
  pub lower : (x : Descriptor) → Includes front x → sequence_number x < sequence_number m
  pub none_higher : (x : Descriptor) → Includes back x → sequence_number x ≤ sequence_number m

prevails : (m : Descriptor) (front back : List Descriptor) → IsFirst m front back → prevailing (front ++ m ∷ back) ≡ Some m
prevails m front back h = find_split (λ d. list_all (λ other. nat_le (sequence_number other) (sequence_number d)) (front ++ m ∷ back)) front m back
    (λ x j. one_false (λ other. nat_le (sequence_number other) (sequence_number x)) front m back (lt-leb (sequence_number m) (sequence_number x) (h.lower x j)))
    (all_true (λ other. nat_le (sequence_number other) (sequence_number m)) (front ++ m ∷ back) (λ x j. go x (in_append front (m ∷ back) x j)))
  where
    go : (x : Descriptor) → Includes front x ⊎ Includes (m ∷ back) x → nat_le (sequence_number x) (sequence_number m) ≡ true
    go x (inl j) = let l : sequence_number x < sequence_number m = h.lower x j in le-leb (sequence_number x) (sequence_number m) (omega (arith, l))
    go x (inr (inl e)) = let l : sequence_number m ≡ sequence_number x = ap sequence_number e in le-leb (sequence_number x) (sequence_number m) (omega (arith, l))
    go x (inr (inr j)) = le-leb (sequence_number x) (sequence_number m) (h.none_higher x j)

best_is : (ds : List Descriptor) (m : Descriptor) (front back : List Descriptor) → IsFirst m front back → best_of (Some m) ds ≡ prevailing (front ++ m ∷ (back ++ ds))
best_is [] m front back h = sym (ap (λ xs. prevailing (front ++ m ∷ xs)) (append-nil back) ∙ prevails m front back h)
best_is (d ∷ ds) m front back h = go (nat_lt (sequence_number m) (sequence_number d)) refl (best_is ds d (front ++ m ∷ back) []) (best_is ds m front (back ++ d ∷ []))
  where
    before_d : sequence_number m < sequence_number d → (x : Descriptor) → Includes front x ⊎ Includes (m ∷ back) x → sequence_number x < sequence_number d
    before_d l x (inl j) = let k : sequence_number x < sequence_number m = h.lower x j in omega (arith, k, l)
    before_d l x (inr (inl e)) = let k : sequence_number m ≡ sequence_number x = ap sequence_number e in omega (arith, k, l)
    before_d l x (inr (inr j)) = let k : sequence_number x ≤ sequence_number m = h.none_higher x j in omega (arith, k, l)

    behind : sequence_number d ≤ sequence_number m → (x : Descriptor) → Includes back x ⊎ Includes (d ∷ []) x → sequence_number x ≤ sequence_number m
    behind l x (inl j) = h.none_higher x j
    behind l x (inr (inl e)) = let k : sequence_number d ≡ sequence_number x = ap sequence_number e in omega (arith, k, l)
    behind l x (inr (inr j)) = absurd j

    go : (b : Bool) → nat_lt (sequence_number m) (sequence_number d) ≡ b
        → (IsFirst d (front ++ m ∷ back) [] → best_of (Some d) ds ≡ prevailing ((front ++ m ∷ back) ++ d ∷ ds))
        → (IsFirst m front (back ++ d ∷ []) → best_of (Some m) ds ≡ prevailing (front ++ m ∷ ((back ++ d ∷ []) ++ ds)))
        → best_of (Some (cond b d m)) ds ≡ prevailing (front ++ m ∷ (back ++ d ∷ ds))
    go true e next same = next (record {
      lower = λ x j. before_d (ltb-true (sequence_number m) (sequence_number d) e) x (in_append front (m ∷ back) x j);
      none_higher = λ x j. absurd j;
    }) ∙ ap prevailing (append_assoc front (m ∷ back) (d ∷ ds))
    go false e next same = same (record {
      lower = h.lower;
      none_higher = λ x j. behind (ltb-false (sequence_number m) (sequence_number d) e) x (in_append back (d ∷ []) x j);
    }) ∙ ap (λ xs. prevailing (front ++ m ∷ xs)) (append_assoc back (d ∷ []) ds)

pub best-all : (ds : List Descriptor) → best_of None ds ≡ prevailing ds
best-all [] = refl
best-all (d ∷ ds) = best_is ds d [] [] (record { lower = λ x j. absurd j; none_higher = λ x j. absurd j })
