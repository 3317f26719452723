-- The best number among those gone through so far, and the copy of a sparing table that is found so.
use Rattle.std.proofs.Common.{◌≡◌, ◌≢◌, refl, sym, ◌∙◌, ap, inl, inr, ◌⊎◌, ℕ, ◌+◌, ◌<◌, ◌≤◌, Bool, true, false, not, List, [], ◌∷◌, ◌++◌, drop, filter, cond, ◌&&◌, arith, append_assoc, append-nil, nat_le, nat_lt, Option, Some, None}
use Rattle.std.specs.Prelude.{find, is_none}
use Rattle.std.specs.List.{list_all, range_with_len}
use Rattle.std.proofs.lemmas.Bool.{le-leb, lt-leb, ltb-true, ltb-false}
use Rattle.byteorder.specs.Endian.{little_number}
use Rattle.udfs_lattice.specs.States.{State, is_known}
use Rattle.udfs_lattice.specs.Volumes.{Blocks, first_known, first_known_by}
use Rattle.udfs_lattice.specs.declared.facts.Fact.TheVariants.{Unknown, Known, Conflict}
use Rattle.udfs_lattice.proofs.Inclusion.{Includes}
use Rattle.udfs_tag.specs.Tags.{is_valid}
use Rattle.udfs_volume.specs.Layout.{blocks_in}
use Rattle.udfs_volume.specs.Sequence.{Bytes}
use Rattle.udfs_space.specs.Parts.{better, best_with, number_at}
use Rattle.udfs_space.specs.Sparing.{copies, first_highest, is_whole_copy, sparing_table_bytes, table_number, unread}

-- ---- the first number with the highest rank
all_true : (f : ℕ → Bool) (xs : List ℕ) → ((x : ℕ) → Includes xs x → f x ≡ true) → list_all f xs ≡ true
all_true f [] h = refl
all_true f (x ∷ xs) h = λ i. h x (inl refl) i && all_true f xs (λ y j. h y (inr j)) i

one_false : (f : ℕ → Bool) (front : List ℕ) (m : ℕ) (back : List ℕ) → f m ≡ false → list_all f (front ++ m ∷ back) ≡ false
one_false f [] m back h = ap (λ b. b && list_all f back) h
one_false f (x ∷ front) m back h = go (f x) (one_false f front m back h)
  where
    go : (b : Bool) → list_all f (front ++ m ∷ back) ≡ false → (b && list_all f (front ++ m ∷ back)) ≡ false
    go true e = e
    go false e = refl

find_split : (p : ℕ → Bool) (front : List ℕ) (m : ℕ) (back : List ℕ) → ((x : ℕ) → Includes front x → p x ≡ false) → p m ≡ true → find p (front ++ m ∷ back) ≡ Some m
find_split p [] m back h e = ap (λ b. cond b (Some m) (find p back)) e
find_split p (x ∷ front) m back h e = ap (λ b. cond b (Some x) (find p (front ++ m ∷ back))) (h x (inl refl)) ∙ find_split p front m back (λ y j. h y (inr j)) e

in_append : (xs ys : List ℕ) (x : ℕ) → Includes (xs ++ ys) x → Includes xs x ⊎ Includes ys x
in_append [] ys x h = inr h
in_append (y ∷ xs) ys x (inl e) = inl (inl e)
in_append (y ∷ xs) ys x (inr h) = go (in_append xs ys x h)
  where
    go : Includes xs x ⊎ Includes ys x → Includes (y ∷ xs) x ⊎ Includes ys x
    go (inl j) = inl (inr j)
    go (inr j) = inr j

-- all before m have a lower rank, and none behind it a higher one
record IsFirst (rank : ℕ → ℕ) (m : ℕ) (front back : List ℕ) : Type 0 where
  pub lower : (x : ℕ) → Includes front x → rank x < rank m
  pub none_higher : (x : ℕ) → Includes back x → rank x ≤ rank m

is_highest : (rank : ℕ → ℕ) (m : ℕ) (front back : List ℕ) → IsFirst rank m front back → first_highest rank (front ++ m ∷ back) ≡ Some m
is_highest rank m front back h = find_split (λ d. list_all (λ other. nat_le (rank other) (rank d)) (front ++ m ∷ back)) front m back
    (λ x j. one_false (λ other. nat_le (rank other) (rank x)) front m back (lt-leb (rank m) (rank x) (h.lower x j)))
    (all_true (λ other. nat_le (rank other) (rank m)) (front ++ m ∷ back) (λ x j. go x (in_append front (m ∷ back) x j)))
  where
    go : (x : ℕ) → Includes front x ⊎ Includes (m ∷ back) x → nat_le (rank x) (rank m) ≡ true
    go x (inl j) = let l : rank x < rank m = h.lower x j in le-leb (rank x) (rank m) (omega (arith, l))
    go x (inr (inl e)) = let l : rank m ≡ rank x = ap rank e in le-leb (rank x) (rank m) (omega (arith, l))
    go x (inr (inr j)) = le-leb (rank x) (rank m) (h.none_higher x j)

-- the best of what was best before and of some numbers, one after the other
abbrev best_of : (ℕ → ℕ) → Option ℕ → List ℕ → Option ℕ
best_of rank best [] = best
best_of rank best (n ∷ ns) = best_of rank (Some (better rank best n)) ns

best_is : (rank : ℕ → ℕ) (ds : List ℕ) (m : ℕ) (front back : List ℕ) → IsFirst rank m front back → best_of rank (Some m) ds ≡ first_highest rank (front ++ m ∷ (back ++ ds))
best_is rank [] m front back h = sym (ap (λ xs. first_highest rank (front ++ m ∷ xs)) (append-nil back) ∙ is_highest rank m front back h)
best_is rank (d ∷ ds) m front back h = go (nat_lt (rank m) (rank d)) refl (best_is rank ds d (front ++ m ∷ back) []) (best_is rank ds m front (back ++ d ∷ []))
  where
    before_d : rank m < rank d → (x : ℕ) → Includes front x ⊎ Includes (m ∷ back) x → rank x < rank d
    before_d l x (inl j) = let k : rank x < rank m = h.lower x j in omega (arith, k, l)
    before_d l x (inr (inl e)) = let k : rank m ≡ rank x = ap rank e in omega (arith, k, l)
    before_d l x (inr (inr j)) = let k : rank x ≤ rank m = h.none_higher x j in omega (arith, k, l)

    behind : rank d ≤ rank m → (x : ℕ) → Includes back x ⊎ Includes (d ∷ []) x → rank x ≤ rank m
    behind l x (inl j) = h.none_higher x j
    behind l x (inr (inl e)) = let k : rank d ≡ rank x = ap rank e in omega (arith, k, l)
    behind l x (inr (inr j)) = absurd j

    go : (b : Bool) → nat_lt (rank m) (rank d) ≡ b
        → (IsFirst rank d (front ++ m ∷ back) [] → best_of rank (Some d) ds ≡ first_highest rank ((front ++ m ∷ back) ++ d ∷ ds))
        → (IsFirst rank m front (back ++ d ∷ []) → best_of rank (Some m) ds ≡ first_highest rank (front ++ m ∷ ((back ++ d ∷ []) ++ ds)))
        → best_of rank (Some (cond b d m)) ds ≡ first_highest rank (front ++ m ∷ (back ++ d ∷ ds))
    go true e next same = next (record {
      lower = λ x j. before_d (ltb-true (rank m) (rank d) e) x (in_append front (m ∷ back) x j);
      none_higher = λ x j. absurd j;
    }) ∙ ap (first_highest rank) (append_assoc front (m ∷ back) (d ∷ ds))
    go false e next same = same (record {
      lower = h.lower;
      none_higher = λ x j. behind (ltb-false (rank m) (rank d) e) x (in_append back (d ∷ []) x j);
    }) ∙ ap (λ xs. first_highest rank (front ++ m ∷ xs)) (append_assoc back (d ∷ []) ds)

best_all : (rank : ℕ → ℕ) (ds : List ℕ) → best_of rank None ds ≡ first_highest rank ds
best_all rank [] = refl
best_all rank (d ∷ ds) = best_is rank ds d [] [] (record { lower = λ x j. absurd j; none_higher = λ x j. absurd j })

-- the same of those numbers that are kept
abbrev pub best_kept : (ℕ → ℕ) → (ℕ → Bool) → Option ℕ → List ℕ → Option ℕ
best_kept rank keep best [] = best
best_kept rank keep best (n ∷ ns) = best_kept rank keep (best_with rank keep best n) ns

kept : (rank : ℕ → ℕ) (keep : ℕ → Bool) (best : Option ℕ) (ns : List ℕ) → best_kept rank keep best ns ≡ best_of rank best (filter keep ns)
kept rank keep best [] = refl
kept rank keep best (n ∷ ns) = go (keep n) (λ b. kept rank keep b ns)
  where
    go : (b : Bool) → ((best : Option ℕ) → best_kept rank keep best ns ≡ best_of rank best (filter keep ns))
        → best_kept rank keep (cond b (Some (better rank best n)) best) ns ≡ best_of rank best (cond b (n ∷ filter keep ns) (filter keep ns))
    go true later = later (Some (better rank best n))
    go false later = later best

pub best-all : (rank : ℕ → ℕ) (keep : ℕ → Bool) (ns : List ℕ) → best_kept rank keep None ns ≡ first_highest rank (filter keep ns)
best-all rank keep ns = kept rank keep None ns ∙ best_all rank (filter keep ns)

-- ---- a copy of which each block is known
one_test : (T : Blocks) (place k : ℕ) → is_none (first_known T ((place + k) ∷ [])) ≡ not (is_known (T (place + k)))
one_test T place k = go (T (place + k))
  where
    go : (s : State) → is_none (first_known_by (place + k) s None) ≡ not (is_known s)
    go Unknown = refl
    go (Known bytes) = refl
    go Conflict = refl

none_left : (f g : ℕ → Bool) → ((k : ℕ) → f k ≡ not (g k)) → (ks : List ℕ) → filter f ks ≡ [] → list_all g ks ≡ true
none_left f g h [] e = refl
none_left f g h (k ∷ ks) e = go (g k) (h k) (f k) refl e (none_left f g h ks)
  where
    go : (b : Bool) → f k ≡ not b → (c : Bool) → f k ≡ c → cond c (k ∷ filter f ks) (filter f ks) ≡ [] → (filter f ks ≡ [] → list_all g ks ≡ true) → (b && list_all g ks) ≡ true
    go true p true q e later = absurd (let z : ⊥ = cc in z)
    go true p false q e later = later e
    go false p true q e later = absurd (let z : ⊥ = cc in z)
    go false p false q e later = absurd (let z : ⊥ = cc in z)

some_left : (f g : ℕ → Bool) → ((k : ℕ) → f k ≡ not (g k)) → (ks : List ℕ) → filter f ks ≢ [] → list_all g ks ≡ false
some_left f g h [] e = absurd (e refl)
some_left f g h (k ∷ ks) e = go (g k) (h k) (f k) refl e (some_left f g h ks)
  where
    go : (b : Bool) → f k ≡ not b → (c : Bool) → f k ≡ c → cond c (k ∷ filter f ks) (filter f ks) ≢ [] → (filter f ks ≢ [] → list_all g ks ≡ false) → (b && list_all g ks) ≡ false
    go true p true q e later = absurd (let z : ⊥ = cc in z)
    go true p false q e later = later e
    go false p c q e later = refl

known : Blocks → ℕ → ℕ → Bool
known T place k = is_known (T (place + k))

test : Blocks → ℕ → ℕ → Bool
test T place k = is_none (first_known T (copies (place ∷ []) k))

and_false : (b : Bool) → (b && false) ≡ false
and_false true = refl
and_false false = refl

-- what is read of a copy, by a map that has it alone
pub record ReadsAlone (T : Blocks) (size place : ℕ) (s : ℕ) (ts : List ℕ) : Type 0 where
  pub sizes : s ≡ size
  pub tables : ts ≡ place ∷ []

not_whole : (T : Blocks) (size place : ℕ) → unread T (place ∷ []) (blocks_in size) ≢ [] → number_at T size place ≡ None
unfolding known test
not_whole T size place h = ap (λ b. cond (b && is_valid (sparing_table_bytes T size (place ∷ [])) place 0) (Some (table_number T size place)) None)
    (some_left (test T place) (known T place) (one_test T place) (range_with_len 0 (blocks_in size)) h)

pub number-unread : (T : Blocks) (size place s : ℕ) (ts : List ℕ) → ReadsAlone T size place s ts → unread T ts (blocks_in s) ≢ [] → number_at T size place ≡ None
number-unread T size place s ts r h = not_whole T size place (λ e. h ((λ i. unread T (r.tables i) (blocks_in (r.sizes i))) ∙ e))

pub number-invalid : (T : Blocks) (size place s : ℕ) (ts : List ℕ) (bytes : Bytes) → ReadsAlone T size place s ts → bytes ≡ sparing_table_bytes T s ts → is_valid bytes place 0 ≡ false
    → number_at T size place ≡ None
number-invalid T size place s ts bytes r e v = ap (λ b. cond b (Some (table_number T size place)) None)
    (ap (λ b. list_all (λ k. is_known (T (place + k))) (range_with_len 0 (blocks_in size)) && b) (ap (λ x. is_valid x place 0) (sym is) ∙ v)
    ∙ and_false (list_all (λ k. is_known (T (place + k))) (range_with_len 0 (blocks_in size))))
  where
    is : bytes ≡ sparing_table_bytes T size (place ∷ [])
    is = e ∙ (λ i. sparing_table_bytes T (r.sizes i) (r.tables i))

is_whole : (T : Blocks) (size place : ℕ) → unread T (place ∷ []) (blocks_in size) ≡ [] → is_valid (sparing_table_bytes T size (place ∷ [])) place 0 ≡ true → is_whole_copy T size place ≡ true
unfolding known test
is_whole T size place u v = λ i. none_left (test T place) (known T place) (one_test T place) (range_with_len 0 (blocks_in size)) u i && v i

pub number-whole : (T : Blocks) (size place s : ℕ) (ts : List ℕ) (bytes content rest : Bytes) (number : ℕ) → ReadsAlone T size place s ts → unread T ts (blocks_in s) ≡ []
    → bytes ≡ sparing_table_bytes T s ts → is_valid bytes place 0 ≡ true → content ≡ drop 16 bytes → rest ≡ drop 36 content → number ≡ little_number 4 rest
    → Some number ≡ number_at T size place
number-whole T size place s ts bytes content rest number r u e v c d n = ap Some (n ∙ ap (little_number 4) (d ∙ ap (drop 36) (c ∙ ap (drop 16) is)))
    ∙ sym (ap (λ b. cond b (Some (table_number T size place)) None) (is_whole T size place
    ((λ i. unread T (sym r.tables i) (blocks_in (sym r.sizes i))) ∙ u) (ap (λ x. is_valid x place 0) (sym is) ∙ v)))
  where
    is : bytes ≡ sparing_table_bytes T size (place ∷ [])
    is = e ∙ (λ i. sparing_table_bytes T (r.sizes i) (r.tables i))
