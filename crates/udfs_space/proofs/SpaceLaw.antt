-- Over a lawful volume that agrees with the table, what all copies of a sparing table give together is the volume's, or a block of it is
-- unread in all its copies.
use Rattle.std.proofs.Common.{◌≡◌, refl, sym, ◌∙◌, ap, subst, inl, inr, ◌⊎◌, ℕ, ◌+◌, ◌-◌, ◌/◌, ◌<◌, ◌≤◌, Bool, true, false, List, [], ◌∷◌, length, take, drop, map, filter, ◌++◌, cond, arith, Some, None}
use Rattle.std.specs.Prelude.{zero, suc, flat_map, is_none, Contains}
use Rattle.std.specs.List.{range_with_len}
use Rattle.std.proofs.lemmas.List.Concat.{flat_map-cons}
use Rattle.udfs_lattice.specs.States.{is_known}
use Rattle.udfs_lattice.specs.States.{State}
use Rattle.udfs_lattice.specs.Volumes.{Blocks, first_known, first_known_by, ascending}
use Rattle.udfs_lattice.proofs.Inclusion.{Includes, included, contained, here, there, here_or_there, in_nothing}
use Rattle.udfs_volume.specs.Sequence.{Bytes}
use Rattle.udfs_lattice.specs.Volumes.{Volume, IsVolume, Agrees, complete, IsKnownAt, IsUnread}
use Rattle.udfs_lattice.specs.declared.facts.Fact.TheVariants.{Unknown, Known, Conflict}
use Rattle.udfs_tag.specs.Tags.{is_valid}
use Rattle.udfs_volume.specs.Answers.{Answer, found, holes, and_then}
use Rattle.udfs_volume.specs.Layout.{Partition, PartitionMap, type1, sparable, blocks_in}
use Rattle.udfs_volume.specs.Laws.{AreBounded, IsBoundedMap, ListsGroup, IsAnswerOf, the_same}
use Rattle.udfs_volume.specs.Laws.IsAnswerOf.{unread as unread_answer}
use Rattle.udfs_lattice.proofs.PublicLaws.{ascending_contains, ascending_includes, complete_agrees}
use Rattle.udfs_space.proofs.Facts.{and_then-found, complete-known, found_same, known_is, true_false, unless_fault-found, Includes-from_filter, Includes-map}
use Rattle.udfs_space.specs.Sparing.{Span, Spans, Spared, copies, unread, piece, place_of, sparing_table_bytes, spared_by, spared_from, spared_in, sparing_fault, spared_unless, spared, span_of, span, spans}
use Rattle.udfs_space.specs.Standard.{table_at, first_table}
use Rattle.udfs_space.specs.Laws.{AreTheSameTables, SparingAgrees, IsTableGroup, IsSparingGroup}
use Rattle.udfs_space.proofs.JoinedBlocks.{joined, joined_is, from_place, AreFull, Same, same_joined, same_behind, same_mixed}

-- the first copy of a block that is known is the volume's, or none is known
pub data FirstCopy (T : Blocks) (V : Volume) (tables : List ℕ) (k : ℕ) : Type 0 where
  one_known : (q : ℕ) → Includes tables q → T (q + k) ≡ Known (V (q + k)) → first_known T (copies tables k) ≡ Some (q + k, V (q + k)) → FirstCopy T V tables k
  none_known : first_known T (copies tables k) ≡ None → ((n : ℕ) → Includes (copies tables k) n → is_known (T n) ≡ false) → FirstCopy T V tables k

skip : (T : Blocks) (V : Volume) (q : ℕ) (tables : List ℕ) (k : ℕ) → first_known T (copies (q ∷ tables) k) ≡ first_known T (copies tables k)
    → is_known (T (q + k)) ≡ false → FirstCopy T V tables k → FirstCopy T V (q ∷ tables) k
skip T V q tables k s u (one_known p i e f) = one_known p (inr i) e (s ∙ f)
skip T V q tables k s u (none_known f all) = none_known (s ∙ f) each
  where
    each : (n : ℕ) → Includes (copies (q ∷ tables) k) n → is_known (T n) ≡ false
    each n (inl p) = sym (ap (λ x. is_known (T x)) p) ∙ u
    each n (inr i) = all n i

pub first_copy : (T : Blocks) (V : Volume) (N : ℕ) → Agrees T V N → (tables : List ℕ) (k : ℕ) → FirstCopy T V tables k
first_copy T V N a [] k = none_known refl (λ n i. absurd i)
first_copy T V N a (q ∷ tables) k = go (first_copy T V N a tables k) (T (q + k)) refl
  where
    by : (s : State) → T (q + k) ≡ s → first_known T (copies (q ∷ tables) k) ≡ first_known_by (q + k) s (first_known T (copies tables k))
    by s e = ap (λ x. first_known_by (q + k) x (first_known T (copies tables k))) e

    go : FirstCopy T V tables k → (s : State) → T (q + k) ≡ s → FirstCopy T V (q ∷ tables) k
    go later Unknown e = skip T V q tables k (by Unknown e) (ap is_known e) later
    go later (Known bytes) e = let v : T (q + k) ≡ Known (V (q + k)) = known_is T V N a (q + k) bytes e in one_known q (inl refl) v (by (Known (V (q + k))) v)
    go later Conflict e = skip T V q tables k (by Conflict e) (ap is_known e) later

-- a copy of block k is known
record HasCopy (T : Blocks) (V : Volume) (tables : List ℕ) (k : ℕ) : Type 0 where
  pub from : ℕ
  pub is_table : Includes tables from
  pub known : T (from + k) ≡ Known (V (from + k))
  pub first : first_known T (copies tables k) ≡ Some (from + k, V (from + k))

has_copy : (T : Blocks) (V : Volume) (tables : List ℕ) (k : ℕ) → FirstCopy T V tables k → is_none (first_known T (copies tables k)) ≡ false → HasCopy T V tables k
has_copy T V tables k (one_known q i e f) h = record { from = q; is_table = i; known = e; first = f }
has_copy T V tables k (none_known f all) h = true_false (is_none (first_known T (copies tables k))) (ap is_none f) h

-- A table of which each block has a known copy is the copy from which its block 0 comes.
record TableIs (T : Blocks) (V : Volume) (size : ℕ) (tables : List ℕ) : Type 0 where
  pub from : ℕ
  pub is_table : Includes tables from
  pub place : place_of (first_known T (copies tables 0)) ≡ from
  pub bytes : sparing_table_bytes T size tables ≡ table_at V size from

blocks_from : (size : ℕ) → 56 ≤ size → (m : ℕ) × (blocks_in size ≡ suc m)
blocks_from size h = go ((size + 2047) / 2048) (at_least size h)
  where
    at_least : (size : ℕ) → 56 ≤ size → 1 ≤ (size + 2047) / 2048
    at_least size h = omega (arith, h)

    go : (n : ℕ) → 1 ≤ n → (m : ℕ) × (n ≡ suc m)
    go zero l = absurd (let z : ⊥ = omega (arith, l) in z)
    go (suc m) l = (m, refl)

table_is : (T : Blocks) (V : Volume) (N packet size : ℕ) (tables : List ℕ) → IsVolume V N → AreBounded N packet size tables → AreTheSameTables V size tables
    → ((k : ℕ) → k < blocks_in size → HasCopy T V tables k) → TableIs T V size tables
table_is T V N packet size tables hv b same pick = with_blocks (blocks_from size b.from)
  where
    h : ℕ → Bytes
    h k = piece (first_known T (copies tables k))

    row : ℕ → ℕ → Bytes
    row q k = V (q + k)

    h_is : (k : ℕ) → (c : HasCopy T V tables k) → h k ≡ V (c.from + k)
    h_is k c = ap piece c.first

    full : (n : ℕ) → blocks_in size ≡ n → (q : ℕ) → Includes tables q → AreFull (row q) 0 n
    full n e q i k l m = (hv.each (q + k) (let ends : q + blocks_in size ≤ N + 1 = b.ends q (contained tables q i) in omega (arith, m, e, ends))).whole

    at_start : (n q : ℕ) → flat_map V (range_with_len q n) ≡ flat_map (row q) (range_with_len 0 n)
    at_start n q = ap (λ x. flat_map V (range_with_len x n)) (none q) ∙ from_place V q 0 n
      where
        none : (q : ℕ) → q ≡ q + 0
        none q = omega arith

    copy_is : (n : ℕ) → blocks_in size ≡ n → (q : ℕ) → Includes tables q → table_at V size q ≡ joined (row q) 0 n size
    copy_is n e q i = ap (λ x. take size (flat_map V (range_with_len q x))) e ∙ ap (take size) (at_start n q) ∙ joined_is (row q) 0 n size (full n e q i)

    with_blocks : (m : ℕ) × (blocks_in size ≡ suc m) → TableIs T V size tables
    with_blocks (m, e) = record { from = q; is_table = first.is_table; place = ap place_of first.first ∙ plus_none q; bytes = bytes }
      where
        inside : (k : ℕ) → k < 0 + suc m → k < blocks_in size
        inside k l = omega (arith, l, e)

        first : HasCopy T V tables 0
        first = pick 0 (inside 0 (omega arith))

        q : ℕ
        q = first.from

        plus_none : (q : ℕ) → q + 0 ≡ q
        plus_none q = omega arith

        h_full : AreFull h 0 (suc m)
        h_full k l n = let c : HasCopy T V tables k = pick k (inside k n) in ap length (h_is k c) ∙ full (suc m) e c.from c.is_table k l n

        behind : (p : ℕ) → Includes tables p → Same (row p) (row q) 1 m (size - 2048)
        behind p i = same_behind (row p) (row q) m size b.from (full (suc m) e p i) (full (suc m) e q first.is_table)
            (ap (drop 16) (sym (copy_is (suc m) e p i)) ∙ same.contents p q (contained tables p i) (contained tables q first.is_table) ∙ ap (drop 16) (copy_is (suc m) e q first.is_table))

        rest : Same h (row q) 1 m (size - 2048)
        rest = same_mixed V h (row q) tables 1 m (size - 2048)
            (λ k l n. let c : HasCopy T V tables k = pick k (inside k (omega (arith, n))) in (c.from, c.is_table, h_is k c)) behind

        all : Same h (row q) 0 (suc m) size
        all = (ap (take size) (h_is 0 first), rest)

        bytes : sparing_table_bytes T size tables ≡ table_at V size q
        bytes = ap (λ x. take size (flat_map h (range_with_len 0 x))) e ∙ joined_is h 0 (suc m) size h_full
            ∙ same_joined h (row q) 0 (suc m) size all ∙ sym (copy_is (suc m) e q first.is_table)

spared_is : (T : Blocks) (V : Volume) (last packet size : ℕ) (tables : List ℕ) → AreTheSameTables V size tables → (t : TableIs T V size tables)
    → (p : ℕ) → Includes tables p → spared_by T last packet size tables ≡ spared_from last packet size true (drop 16 (table_at V size p))
spared_is T V last packet size tables same t p i =
    (λ j. spared_from last packet size (is_valid (t.bytes j) (t.place j) 0) (drop 16 (t.bytes j)))
    ∙ (λ j. spared_from last packet size (same.tags t.from (contained tables t.from t.is_table) j) (same.contents t.from p (contained tables t.from t.is_table) (contained tables p i) j))

-- members of a filtered range
in_range : (c n k : ℕ) → Includes (range_with_len c n) k → (c ≤ k) × (k < c + n)
in_range c zero k i = absurd i
in_range c (suc n) k (inl e) = (omega (arith, e), omega (arith, e))
in_range c (suc n) k (inr i) = let r : (c + 1 ≤ k) × (k < c + 1 + n) = in_range (c + 1) n k i in (omega (arith, r.0), omega (arith, r.1))

none_in : (test : ℕ → Bool) (c n : ℕ) → filter test (range_with_len c n) ≡ [] → (k : ℕ) → c ≤ k → k < c + n → test k ≡ false
none_in test c zero e k l m = absurd (let z : ⊥ = omega (arith, l, m) in z)
none_in test c (suc n) e k l m = go (test c) refl e (none_in test (c + 1) n) (here c k l)
  where
    here : (c k : ℕ) → c ≤ k → (c ≡ k) ⊎ (c < k)
    here c k l = grind arith

    go : (b : Bool) → test c ≡ b → cond b (c ∷ filter test (range_with_len (c + 1) n)) (filter test (range_with_len (c + 1) n)) ≡ []
        → (filter test (range_with_len (c + 1) n) ≡ [] → (k : ℕ) → c + 1 ≤ k → k < c + 1 + n → test k ≡ false) → (c ≡ k) ⊎ (c < k) → test k ≡ false
    go true t e later s = absurd (let z : ⊥ = cc in z)
    go false t e later (inl s) = sym (ap test s) ∙ t
    go false t e later (inr s) = later e k (omega (arith, s)) (omega (arith, m))

pub all_out : (test : ℕ → Bool) (c n : ℕ) → ((k : ℕ) → c ≤ k → k < c + n → test k ≡ false) → filter test (range_with_len c n) ≡ []
all_out test c zero h = refl
all_out test c (suc n) h = ap (λ b. cond b (c ∷ filter test (range_with_len (c + 1) n)) (filter test (range_with_len (c + 1) n))) (h c (omega arith) (omega arith))
    ∙ all_out test (c + 1) n (λ k l m. h k (omega (arith, l)) (omega (arith, m)))

from_flat : (tables ks : List ℕ) (n : ℕ) → Includes (flat_map (copies tables) ks) n → (k : ℕ) × Includes ks k × Includes (copies tables k) n
from_flat tables [] n i = absurd i
from_flat tables (k ∷ ks) n i = go (from_flat tables ks n) (from_append (copies tables k) (flat_map (copies tables) ks) (subst (λ x. Includes x n) (flat_map-cons (copies tables) k ks) i))
  where
    from_append : (xs ys : List ℕ) → Includes (xs ++ ys) n → Includes xs n ⊎ Includes ys n
    from_append [] ys i = inr i
    from_append (x ∷ xs) ys (inl e) = inl (inl e)
    from_append (x ∷ xs) ys (inr i) = side (from_append xs ys i)
      where
        side : Includes xs n ⊎ Includes ys n → Includes (x ∷ xs) n ⊎ Includes ys n
        side (inl i) = inl (inr i)
        side (inr i) = inr i

    go : (Includes (flat_map (copies tables) ks) n → (k : ℕ) × Includes ks k × Includes (copies tables k) n)
        → Includes (copies tables k) n ⊎ Includes (flat_map (copies tables) ks) n → (j : ℕ) × Includes (k ∷ ks) j × Includes (copies tables j) n
    go later (inl i) = (k, inl refl, i)
    go later (inr i) = let r : (j : ℕ) × Includes ks j × Includes (copies tables j) n = later i in (r.0, inr r.1, r.2)

to_flat : (tables : List ℕ) (k : ℕ) (ks : List ℕ) (n : ℕ) → Includes (copies tables k) n → Includes (flat_map (copies tables) (k ∷ ks)) n
to_flat tables k ks n i = subst (λ x. Includes x n) (sym (flat_map-cons (copies tables) k ks)) (to_append (copies tables k) (flat_map (copies tables) ks) i)
  where
    to_append : (xs ys : List ℕ) → Includes xs n → Includes (xs ++ ys) n
    to_append [] ys i = absurd i
    to_append (x ∷ xs) ys (inl e) = inl e
    to_append (x ∷ xs) ys (inr i) = inr (to_append xs ys i)

abbrev IsHere : Blocks → List ℕ → Type 0
IsHere M group = (n : ℕ) × Contains group n × IsKnownAt M n

some_table : (tables : List ℕ) → 1 ≤ length tables → (q : ℕ) × Includes tables q
some_table [] h = absurd (let z : ⊥ = omega (arith, h) in z)
some_table (q ∷ tables) h = (q, inl refl)

-- over the complete table each block has a known copy
complete_closed : (V : Volume) (N packet size : ℕ) (tables : List ℕ) → AreBounded N packet size tables → unread (complete V N) tables (blocks_in size) ≡ []
complete_closed V N packet size tables b = all_out test 0 (blocks_in size) (λ k l m. let below : k < blocks_in size = omega (arith, m) in closed k below (first_copy C V N (complete_agrees V N) tables k))
  where
    C : Blocks
    C = complete V N

    test : ℕ → Bool
    test k = is_none (first_known C (copies tables k))

    one : (q : ℕ) × Includes tables q
    one = some_table tables b.one

    closed : (k : ℕ) → k < blocks_in size → FirstCopy C V tables k → test k ≡ false
    closed k l (one_known q i e f) = ap is_none f
    closed k l (none_known f all) = true_false (is_known (C (one.0 + k)))
        (ap is_known (complete-known V N (one.0 + k) (let ends : one.0 + blocks_in size ≤ N + 1 = b.ends one.0 (contained tables one.0 one.1) in omega (arith, l, ends))))
        (all (one.0 + k) (Includes-map (λ q. q + k) tables one.0 one.1))

copy_at : (T : Blocks) (V : Volume) (N size : ℕ) (tables : List ℕ) → Agrees T V N → unread T tables (blocks_in size) ≡ [] → (k : ℕ) → k < blocks_in size → HasCopy T V tables k
copy_at T V N size tables agrees e k l = has_copy T V tables k (first_copy T V N agrees tables k)
    (none_in (λ k. is_none (first_known T (copies tables k))) 0 (blocks_in size) e k (omega arith) (omega (arith, l)))

-- where each block has a known copy, the table is any one copy
pub whole_table : (T : Blocks) (V : Volume) (N last packet size : ℕ) (tables : List ℕ) → IsVolume V N → AreBounded N packet size tables → AreTheSameTables V size tables → Agrees T V N
    → unread T tables (blocks_in size) ≡ [] → (p : ℕ) → Includes tables p
    → spared T last (sparable packet size tables) ≡ spared_from last packet size true (drop 16 (table_at V size p))
unfolding spared
whole_table T V N last packet size tables hv b same agrees e p i = ap (λ ks. spared_unless tables ks (spared_by T last packet size tables)) e
    ∙ spared_is T V last packet size tables same (table_is T V N packet size tables hv b same (copy_at T V N size tables agrees e)) p i

-- the table of a sparable map
sparable_law : (M : Blocks) (V : Volume) (N last packet size : ℕ) (tables : List ℕ) → IsVolume V N → AreBounded N packet size tables → AreTheSameTables V size tables → Agrees M V N
    → IsAnswerOf M [] [] (IsTableGroup (sparable packet size tables)) (spared M last (sparable packet size tables)) (spared (complete V N) last (sparable packet size tables))
unfolding spared
sparable_law M V N last packet size tables hv b same a = go (unread M tables (blocks_in size)) refl
  where
    C : Blocks
    C = complete V N

    G : List ℕ → Type 0
    G = IsTableGroup (sparable packet size tables)

    open_at : Blocks → ℕ → Bool
    open_at T k = is_none (first_known T (copies tables k))

    one : (q : ℕ) × Includes tables q
    one = some_table tables b.one

    here : unread M tables (blocks_in size) ≡ [] → (g : List ℕ) → G g → IsHere M g
    here e g (k, l, p) = let c : HasCopy M V tables k = copy_at M V N size tables a e k l in
        subst (IsHere M) (sym p) (c.from + k, contained (copies tables k) (c.from + k) (Includes-map (λ q. q + k) tables c.from c.is_table), (V (c.from + k), c.known))

    unread_at : (k : ℕ) → open_at M k ≡ true → FirstCopy M V tables k → IsUnread M (copies tables k)
    unread_at k o (one_known q i e f) = true_false (open_at M k) o (ap is_none f)
    unread_at k o (none_known f all) = λ n i. all n (included (copies tables k) n i)

    go : (ks : List ℕ) → unread M tables (blocks_in size) ≡ ks
        → IsAnswerOf M [] [] G (spared_unless tables (unread M tables (blocks_in size)) (spared_by M last packet size tables)) (spared_unless tables (unread C tables (blocks_in size)) (spared_by C last packet size tables))
    go [] e = the_same (whole_table M V N last packet size tables hv b same a e one.0 one.1
        ∙ sym (whole_table C V N last packet size tables hv b same (complete_agrees V N) (complete_closed V N packet size tables b) one.0 one.1)) (here e)
    go (k ∷ ks) e = unread_answer (ascending (flat_map (copies tables) (k ∷ ks))) (ap (λ x. spared_unless tables x (spared_by M last packet size tables)) e)
        (record {
          group = copies tables k;
          is_group = (k, (open_in k (inl refl)).0, refl);
          unread = (open_in k (inl refl)).1;
          holds = λ n i. (ascending_contains (flat_map (copies tables) (k ∷ ks)) n).1 (contained (flat_map (copies tables) (k ∷ ks)) n (to_flat tables k ks n (included (copies tables k) n i)));
          not_known = λ n i. let w : (j : ℕ) × Includes (k ∷ ks) j × Includes (copies tables j) n = listed n (included (ascending (flat_map (copies tables) (k ∷ ks))) n i) in (open_in w.0 w.1).1 n (contained (copies tables w.0) n w.2);
          each = λ n i. let w : (j : ℕ) × Includes (k ∷ ks) j × Includes (copies tables j) n = listed n (included (ascending (flat_map (copies tables) (k ∷ ks))) n i) in
              inl (copies tables w.0, (w.0, (open_in w.0 w.1).0, refl), (open_in w.0 w.1).1, contained (copies tables w.0) n w.2);
        })
      where
        open_in : (j : ℕ) → Includes (k ∷ ks) j → (j < blocks_in size) × IsUnread M (copies tables j)
        open_in j i = let w : Includes (range_with_len 0 (blocks_in size)) j × (open_at M j ≡ true) = Includes-from_filter (open_at M) (range_with_len 0 (blocks_in size)) j (subst (λ x. Includes x j) (sym e) i) in
            let r : (0 ≤ j) × (j < 0 + blocks_in size) = in_range 0 (blocks_in size) j w.0 in
            (omega (arith, r.1), unread_at j w.1 (first_copy M V N a tables j))

        listed : (n : ℕ) → Includes (ascending (flat_map (copies tables) (k ∷ ks))) n → (j : ℕ) × Includes (k ∷ ks) j × Includes (copies tables j) n
        listed n i = from_flat tables (k ∷ ks) n ((ascending_includes (flat_map (copies tables) (k ∷ ks)) n).0 i)

map_law : (M : Blocks) (V : Volume) (N last : ℕ) (m : PartitionMap) → IsVolume V N → IsBoundedMap N m → SparingAgrees V m → Agrees M V N
    → IsAnswerOf M [] [] (IsTableGroup m) (spared M last m) (spared (complete V N) last m)
unfolding spared
map_law M V N last type1 hv b same a = the_same refl (λ g h. absurd h)
map_law M V N last (sparable packet size tables) hv b same a = sparable_law M V N last packet size tables hv b same a

-- what holds of some groups holds of more
lists_more : (M : Blocks) (G H : List ℕ → Type 0) (listed : List ℕ) → ((g : List ℕ) → G g → H g) → ListsGroup M [] [] G listed → ListsGroup M [] [] H listed
lists_more M G H listed f x = record { group = x.group; is_group = f x.group x.is_group; unread = x.unread; holds = x.holds; not_known = x.not_known; each = λ n i. go n (x.each n i) }
  where
    go : (n : ℕ) → ((g : List ℕ) × G g × IsUnread M g × Contains g n) ⊎ (Contains [] n × IsUnread M []) → ((g : List ℕ) × H g × IsUnread M g × Contains g n) ⊎ (Contains [] n × IsUnread M [])
    go n (inl w) = inl (w.0, f w.0 w.1, w.2, w.3)
    go n (inr w) = in_nothing n w.0

pub spans_law : (M : Blocks) (V : Volume) (N last : ℕ) (ps : List Partition) (ss : Spans) → IsVolume V N
    → ((p : Partition) → Contains ps p → IsBoundedMap N p.kind) → ((p : Partition) → Contains ps p → SparingAgrees V p.kind) → Agrees M V N
    → spans (complete V N) last ps ≡ found ss → IsAnswerOf M [] [] (IsSparingGroup ps) (spans M last ps) (spans (complete V N) last ps)
spans_law M V N last [] ss hv b same a e = the_same refl (λ g h. in_nothing h.0 h.1)
spans_law M V N last (p ∷ ps) ss hv b same a e = go (map_law M V N last p.kind hv (b p (here p ps)) (same p (here p ps)) a)
    (spans_law M V N last ps later_found.0 hv (λ x i. b x (there p ps x i)) (λ x i. same x (there p ps x i)) a later_found.1)
  where
    C : Blocks
    C = complete V N

    G : List ℕ → Type 0
    G = IsSparingGroup (p ∷ ps)

    later : Blocks → Span → Answer Spans
    later T s = and_then (spans T last ps) (λ xs. found (s ∷ xs))

    first_found : (s : Span) × (span C last p ≡ found s) × (later C s ≡ found ss)
    first_found = and_then-found (span C last p) (later C) ss e

    later_found : (xs : Spans) × (spans C last ps ≡ found xs) × (found (first_found.0 ∷ xs) ≡ found ss)
    later_found = and_then-found (spans C last ps) (λ xs. found (first_found.0 ∷ xs)) ss first_found.2

    s : Span
    s = first_found.0

    by_first : (T : Blocks) (x : Answer Spared) → spared T last p.kind ≡ x → spans T last (p ∷ ps) ≡ and_then (and_then x (λ y. found (span_of p y))) (later T)
    by_first T x q = ap (λ x. and_then (and_then x (λ y. found (span_of p y))) (later T)) q

    groups : ((g : List ℕ) → IsTableGroup p.kind g → IsHere M g) → ((g : List ℕ) → IsSparingGroup ps g → IsHere M g) → (g : List ℕ) → G g → IsHere M g
    groups hp hps g (x, i, t) = either (here_or_there p ps x i)
      where
        either : (p ≡ x) ⊎ Contains ps x → IsHere M g
        either (inl is) = hp g (subst (λ z. IsTableGroup z.kind g) (sym is) t)
        either (inr later) = hps g (x, later, t)

    go : IsAnswerOf M [] [] (IsTableGroup p.kind) (spared M last p.kind) (spared C last p.kind) → IsAnswerOf M [] [] (IsSparingGroup ps) (spans M last ps) (spans C last ps)
        → IsAnswerOf M [] [] G (spans M last (p ∷ ps)) (spans C last (p ∷ ps))
    go (the_same q hp) (the_same r hps) = the_same
        (by_first M (spared C last p.kind) q ∙ ap (λ x. and_then x (later M)) first_found.1 ∙ ap (λ x. and_then x (λ xs. found (s ∷ xs))) r
        ∙ sym (ap (λ x. and_then x (later C)) first_found.1))
        (groups hp hps)
    go (the_same q hp) (unread_answer listed r x) = unread_answer listed
        (by_first M (spared C last p.kind) q ∙ ap (λ x. and_then x (later M)) first_found.1 ∙ ap (λ x. and_then x (λ xs. found (s ∷ xs))) r)
        (lists_more M (IsSparingGroup ps) G listed (λ g h. (h.0, there p ps h.0 h.1, h.2)) x)
    go (unread_answer listed q x) rest = unread_answer listed (by_first M (holes listed) q)
        (lists_more M (IsTableGroup p.kind) G listed (λ g h. (p, here p ps, h)) x)

-- what is made of both answers
pub answer_then : {A B : Type 0} (M : Blocks) (G : List ℕ → Type 0) (some all : Answer A) (f : A → Answer B) → IsAnswerOf M [] [] G some all
    → IsAnswerOf M [] [] G (and_then some f) (and_then all f)
answer_then M G some all f (the_same e h) = the_same (ap (λ x. and_then x f) e) h
answer_then M G some all f (unread_answer listed e x) = unread_answer listed (ap (λ x. and_then x f) e) x

-- with all known, the packets are those of the first table
first_is : (V : Volume) (N last : ℕ) (m : PartitionMap) (sp : Spared) → IsVolume V N → IsBoundedMap N m → SparingAgrees V m → spared (complete V N) last m ≡ found sp → first_table V m ≡ sp
unfolding spared
first_is V N last type1 sp hv b same e = found_same [] sp e
first_is V N last (sparable packet size []) sp hv b same e = absurd (let h : 1 ≤ 0 = b.one in let z : ⊥ = omega (arith, h) in z)
first_is V N last (sparable packet size (place ∷ places)) sp hv b same e = (unless_fault-found (sparing_fault last packet size true content) (spared_in content) sp
    (sym (whole_table (complete V N) V N last packet size (place ∷ places) hv b same (complete_agrees V N) (complete_closed V N packet size (place ∷ places) b) place (inl refl)) ∙ e)).1
  where
    content : Bytes
    content = drop 16 (table_at V size place)

pub spans_are : (V : Volume) (N last : ℕ) (ps : List Partition) (ss : Spans) → IsVolume V N
    → ((p : Partition) → Contains ps p → IsBoundedMap N p.kind) → ((p : Partition) → Contains ps p → SparingAgrees V p.kind)
    → spans (complete V N) last ps ≡ found ss → map (λ p. span_of p (first_table V p.kind)) ps ≡ ss
spans_are V N last [] ss hv b same e = found_same [] ss e
spans_are V N last (p ∷ ps) ss hv b same e =
    let f : (s : Span) × (span C last p ≡ found s) × (and_then (spans C last ps) (λ xs. found (s ∷ xs)) ≡ found ss) = and_then-found (span C last p) (λ s. and_then (spans C last ps) (λ xs. found (s ∷ xs))) ss e in
    let g : (sp : Spared) × (spared C last p.kind ≡ found sp) × (found (span_of p sp) ≡ found f.0) = and_then-found (spared C last p.kind) (λ sp. found (span_of p sp)) f.0 f.1 in
    let h : (xs : Spans) × (spans C last ps ≡ found xs) × (found (f.0 ∷ xs) ≡ found ss) = and_then-found (spans C last ps) (λ xs. found (f.0 ∷ xs)) ss f.2 in
    let head : span_of p (first_table V p.kind) ≡ f.0 = ap (span_of p) (first_is V N last p.kind g.0 hv (b p (here p ps)) (same p (here p ps)) g.1) ∙ found_same (span_of p g.0) f.0 g.2 in
    let tail : map (λ p. span_of p (first_table V p.kind)) ps ≡ h.0 = spans_are V N last ps h.0 hv (λ x i. b x (there p ps x i)) (λ x i. same x (there p ps x i)) h.1 in
    (λ i. head i ∷ tail i) ∙ found_same (f.0 ∷ h.0) ss h.2
  where
    C : Blocks
    C = complete V N
