-- The copies of sparing tables where each of their blocks is known: they say the same exactly if no known block of two differs.
use Rattle.std.proofs.Common.{◌≡◌, refl, sym, ◌∙◌, ap, subst, inl, inr, ℕ, ◌+◌, ◌-◌, ◌*◌, ◌/◌, ◌<◌, ◌≤◌, ◌==◌, Bool, true, false, not, cond, ◌&&◌, List, [], ◌∷◌, ◌++◌, length, take, drop, min, arith, None}
use Rattle.std.specs.Prelude.{zero, suc, find, flat_map, option_map, Contains}
use Rattle.std.specs.List.{range_with_len}
use Rattle.std.specs.Str.{bytes_eq}
use Rattle.std.proofs.lemmas.Bool.Decides.{nat_tests}
use Rattle.std.proofs.lemmas.List.{drop-append-le, drop-drop, drop-take, length-take, take-append-le, take_all}
use Rattle.std.proofs.lemmas.List.Concat.{flat_map-cons}
use Rattle.std.proofs.lemmas.Slice.Eq.{bytes_eq-Decides}
use lib.Seq.{drop-append-add}
use Rattle.udfs_lattice.specs.States.{State, is_known}
use Rattle.udfs_lattice.specs.Volumes.{Agrees, Blocks, IsVolume, Volume}
use Rattle.udfs_lattice.specs.declared.facts.Fact.TheVariants.{Unknown, Known, Conflict}
use Rattle.udfs_lattice.proofs.Inclusion.{Includes, contained, included}
use Rattle.udfs_tag.specs.Tags.{is_valid}
use Rattle.udfs_volume.specs.Laws.{AreBounded, IsBoundedMap}
use Rattle.udfs_volume.specs.Layout.{PartitionMap, blocks_in, sparable, type1}
use Rattle.udfs_volume.specs.Sequence.{Bytes}
use Rattle.udfs_volume.proofs.Known.{both, true_false}
use Rattle.udfs_space.specs.Laws.{AreTheSameTables, SparingAgrees}
use Rattle.udfs_space.specs.Standard.{table_at}
use Rattle.udfs_space.proofs.JoinedBlocks.{AreFull, Same, from_place, joined, joined_is, same_joined}
use Rattle.udfs_lawfulness.specs.Searching.{apart_from, apart_in, copies_apart, copies_reason, map_reason, tables_reason}
use Rattle.udfs_lawfulness.specs.Tables.{AreCopiesApart, IsMapApart, IsMapUntagged, blocks_of, copy_bytes, differs, differs_from, is_known_copy, is_untagged, known_bytes, map_blocks, said_in}
use Rattle.udfs_lawfulness.specs.declared.answers.Reason.TheVariants.{NoTable}
use Rattle.udfs_lawfulness.proofs.Found.{all_of, else_none, first_none, flat_same, map_none, none_found}
use Rattle.udfs_lawfulness.proofs.Known.{AreHere, in_left, in_right, in_row, known_here}
use Rattle.udfs_lawfulness.proofs.Reached.{all_at}

not_true : (b : Bool) → not b ≡ true → b ≡ false
not_true true e = absurd (let z : ⊥ = cc in z)
not_true false e = refl

not_false : (b : Bool) → not b ≡ false → b ≡ true
not_false true e = refl
not_false false e = absurd (let z : ⊥ = cc in z)

-- ---- the copies by their blocks
pub in_copies : (size : ℕ) (tables : List ℕ) (place k : ℕ) → Includes tables place → k < blocks_in size → Includes (blocks_of size tables) (place + k)
in_copies size [] place k i l = absurd i
in_copies size (q ∷ qs) place k (inl e) l = in_left (range_with_len q (blocks_in size)) (blocks_of size qs) (place + k)
    (subst (λ z. Includes (range_with_len z (blocks_in size)) (place + k)) (sym e) (in_row place (blocks_in size) (place + k) (omega arith) (omega (arith, l))))
in_copies size (q ∷ qs) place k (inr i) l = in_right (range_with_len q (blocks_in size)) (blocks_of size qs) (place + k) (in_copies size qs place k i l)

at_start : (V : Volume) (n q : ℕ) → flat_map V (range_with_len q n) ≡ flat_map (λ k. V (q + k)) (range_with_len 0 n)
at_start V n q = ap (λ x. flat_map V (range_with_len x n)) (none q) ∙ from_place V q 0 n
  where
    none : (q : ℕ) → q ≡ q + 0
    none q = omega arith

full : (V : Volume) (N packet size : ℕ) (tables : List ℕ) → IsVolume V N → AreBounded N packet size tables → (q : ℕ) → Includes tables q → AreFull (λ k. V (q + k)) 0 (blocks_in size)
full V N packet size tables hv b q i k l m = (hv.each (q + k) (let ends : q + blocks_in size ≤ N + 1 = b.ends q (contained tables q i) in omega (arith, m, ends))).whole

copy_is : (V : Volume) (N packet size : ℕ) (tables : List ℕ) → IsVolume V N → AreBounded N packet size tables → (q : ℕ) → Includes tables q
    → table_at V size q ≡ joined (λ k. V (q + k)) 0 (blocks_in size) size
copy_is V N packet size tables hv b q i = ap (take size) (at_start V (blocks_in size) q) ∙ joined_is (λ k. V (q + k)) 0 (blocks_in size) size (full V N packet size tables hv b q i)

-- ---- a copy that is known whole
pub bytes_are : (T : Blocks) (V : Volume) (N size place : ℕ) → ((k : ℕ) → k < blocks_in size → T (place + k) ≡ Known (V (place + k))) → copy_bytes T size place ≡ table_at V size place
bytes_are T V N size place here = ap (take size)
    (flat_same (λ k. known_bytes (T (place + k))) (λ k. V (place + k)) 0 (blocks_in size) (λ k l m. ap known_bytes (here k (omega (arith, m))))
    ∙ sym (at_start V (blocks_in size) place))

-- ---- blocks that say the same
same_rows : (f g : ℕ → Bytes) (size c n s : ℕ) → s ≡ size - 2048 * c → ((k : ℕ) → c ≤ k → k < c + n → take (size - 2048 * k) (f k) ≡ take (size - 2048 * k) (g k)) → Same f g c n s
same_rows f g size c zero s e h = tt
same_rows f g size c (suc n) s e h = (
  ap (λ z. take z (f c)) e ∙ h c (omega arith) (omega arith) ∙ sym (ap (λ z. take z (g c)) e),
  same_rows f g size (c + 1) n (s - 2048) (omega (arith, e)) (λ k l m. h k (omega (arith, l)) (omega (arith, m))),
)

first_said : (size : ℕ) (x : Bytes) → said_in size 0 x ≡ drop 16 (take size x)
first_said size x = let e : size - 2048 * 0 ≡ size = omega arith in ap (λ z. drop 16 (take z x)) e

later_said : (size k : ℕ) (x : Bytes) → said_in size (suc k) x ≡ take (size - 2048 * suc k) x
later_said size k x = let e : (suc k == 0) ≡ false = grind (arith, nat_tests) in ap (λ b. drop (cond b 16 0) (take (size - 2048 * suc k) x)) e

blocks_from : (size : ℕ) → 56 ≤ size → (m : ℕ) × (blocks_in size ≡ suc m)
blocks_from size h = go ((size + 2047) / 2048) (at_least size h)
  where
    at_least : (size : ℕ) → 56 ≤ size → 1 ≤ (size + 2047) / 2048
    at_least size h = omega (arith, h)

    go : (n : ℕ) → 1 ≤ n → (m : ℕ) × (n ≡ suc m)
    go zero l = absurd (let z : ⊥ = omega (arith, l) in z)
    go (suc m) l = (m, refl)

joined_alike : (f g : ℕ → Bytes) (size m : ℕ) → 56 ≤ size → length (f 0) ≡ 2048 → length (g 0) ≡ 2048 → said_in size 0 (f 0) ≡ said_in size 0 (g 0)
    → ((k : ℕ) → 1 ≤ k → k < 1 + m → take (size - 2048 * k) (f k) ≡ take (size - 2048 * k) (g k)) → drop 16 (joined f 0 (suc m) size) ≡ drop 16 (joined g 0 (suc m) size)
joined_alike f g size m h p q first later =
    drop-append-le 16 (take size (f 0)) (joined f 1 m (size - 2048)) (long (f 0) p)
    ∙ (λ i. (sym (first_said size (f 0)) ∙ first ∙ first_said size (g 0)) i ++ same_joined f g 1 m (size - 2048) (same_rows f g size 1 m (size - 2048) (omega arith) later) i)
    ∙ sym (drop-append-le 16 (take size (g 0)) (joined g 1 m (size - 2048)) (long (g 0) q))
  where
    at_least : (s : ℕ) → 56 ≤ s → 16 ≤ min s 2048
    at_least s h = grind arith

    long : (x : Bytes) → length x ≡ 2048 → 16 ≤ length (take size x)
    long x e = subst (λ z. 16 ≤ z) (sym (length-take size x ∙ ap (min size) e)) (at_least size h)

-- two copies whose blocks say the same have the same bytes after their tags
contents_same : (V : Volume) (N packet size : ℕ) (tables : List ℕ) → IsVolume V N → AreBounded N packet size tables → (a b : ℕ) → Includes tables a → Includes tables b
    → ((k : ℕ) → k < blocks_in size → said_in size k (V (a + k)) ≡ said_in size k (V (b + k))) → drop 16 (table_at V size a) ≡ drop 16 (table_at V size b)
contents_same V N packet size tables hv bounds a b i j alike = by (blocks_from size bounds.from)
  where
    by : (m : ℕ) × (blocks_in size ≡ suc m) → drop 16 (table_at V size a) ≡ drop 16 (table_at V size b)
    by (m, e) = ap (drop 16) (copy_is V N packet size tables hv bounds a i ∙ ap (λ n. joined (λ k. V (a + k)) 0 n size) e)
        ∙ joined_alike (λ k. V (a + k)) (λ k. V (b + k)) size m bounds.from
        (full V N packet size tables hv bounds a i 0 (omega arith) (omega (arith, e)))
        (full V N packet size tables hv bounds b j 0 (omega arith) (omega (arith, e)))
        (alike 0 (omega (arith, e))) later
        ∙ sym (ap (drop 16) (copy_is V N packet size tables hv bounds b j ∙ ap (λ n. joined (λ k. V (b + k)) 0 n size) e))
      where
        from : (k : ℕ) → 1 ≤ k → (p : ℕ) × (k ≡ suc p)
        from zero l = absurd (let z : ⊥ = omega (arith, l) in z)
        from (suc p) l = (p, refl)

        later : (k : ℕ) → 1 ≤ k → k < 1 + m → take (size - 2048 * k) (V (a + k)) ≡ take (size - 2048 * k) (V (b + k))
        later k l n = at (from k l)
          where
            at : (p : ℕ) × (k ≡ suc p) → take (size - 2048 * k) (V (a + k)) ≡ take (size - 2048 * k) (V (b + k))
            at (p, q) = let same : said_in size k (V (a + k)) ≡ said_in size k (V (b + k)) = alike k (omega (arith, n, e)) in
                subst (λ z. take (size - 2048 * z) (V (a + z)) ≡ take (size - 2048 * z) (V (b + z))) (sym q)
                (sym (later_said size p (V (a + suc p))) ∙ subst (λ z. said_in size z (V (a + z)) ≡ said_in size z (V (b + z))) q same ∙ later_said size p (V (b + suc p)))

-- ---- a table of which nothing that is known contradicts it
pub tables_agree : (T : Blocks) (V : Volume) (N packet size : ℕ) (tables : List ℕ) → IsVolume V N → AreBounded N packet size tables → AreHere T V N (blocks_of size tables)
    → copies_reason T size tables ≡ None → AreTheSameTables V size tables
tables_agree T V N packet size tables hv bounds here clear = record {
  tags = λ place c. tagged place (included tables place c);
  contents = λ a b i j. contents_same V N packet size tables hv bounds a b (included tables a i) (included tables b j) (alike a b (included tables a i) (included tables b j));
}
  where
    parts : (option_map tables_reason (copies_apart T size tables) ≡ None) × (option_map NoTable (find (is_untagged T size) tables) ≡ None)
    parts = else_none (option_map tables_reason (copies_apart T size tables)) (option_map NoTable (find (is_untagged T size) tables)) clear

    at : (place k : ℕ) → Includes tables place → k < blocks_in size → T (place + k) ≡ Known (V (place + k))
    at place k i l = (here (place + k) (in_copies size tables place k i l)).0

    tagged : (place : ℕ) → Includes tables place → is_valid (table_at V size place) place 0 ≡ true
    tagged place i =
        let clean : is_untagged T size place ≡ false = none_found (is_untagged T size) tables (map_none NoTable (find (is_untagged T size) tables) parts.1) place i in
        let whole : is_known_copy T size place ≡ true = all_of (λ k. is_known (T (place + k))) 0 (blocks_in size) (λ k l m. ap is_known (at place k i (omega (arith, m)))) in
        ap (λ x. is_valid x place 0) (sym (bytes_are T V N size place (λ k l. at place k i l)))
        ∙ second (is_known_copy T size place) (is_valid (copy_bytes T size place) place 0) whole clean
      where
        second : (x y : Bool) → x ≡ true → (x && not y) ≡ false → y ≡ true
        second true y e h = not_false y h
        second false y e h = absurd (let z : ⊥ = cc in z)

    alike : (a b : ℕ) → Includes tables a → Includes tables b → (k : ℕ) → k < blocks_in size → said_in size k (V (a + k)) ≡ said_in size k (V (b + k))
    alike a b i j k l =
        let in_block : apart_in T size tables k ≡ None = first_none (apart_in T size tables) (range_with_len 0 (blocks_in size)) (map_none tables_reason (copies_apart T size tables) parts.0) k (in_row 0 (blocks_in size) k (omega arith) (omega (arith, l))) in
        let of_first : apart_from T size k tables a ≡ None = first_none (apart_from T size k tables) tables in_block a i in
        let same : differs_from T size k a b ≡ false = none_found (differs_from T size k a) tables (map_none (λ b. (a + k, b + k)) (find (differs_from T size k a) tables) of_first) b j in
        (bytes_eq-Decides (said_in size k (V (a + k))) (said_in size k (V (b + k)))).0
        (not_false (bytes_eq (said_in size k (V (a + k))) (said_in size k (V (b + k)))) (sym (λ x. differs size k (at a k i l x) (at b k j l x)) ∙ same))

pub map_agrees : (T : Blocks) (V : Volume) (N : ℕ) (m : PartitionMap) → IsVolume V N → IsBoundedMap N m → AreHere T V N (map_blocks m) → map_reason T m ≡ None → SparingAgrees V m
map_agrees T V N type1 hv b here clear = tt
map_agrees T V N (sparable packet size tables) hv b here clear = tables_agree T V N packet size tables hv b here clear

-- ---- a table that has a reason
take_both : (n m : ℕ) (xs : Bytes) → take n (take m xs) ≡ take m (take n xs)
take_both zero zero xs = refl
take_both zero (suc m) xs = refl
take_both (suc n) zero xs = refl
take_both (suc n) (suc m) [] = refl
take_both (suc n) (suc m) (x ∷ xs) = ap (λ l. x ∷ l) (take_both n m xs)

-- block k of those that stand one after the other
piece_at : (V : Volume) (k a n : ℕ) → k < n → ((j : ℕ) → j < n → length (V (a + j)) ≡ 2048)
    → take 2048 (drop (2048 * k) (flat_map V (range_with_len a n))) ≡ V (a + k)
piece_at V k a zero h w = absurd (let z : ⊥ = omega (arith, h) in z)
piece_at V zero a (suc n) h w =
    let rest = flat_map V (range_with_len (a + 1) n) in
    let here : a + 0 ≡ a = omega arith in
    let size : length (V a) ≡ 2048 = ap (λ i. length (V i)) (sym here) ∙ w 0 (omega arith) in
    ap (take 2048) (flat_map-cons V a (range_with_len (a + 1) n))
    ∙ take-append-le 2048 (V a) rest (omega (arith, size)) ∙ take_all 2048 (V a) (omega (arith, size)) ∙ ap V (sym here)
piece_at V (suc k) a (suc n) h w =
    let rest = flat_map V (range_with_len (a + 1) n) in
    let here : a + 0 ≡ a = omega arith in
    let size : length (V a) ≡ 2048 = ap (λ i. length (V i)) (sym here) ∙ w 0 (omega arith) in
    let behind : 2048 * suc k ≡ length (V a) + 2048 * k = omega (arith, size) in
    let next : (a + 1) + k ≡ a + suc k = omega arith in
    ap (λ l. take 2048 (drop (2048 * suc k) l)) (flat_map-cons V a (range_with_len (a + 1) n))
    ∙ ap (λ i. take 2048 (drop i (V a ++ rest))) behind
    ∙ ap (take 2048) (drop-append-add (V a) rest (2048 * k))
    ∙ piece_at V k (a + 1) n (omega (arith, h)) (λ j l. let e : (a + 1) + j ≡ a + (j + 1) = omega arith in ap (λ i. length (V i)) e ∙ w (j + 1) (omega (arith, l)))
    ∙ ap V next

-- its bytes within the table's size
within_size : (V : Volume) (size k a : ℕ) → k < blocks_in size → ((j : ℕ) → j < blocks_in size → length (V (a + j)) ≡ 2048)
    → take (size - 2048 * k) (V (a + k)) ≡ take 2048 (drop (2048 * k) (table_at V size a))
within_size V size k a h w =
    let all = flat_map V (range_with_len a (blocks_in size)) in
    let sum : 2048 * k + (size - 2048 * k) ≡ size = omega (arith, h) in
    ap (take (size - 2048 * k)) (sym (piece_at V k a (blocks_in size) h w))
    ∙ take_both (size - 2048 * k) 2048 (drop (2048 * k) all)
    ∙ ap (take 2048) (sym (drop-take (2048 * k) (size - 2048 * k) all))
    ∙ ap (λ i. take 2048 (drop (2048 * k) (take i all))) sum

-- are told by what the table says behind its tag
same_part : (k : ℕ) (t u : Bytes) → drop 16 t ≡ drop 16 u
    → drop (cond (k == 0) 16 0) (take 2048 (drop (2048 * k) t)) ≡ drop (cond (k == 0) 16 0) (take 2048 (drop (2048 * k) u))
same_part zero t u e = drop-take 16 2032 t ∙ ap (take 2032) e ∙ sym (drop-take 16 2032 u)
same_part (suc k) t u e =
    let later : (suc k == 0) ≡ false = grind (arith, nat_tests) in
    ap (λ b. drop (cond b 16 0) (take 2048 (drop (2048 * suc k) t))) later
    ∙ ap (take 2048) (further t ∙ ap (drop (2032 + 2048 * k)) e ∙ sym (further u))
    ∙ sym (ap (λ b. drop (cond b 16 0) (take 2048 (drop (2048 * suc k) u))) later)
  where
    further : (x : Bytes) → drop (2048 * suc k) x ≡ drop (2032 + 2048 * k) (drop 16 x)
    further x = let sum : 2048 * suc k ≡ 16 + (2032 + 2048 * k) = omega arith in ap (λ i. drop i x) sum ∙ sym (drop-drop (2032 + 2048 * k) 16 x)

-- so two copies that say the same do so in each block
same_said : (V : Volume) (size k a b : ℕ) → k < blocks_in size
    → ((j : ℕ) → j < blocks_in size → length (V (a + j)) ≡ 2048) → ((j : ℕ) → j < blocks_in size → length (V (b + j)) ≡ 2048)
    → drop 16 (table_at V size a) ≡ drop 16 (table_at V size b) → said_in size k (V (a + k)) ≡ said_in size k (V (b + k))
same_said V size k a b h wa wb e =
    ap (drop (cond (k == 0) 16 0)) (within_size V size k a h wa) ∙ same_part k (table_at V size a) (table_at V size b) e
    ∙ sym (ap (drop (cond (k == 0) 16 0)) (within_size V size k b h wb))

record Differ (size k : ℕ) (x y : State) : Type 0 where
  one : Bytes
  other : Bytes
  one_is : x ≡ Known one
  other_is : y ≡ Known other
  apart : bytes_eq (said_in size k one) (said_in size k other) ≡ false

both_known : (size k : ℕ) (x y : State) → differs size k x y ≡ true → Differ size k x y
both_known size k Unknown y e = absurd (let z : ⊥ = cc in z)
both_known size k (Known one) Unknown e = absurd (let z : ⊥ = cc in z)
both_known size k (Known one) (Known other) e = record { one = one; other = other; one_is = refl; other_is = refl; apart = not_true (bytes_eq (said_in size k one) (said_in size k other)) e }
both_known size k (Known one) Conflict e = absurd (let z : ⊥ = cc in z)
both_known size k Conflict y e = absurd (let z : ⊥ = cc in z)

-- of copies that say the same no two known blocks differ
no_difference : (M : Blocks) (V : Volume) (N packet size : ℕ) (tables : List ℕ) (one other : ℕ) → IsVolume V N → Agrees M V N → AreBounded N packet size tables
    → AreTheSameTables V size tables → AreCopiesApart M size tables one other → ⊥
no_difference M V N packet size tables one other vol agrees bounded same apart =
    let k = apart.number in
    let a = apart.first in
    let b = apart.second in
    let d = both_known size k (M (a + k)) (M (b + k)) apart.differ in
    let whole : (c : ℕ) → Contains tables c → (j : ℕ) → j < blocks_in size → length (V (c + j)) ≡ 2048 =
    λ c i j l. let ends = bounded.ends c i in (vol.each (c + j) (omega (arith, l, ends))).whole in
    let said = same_said V size k a b apart.inside (whole a apart.first_is) (whole b apart.second_is) (same.contents a b apart.first_is apart.second_is) in
    let equal : said_in size k d.one ≡ said_in size k d.other =
    ap (said_in size k) (agrees.known (a + k) d.one d.one_is) ∙ said ∙ sym (ap (said_in size k) (agrees.known (b + k) d.other d.other_is)) in
    let yes : bytes_eq (said_in size k d.one) (said_in size k d.other) ≡ true = (bytes_eq-Decides (said_in size k d.one) (said_in size k d.other)).1 equal in
    let different = d.apart in
    let z : ⊥ = cc in z

pub none_apart : (M : Blocks) (V : Volume) (N : ℕ) (m : PartitionMap) (one other : ℕ) → IsVolume V N → Agrees M V N → IsBoundedMap N m → SparingAgrees V m → IsMapApart M m one other → ⊥
none_apart M V N type1 one other vol agrees bounded same apart = apart
none_apart M V N (sparable packet size tables) one other vol agrees bounded same apart = no_difference M V N packet size tables one other vol agrees bounded same apart

-- and none that is known whole lacks a tag
pub none_untagged : (M : Blocks) (V : Volume) (N : ℕ) (m : PartitionMap) (place : ℕ) → Agrees M V N → SparingAgrees V m → IsMapUntagged M m place → ⊥
none_untagged M V N type1 place agrees same u = u
none_untagged M V N (sparable packet size tables) place agrees same (c, u) =
    let p : (is_known_copy M size place ≡ true) × (not (is_valid (copy_bytes M size place) place 0) ≡ true) = both (is_known_copy M size place) (not (is_valid (copy_bytes M size place) place 0)) u in
    let is : copy_bytes M size place ≡ table_at V size place = bytes_are M V N size place (λ k l.
    (known_here M V N agrees (place + k) (all_at (λ j. is_known (M (place + j))) 0 (blocks_in size) k p.0 (omega arith) (omega (arith, l)))).0) in
    let valid : is_valid (copy_bytes M size place) place 0 ≡ true = ap (λ x. is_valid x place 0) is ∙ same.tags place c in
    true_false (is_valid (copy_bytes M size place) place 0) valid (not_true (is_valid (copy_bytes M size place) place 0) p.1)
