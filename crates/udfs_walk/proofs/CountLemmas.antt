-- Walks over bodies: each leaves what it found at its information control block, of which there are no more than the nodes have.
use Rattle.std.proofs.Common.{◌≡◌, refl, sym, ◌∙◌, ap, subst, inl, inr, ⊎_elim, ℕ, ◌+◌, ◌<◌, ◌≤◌, Bool, true, false, List, [], ◌∷◌, ◌++◌, length, map, cond, arith, None, Some}
use Rattle.std.specs.Prelude.{◌⊎◌, ◌==◌, nat_lt, suc, Contains}
use Rattle.std.specs.BTreeMap.{BTreeMap, IsEmpty, IsOrdered, btree_map_len, get, insert_entry, keys}
use Rattle.std.specs.List.Sorted.{IsStrictlySortedBy}
use Rattle.std.specs.Map.{keys_of, lookup}
use Rattle.std.specs.Ordering.{is_eq, match_ordering, nat_cmp}
use Rattle.std.specs.declared.cmp.Ordering.{Ordering}
use Rattle.std.specs.declared.cmp.Ordering.TheVariants.{Less, Equal, Greater}
use Rattle.std.proofs.lemmas.Bool.{eq-eqb}
use Rattle.std.proofs.lemmas.List.{length-map, map-append}
use Rattle.std.proofs.lemmas.List.Elements.{Contains-append_left, Contains-append_right, Contains-push}
use Rattle.std.proofs.lemmas.Map.Keys.{IsStrictlyIncreasing-from_sorted}
use Rattle.udfs_lattice.specs.TableLaws.{eq_by_cmp-nat}
use Rattle.udfs_lattice.specs.Volumes.{ascending, insert_once}
use Rattle.udfs_lattice.proofs.Inclusion.{Includes, included, contained, in_nothing}
use Rattle.udfs_lattice.proofs.PublicLaws.{ascending_contains}
use Rattle.udfs_volume.specs.Seen.{IsRising}
use Rattle.udfs_volume.proofs.PublicLaws.{ascending_rises}
use Rattle.udfs_walk.specs.Frames.{FrameFields}
use Rattle.udfs_walk.specs.Counting.{AreWithin, IsCounted, KeepsCount, icb_key, icbs_of}
use Rattle.udfs_walk.specs.NodeFields.{NodeFields}
use Rattle.udfs_file.specs.declared.directories.DirEntry.{DirEntry}
use Rattle.udfs_walk.specs.declared.memos.Kept.{Kept}
use Rattle.udfs_walk.specs.declared.memos.Memo.{Memo}
use Rattle.udfs_walk.proofs.Owed.{left_in, left_last}
use Rattle.udfs_walk.proofs.Rising.{increasing_rises}

-- ---- one more is kept
module _ {X : Type 0} where
  inserted : (es : List (ℕ × X)) (k : ℕ) (x : X) (n : ℕ) → Includes (keys_of (insert_entry nat_cmp es k x)) n → (k ≡ n) ⊎ Includes (keys_of es) n
  inserted [] k x n i = i
  inserted (e ∷ es) k x n i = go (inserted es k x n) (nat_cmp k e.0) i
    where
      go : (Includes (keys_of (insert_entry nat_cmp es k x)) n → (k ≡ n) ⊎ Includes (keys_of es) n) → (o : Ordering) → Includes (keys_of (match_ordering o ((k, x) ∷ e ∷ es) ((e.0, x) ∷ es) (e ∷ insert_entry nat_cmp es k x))) n → (k ≡ n) ⊎ Includes (keys_of (e ∷ es)) n
      go rest Less j = j
      go rest Equal j = inr j
      go rest Greater (inl j) = inr (inl j)
      go rest Greater (inr j) = ⊎_elim (λ is. inl is) (λ later. inr (inr later)) (rest j)

  pub keys_within : (old new : BTreeMap ℕ X) (k : ℕ) (x : X) (icbs : List ℕ) → new.entries ≡ insert_entry nat_cmp old.entries k x → Contains icbs k
      → AreWithin (keys old) icbs → AreWithin (keys new) icbs
  keys_within old new k x icbs e at w n i =
      ⊎_elim (λ is. subst (Contains icbs) is at) (λ j. w n (contained (keys old) n j))
      (inserted old.entries k x n (included (keys_of (insert_entry nat_cmp old.entries k x)) n (subst (λ es. Contains (keys_of es) n) e i)))

-- what a walk found is kept
pub counted_kept : (start : ℕ) (icbs : List ℕ) (old new : Memo) (k before after : ℕ) (x : Kept) → Contains icbs k → new.kept.entries ≡ insert_entry nat_cmp old.kept.entries k x
    → btree_map_len new.kept ≡ btree_map_len old.kept + 1 → IsOrdered nat_cmp new.kept → after ≡ before + 1
    → IsCounted start icbs old before → IsCounted start icbs new after
counted_kept start icbs old new k before after x at e more o one c = record {
  count = let count = c.count in omega (arith, count, more, one);
  once = o;
  within = keys_within old.kept new.kept k x icbs e at c.within;
}

-- ---- no more are kept than there are
-- `AreWithin` by the structure of the lists
abbrev AreIncluded : List ℕ → List ℕ → Type 0
AreIncluded ns icbs = (n : ℕ) → Includes ns n → Includes icbs n

rising_within : (xs zs : List ℕ) → IsRising xs → IsRising zs → AreIncluded xs zs → length xs ≤ length zs
rising_within [] zs r s w = omega arith
rising_within (x ∷ xs) [] r s w = absurd (w x (inl refl))
rising_within (x ∷ xs) (z ∷ zs) r s w = go (rising_within xs zs r.1 s.1) (rising_within (x ∷ xs) zs r s.1) (w x (inl refl))
  where
    go : (AreIncluded xs zs → length xs ≤ length zs) → (AreIncluded (x ∷ xs) zs → length (x ∷ xs) ≤ length zs) → Includes (z ∷ zs) x → length (x ∷ xs) ≤ length (z ∷ zs)
    go behind all (inl e) =
        let rest : (n : ℕ) → Includes xs n → Includes zs n = λ n i.
        ⊎_elim (λ same. absurd (let above : x < n = r.0 n (contained xs n i) in let none : ⊥ = omega (arith, above, same, e) in none)) (λ j. j) (w n (inr i)) in
        let fewer : length xs ≤ length zs = behind rest in
        omega (arith, fewer)
    go behind all (inr later) =
        let low : z < x = s.0 x (contained zs x later) in
        let rest : (n : ℕ) → Includes (x ∷ xs) n → Includes zs n = λ n i.
        ⊎_elim (λ same. absurd (⊎_elim (λ is. let none : ⊥ = omega (arith, low, same, is) in none) (λ j. let above : x < n = r.0 n (contained xs n j) in let none : ⊥ = omega (arith, low, same, above) in none) i)) (λ j. j) (w n i) in
        let fewer : length (x ∷ xs) ≤ length zs = all rest in
        omega (arith, fewer)

-- there are fewer where one is missing
rising_fewer : (xs zs : List ℕ) (k : ℕ) → IsRising xs → IsRising zs → AreIncluded xs zs → Includes zs k → (Includes xs k → ⊥) → length xs < length zs
rising_fewer xs [] k r s w at none = absurd at
rising_fewer [] (z ∷ zs) k r s w at none = omega arith
rising_fewer (x ∷ xs) (z ∷ zs) k r s w at none = go (λ rest later. rising_fewer xs zs k r.1 s.1 rest later (λ i. none (inr i))) (w x (inl refl))
  where
    rest : z ≡ x → (n : ℕ) → Includes xs n → Includes zs n
    rest e n i = ⊎_elim (λ same. absurd (let above : x < n = r.0 n (contained xs n i) in let no : ⊥ = omega (arith, above, same, e) in no)) (λ j. j) (w n (inr i))

    all : z < x → (n : ℕ) → Includes (x ∷ xs) n → Includes zs n
    all low n i = ⊎_elim (λ same. absurd (⊎_elim (λ is. let no : ⊥ = omega (arith, low, same, is) in no) (λ j. let above : x < n = r.0 n (contained xs n j) in let no : ⊥ = omega (arith, low, same, above) in no) i)) (λ j. j) (w n i)

    go : (AreIncluded xs zs → Includes zs k → length xs < length zs) → Includes (z ∷ zs) x → length (x ∷ xs) < length (z ∷ zs)
    go behind (inl e) =
        let later : Includes zs k = ⊎_elim (λ first. absurd (none (inl (sym e ∙ first)))) (λ j. j) at in
        let fewer : length xs < length zs = behind (rest e) later in
        omega (arith, fewer)
    go behind (inr later) =
        let fewer : length (x ∷ xs) ≤ length zs = rising_within (x ∷ xs) zs r s.1 (all (s.0 x (contained zs x later))) in
        omega (arith, fewer)

inserted_length : (n : ℕ) (ms : List ℕ) → length (insert_once n ms) ≤ length ms + 1
inserted_length n [] = omega arith
inserted_length n (m ∷ ms) = go (inserted_length n ms) (nat_lt n m) (n == m)
  where
    go : length (insert_once n ms) ≤ length ms + 1 → (b c : Bool) → length (cond b (n ∷ m ∷ ms) (cond c (m ∷ ms) (m ∷ insert_once n ms))) ≤ length (m ∷ ms) + 1
    go rest true c = omega arith
    go rest false true = omega arith
    go rest false false = omega (arith, rest)

ascending_length : (ns : List ℕ) → length (ascending ns) ≤ length ns
ascending_length [] = omega arith
ascending_length (n ∷ ns) =
    let rest : length (ascending ns) ≤ length ns = ascending_length ns in
    let one : length (insert_once n (ascending ns)) ≤ length (ascending ns) + 1 = inserted_length n (ascending ns) in
    omega (arith, rest, one)

few_keys : {X : Type 0} (m : BTreeMap ℕ X) (icbs : List ℕ) → IsOrdered nat_cmp m → AreWithin (keys m) icbs → btree_map_len m ≤ length (ascending icbs)
few_keys m icbs o w =
    let r : IsRising (keys m) = increasing_rises (keys m) (IsStrictlyIncreasing-from_sorted (keys m) o) in
    let few : length (keys m) ≤ length (ascending icbs) = rising_within (keys m) (ascending icbs) r (ascending_rises icbs) (λ n i. included (ascending icbs) n ((ascending_contains icbs n).1 (w n (contained (keys m) n i)))) in
    let same : length (keys m) ≡ btree_map_len m = length-map m.entries (λ e. e.0) in
    omega (arith, few, same)

same_number : (x y : ℕ) → x ≡ y → is_eq (nat_cmp x y) ≡ true
same_number x y e = eq_by_cmp-nat x y ∙ eq-eqb x y e

-- what is not found is not kept
module _ {X : Type 0} where
  not_found : (es : List (ℕ × X)) (k : ℕ) → lookup (λ q. is_eq (nat_cmp k q)) es ≡ None → Includes (keys_of es) k → ⊥
  not_found [] k none i = i
  not_found (e ∷ es) k none i = go (λ n j. not_found es k n j) (is_eq (nat_cmp k e.0)) refl none i
    where
      go : (lookup (λ q. is_eq (nat_cmp k q)) es ≡ None → Includes (keys_of es) k → ⊥)
          → (b : Bool) → is_eq (nat_cmp k e.0) ≡ b → cond b (Some e.1) (lookup (λ q. is_eq (nat_cmp k q)) es) ≡ None → (e.0 ≡ k) ⊎ Includes (keys_of es) k → ⊥
      go later true is n j = (let z : ⊥ = cc in z)
      go later false is n (inl same) = (let z : true ≡ false = sym (same_number k e.0 (sym same)) ∙ is in let w : ⊥ = cc in w)
      go later false is n (inr j) = later n j

fewer_keys : {X : Type 0} (m : BTreeMap ℕ X) (icbs : List ℕ) (k : ℕ) → IsOrdered nat_cmp m → AreWithin (keys m) icbs → Contains icbs k → get nat_cmp m k ≡ None → btree_map_len m < length (ascending icbs)
fewer_keys m icbs k o w at none =
    let r : IsRising (keys m) = increasing_rises (keys m) (IsStrictlyIncreasing-from_sorted (keys m) o) in
    let few : length (keys m) < length (ascending icbs) = rising_fewer (keys m) (ascending icbs) k r (ascending_rises icbs) (λ n i. included (ascending icbs) n ((ascending_contains icbs n).1 (w n (contained (keys m) n i))))
    (included (ascending icbs) k ((ascending_contains icbs k).1 at)) (not_found m.entries k none) in
    let same : length (keys m) ≡ btree_map_len m = length-map m.entries (λ e. e.0) in
    omega (arith, few, same)

-- one walk at most for each information control block
pub counted_once : (start : ℕ) (icbs : List ℕ) (memo : Memo) (walks : ℕ) → IsCounted start icbs memo walks → walks ≤ start + length (ascending icbs)
counted_once start icbs memo walks c =
    let once : btree_map_len memo.kept ≤ length (ascending icbs) = few_keys memo.kept icbs c.once c.within in
    let count = c.count in
    omega (arith, once, count)

-- and one fewer where one of them is not kept
pub counted_new : (start : ℕ) (icbs : List ℕ) (memo : Memo) (walks k : ℕ) → IsCounted start icbs memo walks → Contains icbs k → get nat_cmp memo.kept k ≡ None
    → walks + 1 ≤ start + length (ascending icbs)
counted_new start icbs memo walks k c at none =
    let fewer : btree_map_len memo.kept < length (ascending icbs) = fewer_keys memo.kept icbs k c.once c.within at none in
    let count = c.count in
    omega (arith, fewer, count)

-- there are no more information control blocks than nodes
pub few_icbs : (nodes : List NodeFields) → length (icbs_of nodes) ≤ length nodes
few_icbs nodes =
    let once : length (icbs_of nodes) ≤ length (map icb_key nodes) = ascending_length (map icb_key nodes) in
    let same : length (map icb_key nodes) ≡ length nodes = length-map nodes icb_key in
    omega (arith, once, same)

-- one walk at most for each node so far, so no more than the limit of nodes, nor while one more is gone to
pub walks_few : (start walks after : ℕ) (nodes : List NodeFields) (frames rest : List FrameFields) (f : FrameFields) (room : ℕ)
    → length nodes + left_in frames + room ≡ 65536 → walks ≤ start + length nodes → frames ≡ rest ++ f ∷ []
    → (f.left ≡ [] → after ≡ walks) → after ≤ walks + 1 → after ≤ start + 65536
walks_few start walks after nodes frames rest f room few once e idle one_more = go f.left refl
  where
    go : (es : List DirEntry) → f.left ≡ es → after ≤ start + 65536
    go [] none = let same : after ≡ walks = idle none in omega (arith, same, once, few)
    go (entry ∷ es) some =
        let left : left_in frames ≡ left_in rest + length f.left = ap left_in e ∙ left_last rest f in
        let one : length f.left ≡ suc (length es) = ap length some in
        omega (arith, once, left, one, few, one_more)

-- ---- one node more
icbs_more : (nodes more : List NodeFields) (node : NodeFields) → more ≡ nodes ++ node ∷ [] → map icb_key more ≡ map icb_key nodes ++ icb_key node ∷ []
icbs_more nodes more node e = ap (map icb_key) e ∙ map-append icb_key nodes (node ∷ [])

pub counted_more : (nodes more : List NodeFields) (node : NodeFields) (first old new : Memo) (begun before after : ℕ) → more ≡ nodes ++ node ∷ []
    → ((start : ℕ) (icbs : List ℕ) → Contains icbs (icb_key node) → IsCounted start icbs old before → IsCounted start icbs new after)
    → KeepsCount (map icb_key nodes) first begun old before → KeepsCount (map icb_key more) first begun new after
counted_more nodes more node first old new begun before after e step kept start icbs w c =
    let now = icbs_more nodes more node e in
    step start icbs (w (icb_key node) (subst (λ ks. Contains ks (icb_key node)) (sym now) (Contains-push (map icb_key nodes) (icb_key node))))
    (kept start icbs (λ n i. w n (subst (λ ks. Contains ks n) (sym now) (Contains-append_left (map icb_key nodes) (icb_key node ∷ []) n i))) c)

-- what two walks keep, one after the other
pub counted_both : (ns ms ks : List ℕ) (first old new : Memo) (begun before after : ℕ) → ks ≡ ns ++ ms
    → KeepsCount ns first begun old before → KeepsCount ms old before new after → KeepsCount ks first begun new after
counted_both ns ms ks first old new begun before after e p q start icbs w c =
    q start icbs (λ n i. w n (subst (λ l. Contains l n) (sym e) (Contains-append_right ns ms n i)))
    (p start icbs (λ n i. w n (subst (λ l. Contains l n) (sym e) (Contains-append_left ns ms n i))) c)

-- ---- nothing is kept yet
empty_ordered : {X : Type 0} (m : BTreeMap ℕ X) → IsEmpty m → IsOrdered nat_cmp m
unfolding IsStrictlySortedBy
empty_ordered m e = subst (λ es. IsStrictlySortedBy nat_cmp (keys_of es)) (sym e) tt

empty_within : {X : Type 0} (m : BTreeMap ℕ X) (icbs : List ℕ) → IsEmpty m → AreWithin (keys m) icbs
empty_within m icbs e n i = in_nothing n (subst (λ es. Contains (keys_of es) n) e i)

pub counted_none : (start : ℕ) (icbs : List ℕ) (memo : Memo) → IsEmpty memo.kept → IsCounted start icbs memo start
counted_none start icbs memo e = record {
  count = let none : btree_map_len memo.kept ≡ 0 = ap length e in omega (arith, none);
  once = empty_ordered memo.kept e;
  within = empty_within memo.kept icbs e;
}
