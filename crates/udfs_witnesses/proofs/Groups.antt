-- What one more listed block adds to the blocks that are asked for.
use Rattle.std.proofs.Common.{◌≡◌, ◌⊎◌, inl, inr, refl, sym, ap, ◌∙◌, subst, arith, ℕ, ◌+◌, ◌-◌, ◌*◌, ◌/◌, ◌<◌, ◌≤◌, Bool, true, false, List, [], ◌∷◌, ◌++◌, get_or, length, take}
use Rattle.std.specs.Prelude.{Contains}
use Rattle.std.proofs.lemmas.List.{take_more}
use Rattle.udfs_volume.specs.Seen.{IsRising}
use Rattle.std.specs.List.{range_with_len}
use Rattle.std.proofs.lemmas.Bool.{cases_lt}
use Rattle.std.proofs.lemmas.Nat.{le-div, mul-le}
use Rattle.std.proofs.Math.Nat.{div-mul-le_self}
use Rattle.udfs_lattice.specs.States.{is_known}
use Rattle.udfs_lattice.specs.Volumes.{Blocks}
use Rattle.udfs_lattice.proofs.Inclusion.{here, in_nothing}
use Rattle.udfs_witnesses.specs.Adding.{Adds, IsNext}
use Rattle.udfs_witnesses.specs.Groups.{AreEdges, AreGrouped, IsBeside, IsGrouped, group_start}
use Rattle.udfs_witnesses.proofs.Rising.{alone, both_rise, front_below, in_left, in_one, in_range, in_right, range_has, range_rises}

-- ---- groups
one_more : (q s : ℕ) → (q + 1) * s ≡ q * s + s
one_more q s = grind arith

-- a number between the multiple of a quotient and the next multiple has that quotient
quotient : (n q s : ℕ) → 0 < s → q * s ≤ n → n < q * s + s → n / s ≡ q
quotient n q s p l h = go (cases_lt q (n / s))
  where
    low : q ≤ n / s
    low = le-div q n s p l

    go : (q < n / s) ⊎ (n / s ≤ q) → n / s ≡ q
    go (inl more) = let big : (q + 1) * s ≤ n / s * s = mul-le (q + 1) s (n / s) s (omega (arith, more)) (omega arith) in
        let small = div-mul-le_self n s in let next = one_more q s in absurd (omega (arith, big, small, next, h))
    go (inr le) = omega (arith, low, le)

-- a block is in its group
pub starts : (n s : ℕ) → group_start s n ≤ n
starts n s = div-mul-le_self n s

pub ends_after : (n s : ℕ) → 0 < s → n < group_start s n + s
ends_after n s p = go (cases_lt n (n / s * s + s))
  where
    go : (n < n / s * s + s) ⊎ (n / s * s + s ≤ n) → n < group_start s n + s
    go (inl l) = l
    go (inr h) = let next = one_more (n / s) s in let up : n / s + 1 ≤ n / s = le-div (n / s + 1) n s p (omega (arith, next, h)) in absurd (omega (arith, up))

-- a block in the group of another has the same group
same_group : (n m s : ℕ) → 0 < s → group_start s m ≤ n → n < group_start s m + s → group_start s n ≡ group_start s m
same_group n m s p l h = ap (λ q. q * s) (quotient n (m / s) s p l h)

both_ways : {A : Type 0} (b : Bool) → b ≡ true → b ≡ false → A
both_ways b t f = absurd (let bad : true ≡ false = sym t ∙ f in let z : ⊥ = cc in z)

-- ---- more listed blocks
-- what is asked for of some is asked for of more
more_beside : (T : Blocks) (last size : ℕ) (front more : List ℕ) (n : ℕ) → IsBeside T last size front n → IsBeside T last size (front ++ more) n
more_beside T last size front more n b = record {
  one = b.one;
  is_listed = in_left front more b.one b.is_listed;
  on_disc = b.on_disc;
  before = b.before;
  after = b.after;
  begins = b.begins;
  is_before = b.is_before;
  is_after = b.is_after;
  ends = b.ends;
  to_last = b.to_last;
  unread_before = b.unread_before;
  unread_after = b.unread_after;
}

more_grouped : (T : Blocks) (last size : ℕ) (front more : List ℕ) (n : ℕ) → IsGrouped T last size front n → IsGrouped T last size (front ++ more) n
more_grouped T last size front more n (inl i) = inl (in_left front more n i)
more_grouped T last size front more n (inr b) = inr (more_beside T last size front more n b)

-- a block that lies beside a front, by another block of the same group
moved : (T : Blocks) (last size : ℕ) (front : List ℕ) (one n before after : ℕ) → Contains front one → one ≤ last → group_start size one ≤ before → before ≤ n → n ≤ after
    → after < group_start size one + size → after ≤ last → is_known (T before) ≡ false → is_known (T after) ≡ false → IsBeside T last size front n
moved T last size front one n before after i d b c e f g u v = record {
  one = one;
  is_listed = i;
  on_disc = d;
  before = before;
  after = after;
  begins = b;
  is_before = c;
  is_after = e;
  ends = f;
  to_last = g;
  unread_before = u;
  unread_after = v;
}

-- a listed block up to one that is asked for is asked for already, with its group
pub skipped : (T : Blocks) (last size block : ℕ) → 0 < size → is_known (T block) ≡ false → (front asked : List ℕ) → ((n : ℕ) → Contains front n → n < block) → AreGrouped T last size front asked
    → (top : ℕ) → Contains asked top → block ≤ top → AreGrouped T last size (front ++ block ∷ []) asked
skipped T last size block p u front asked below g top is le = by ((g.exact top).0 is)
  where
    by : IsGrouped T last size front top → AreGrouped T last size (front ++ block ∷ []) asked
    by (inl i) = let lt = below top i in absurd (omega (arith, lt, le))
    by (inr b) = record { rises = g.rises; exact = λ n. (λ i. more_grouped T last size front (block ∷ []) n ((g.exact n).0 i), back n) }
      where
        low : group_start size b.one ≤ block
        low = let l = below b.one b.is_listed in let s = starts b.one size in omega (arith, l, s)

        high : block < group_start size b.one + size
        high = let a = b.is_after in let e = b.ends in omega (arith, le, a, e)

        same : group_start size block ≡ group_start size b.one
        same = same_group block b.one size p low high

        to_last : block ≤ last
        to_last = let a = b.is_after in let e = b.to_last in omega (arith, le, a, e)

        back : (n : ℕ) → IsGrouped T last size (front ++ block ∷ []) n → Contains asked n
        back n (inl i) = listed (in_one front (block ∷ []) n i)
          where
            listed : Contains front n ⊎ Contains (block ∷ []) n → Contains asked n
            listed (inl j) = (g.exact n).1 (inl j)
            listed (inr j) = subst (Contains asked) (alone block n j)
                ((g.exact block).1 (inr (moved T last size front b.one block block block b.is_listed b.on_disc low (omega arith) (omega arith) high to_last u u)))
        back n (inr x) = beside (in_one front (block ∷ []) x.one x.is_listed)
          where
            beside : Contains front x.one ⊎ Contains (block ∷ []) x.one → Contains asked n
            beside (inl j) = (g.exact n).1 (inr (moved T last size front x.one n x.before x.after j x.on_disc x.begins x.is_before x.is_after x.ends x.to_last x.unread_before x.unread_after))
            beside (inr j) = let start : group_start size x.one ≡ group_start size b.one = ap (group_start size) (sym (alone block x.one j)) ∙ same in
                (g.exact n).1 (inr (moved T last size front b.one n x.before x.after b.is_listed b.on_disc (subst (λ z. z ≤ x.before) start x.begins) x.is_before x.is_after
                (subst (λ z. x.after < z + size) start x.ends) x.to_last x.unread_before x.unread_after))

-- a listed block after the last of the disc is asked for alone
pub put_alone : (T : Blocks) (last size block : ℕ) → last < block → (front asked : List ℕ) → AreGrouped T last size front asked → ((n : ℕ) → Contains asked n → n < block)
    → AreGrouped T last size (front ++ block ∷ []) (asked ++ block ∷ [])
put_alone T last size block past front asked g below = record {
  rises = both_rise asked (block ∷ []) g.rises (λ m i. in_nothing m i, tt) (λ x y i j. subst (λ z. x < z) (alone block y j) (below x i));
  exact = λ n. (λ i. there n (in_one asked (block ∷ []) n i), back n);
}
  where
    there : (n : ℕ) → Contains asked n ⊎ Contains (block ∷ []) n → IsGrouped T last size (front ++ block ∷ []) n
    there n (inl i) = more_grouped T last size front (block ∷ []) n ((g.exact n).0 i)
    there n (inr i) = inl (in_right front (block ∷ []) n i)

    back : (n : ℕ) → IsGrouped T last size (front ++ block ∷ []) n → Contains (asked ++ block ∷ []) n
    back n (inl i) = listed (in_one front (block ∷ []) n i)
      where
        listed : Contains front n ⊎ Contains (block ∷ []) n → Contains (asked ++ block ∷ []) n
        listed (inl j) = in_left asked (block ∷ []) n ((g.exact n).1 (inl j))
        listed (inr j) = in_right asked (block ∷ []) n j
    back n (inr x) = beside (in_one front (block ∷ []) x.one x.is_listed)
      where
        beside : Contains front x.one ⊎ Contains (block ∷ []) x.one → Contains (asked ++ block ∷ []) n
        beside (inl j) = in_left asked (block ∷ []) n ((g.exact n).1 (inr (moved T last size front x.one n x.before x.after j x.on_disc x.begins x.is_before x.is_after x.ends x.to_last x.unread_before x.unread_after)))
        beside (inr j) = let e = alone block x.one j in let d = x.on_disc in absurd (omega (arith, past, e, d))

-- and one of the disc with its group
pub put_group : (T : Blocks) (last size block from to : ℕ) → 0 < size → is_known (T block) ≡ false → block ≤ last → AreEdges T last size block from to → (front asked : List ℕ)
    → AreGrouped T last size front asked → ((n : ℕ) → Contains asked n → n < block) → AreGrouped T last size (front ++ block ∷ []) (asked ++ range_with_len from (to + 1 - from))
put_group T last size block from to p u on_disc e front asked g below = record {
  rises = both_rise asked group g.rises (range_rises (to + 1 - from) from) (λ x y i j. apart x y i (inside y j));
  exact = λ n. (λ i. there n (in_one asked group n i), back n);
}
  where
    group : List ℕ
    group = range_with_len from (to + 1 - from)

    inside : (n : ℕ) → Contains group n → (from ≤ n) × (n ≤ to)
    inside n i = let h = in_range (to + 1 - from) from n i in let l = h.0 in let r = h.1 in (l, omega (arith, l, r))

    has : (n : ℕ) → from ≤ n → n ≤ to → Contains group n
    has n l r = range_has (to + 1 - from) from n l (omega (arith, l, r))

    own : block < group_start size block + size
    own = ends_after block size p

    -- nothing before it that is asked for is in its group: with that block the listed one would be asked for already
    met : {A : Type 0} (one : ℕ) → Contains front one → one ≤ last → group_start size one ≡ group_start size block → A
    met one i d same = let lt = below block ((g.exact block).1 (inr (moved T last size front one block block block i d
        (subst (λ z. z ≤ block) (sym same) (starts block size)) (omega arith) (omega arith) (subst (λ z. block < z + size) (sym same) own) on_disc u u))) in absurd (omega (arith, lt))

    apart : (x y : ℕ) → Contains asked x → (from ≤ y) × (y ≤ to) → x < y
    apart x y i w = go (cases_lt x (group_start size block))
      where
        go : (x < group_start size block) ⊎ (group_start size block ≤ x) → x < y
        go (inl l) = let b = e.begins in let f = w.0 in omega (arith, l, b, f)
        go (inr l) = by ((g.exact x).0 i)
          where
            high : x < group_start size block + size
            high = let lt = below x i in omega (arith, lt, own)

            same : group_start size x ≡ group_start size block
            same = same_group x block size p l high

            by : IsGrouped T last size front x → x < y
            by (inl j) = met x j (let lt = below x i in omega (arith, lt, on_disc)) same
            by (inr b) = met b.one b.is_listed b.on_disc (sym (same_group x b.one size p (let f = b.begins in let h = b.is_before in omega (arith, f, h)) (let f = b.ends in let h = b.is_after in omega (arith, f, h))) ∙ same)

    there : (n : ℕ) → Contains asked n ⊎ Contains group n → IsGrouped T last size (front ++ block ∷ []) n
    there n (inl i) = more_grouped T last size front (block ∷ []) n ((g.exact n).0 i)
    there n (inr i) = let w = inside n i in inr (moved T last size (front ++ block ∷ []) block n from to (in_right front (block ∷ []) block (here block [])) on_disc
        e.begins w.0 w.1 e.ends e.to_last e.unread_from e.unread_to)

    back : (n : ℕ) → IsGrouped T last size (front ++ block ∷ []) n → Contains (asked ++ group) n
    back n (inl i) = listed (in_one front (block ∷ []) n i)
      where
        listed : Contains front n ⊎ Contains (block ∷ []) n → Contains (asked ++ group) n
        listed (inl j) = in_left asked group n ((g.exact n).1 (inl j))
        listed (inr j) = in_right asked group n (subst (Contains group) (alone block n j) (has block e.is_before e.is_after))
    back n (inr x) = beside (in_one front (block ∷ []) x.one x.is_listed)
      where
        beside : Contains front x.one ⊎ Contains (block ∷ []) x.one → Contains (asked ++ group) n
        beside (inl j) = in_left asked group n ((g.exact n).1 (inr (moved T last size front x.one n x.before x.after j x.on_disc x.begins x.is_before x.is_after x.ends x.to_last x.unread_before x.unread_after)))
        beside (inr j) = in_right asked group n (has n low high)
          where
            start : group_start size x.one ≡ group_start size block
            start = ap (group_start size) (sym (alone block x.one j))

            low : from ≤ n
            low = go (cases_lt x.before from)
              where
                go : (x.before < from) ⊎ (from ≤ x.before) → from ≤ n
                go (inl l) = both_ways (is_known (T x.before)) (e.known_before x.before (subst (λ z. z ≤ x.before) start x.begins) l) x.unread_before
                go (inr l) = let h = x.is_before in omega (arith, l, h)

            high : n ≤ to
            high = go (cases_lt to x.after)
              where
                go : (to < x.after) ⊎ (x.after ≤ to) → n ≤ to
                go (inl l) = both_ways (is_known (T x.after)) (e.known_after x.after l x.to_last (subst (λ z. x.after < z + size) start x.ends)) x.unread_after
                go (inr l) = let h = x.is_after in omega (arith, l, h)

-- ---- one more listed block
one_on : (n : ℕ) → n + 1 - 1 ≡ n
one_on n = omega arith

-- one up to what is asked for
pub add_skipped : (T : Blocks) (last size block next : ℕ) (asked : List ℕ) → 0 < size → is_known (T block) ≡ false → block < next → Adds T last size block asked next asked next
add_skipped T last size block next asked p u lt front below g (all, top) = (by top, (all, top))
  where
    by : (next ≡ 0) ⊎ Contains asked (next - 1) → AreGrouped T last size (front ++ block ∷ []) asked
    by (inl none) = absurd (omega (arith, lt, none))
    by (inr is) = skipped T last size block p u front asked below g (next - 1) is (omega (arith, lt))

-- one after the last of the disc
pub add_alone : (T : Blocks) (last size block next : ℕ) (asked : List ℕ) → last < block → next ≤ block → Adds T last size block asked next (asked ++ block ∷ []) (block + 1)
add_alone T last size block next asked past le front below g (all, top) = (put_alone T last size block past front asked g under, (λ n i. go n (in_one asked (block ∷ []) n i), inr at))
  where
    under : (n : ℕ) → Contains asked n → n < block
    under n i = let l = all n i in omega (arith, l, le)

    go : (n : ℕ) → Contains asked n ⊎ Contains (block ∷ []) n → n < block + 1
    go n (inl j) = let l = under n j in omega (arith, l)
    go n (inr j) = let e = alone block n j in omega (arith, e)

    at : Contains (asked ++ block ∷ []) (block + 1 - 1)
    at = subst (Contains (asked ++ block ∷ [])) (sym (one_on block)) (in_right asked (block ∷ []) block (here block []))

-- one with its group
pub add_group : (T : Blocks) (last size block next from to : ℕ) (asked : List ℕ) → 0 < size → is_known (T block) ≡ false → block ≤ last → next ≤ block → AreEdges T last size block from to
    → Adds T last size block asked next (asked ++ range_with_len from (to + 1 - from)) (to + 1)
add_group T last size block next from to asked p u on_disc le e front below g (all, top) = (put_group T last size block from to p u on_disc e front asked g under, (λ n i. go n (in_one asked group n i), inr at))
  where
    group : List ℕ
    group = range_with_len from (to + 1 - from)

    under : (n : ℕ) → Contains asked n → n < block
    under n i = let l = all n i in omega (arith, l, le)

    go : (n : ℕ) → Contains asked n ⊎ Contains group n → n < to + 1
    go n (inl j) = let l = under n j in let h = e.is_after in omega (arith, l, h)
    go n (inr j) = let k = (in_range (to + 1 - from) from n j).1 in let b = e.is_before in let h = e.is_after in omega (arith, k, b, h)

    at : Contains (asked ++ group) (to + 1 - 1)
    at = subst (Contains (asked ++ group)) (sym (one_on to)) (in_right asked group to (let b = e.is_before in let h = e.is_after in range_has (to + 1 - from) from to (omega (arith, b, h)) (omega (arith, b, h))))

-- ---- all listed blocks
pub none_asked : (T : Blocks) (last size : ℕ) → AreGrouped T last size [] []
none_asked T last size = record { rises = tt; exact = λ n. (λ i. in_nothing n i, λ g. go n g) }
  where
    go : (n : ℕ) → IsGrouped T last size [] n → Contains [] n
    go n (inl i) = i
    go n (inr b) = in_nothing b.one b.is_listed

pub none_next : IsNext [] 0
none_next = (λ n i. in_nothing n i, inl refl)

-- one more of a rising list
pub grouped_more : (T : Blocks) (last size : ℕ) (listed : List ℕ) (i d next later : ℕ) (asked new : List ℕ) → IsRising listed → i < length listed
    → Adds T last size (get_or listed i d) asked next new later → AreGrouped T last size (take i listed) asked → IsNext asked next
    → AreGrouped T last size (take (i + 1) listed) new × IsNext new later
grouped_more T last size listed i d next later asked new rising lt adds g is = let x = adds (take i listed) (front_below listed i d rising lt) g is in
    (subst (λ l. AreGrouped T last size l new) (sym (take_more listed i d lt)) x.0, x.1)
