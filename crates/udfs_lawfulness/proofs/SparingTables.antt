-- Sparing tables are read as their table gives them.
use Rattle.std.proofs.Common.{◌≡◌, ◌≢◌, refl, sym, ◌∙◌, ap, subst, inl, inr, ◌⊎◌, ℕ, ◌+◌, ◌-◌, ◌*◌, ◌%◌, ◌^◌, ◌<◌, ◌≤◌, Bool, true, false, not, List, [], ◌∷◌, length, map, drop, cond, ◌&&◌, ◌||◌, arith, None, nat_eq, nat_lt, eqb-true}
use Rattle.std.specs.Prelude.{zero, suc, codes, filter}
use Rattle.std.specs.List.{list_any, range_with_len}
use Rattle.std.specs.Str.{bytes_eq}
use Rattle.std.proofs.lemmas.Bool.{eq-eqb, le-ltb, lt-ltb, ltb-false, ltb-true}
use Rattle.std.proofs.lemmas.List.{drop-drop}
use Rattle.std.proofs.lemmas.List.FromFn.{length-map-range_with_len}
use Rattle.std.proofs.lemmas.Slice.Eq.{bytes_eq-Decides}
use Rattle.byteorder.specs.Endian.{little_number}
use Rattle.udfs_tag.specs.Faults.{first_fault, is_within}
use Rattle.udfs_tag.specs.Fields.{part, regid_at, uint16_at, uint32_at, zero_filled}
use Rattle.udfs_tag.specs.Tags.{is_valid}
use Rattle.udfs_volume.specs.Answers.{found, unless_fault}
use Rattle.udfs_volume.specs.declared.faults.VolumeFault.TheVariants.{SparingTag, SparingShape, SparingOrder, MappedRange}
use Rattle.udfs_volume.proofs.Bounds.{unless_fault-found}
use Rattle.udfs_volume.proofs.Known.{both}
use Rattle.udfs_space.specs.declared.entries.SparingEntry.{SparingEntry}
use Rattle.udfs_space.specs.Sparing.{breaks_order, entries, entry_count, is_bad_original, is_misshapen, is_out_of_order, is_sparing_table, is_used, passes_end, spared_from, spared_in, sparing_entry_of, sparing_fault}
use Rattle.udfs_lawfulness.specs.EcmaLaws.{AreBytes, SparingLaw}
use Rattle.udfs_lawfulness.specs.Sparing.{AreEntries, AreInOrder, AreUsedOf, Each, IsGood, IsInside, IsSparingTable, IsUsed}
use Rattle.udfs_lawfulness.proofs.MapTables.{all_of, entity_is, entity_of, range_shift, within_if, within_of}
use Rattle.udfs_lawfulness.proofs.Reading.{field_is, field_of, holds_by, holds_fits, holds_is, holds_of, inner_part, number_below}
use Rattle.udfs_lawfulness.proofs.TagTables.{tag_law}
use Rattle.udfs_lawfulness.proofs.VolumeTables.{after_tag, name_after, neither, no_first, not_not}

-- ---- the entries
-- the entry at a byte position
abbrev entry_at : List ℕ → ℕ → SparingEntry
entry_at bytes p = record { original = uint32_at bytes p; mapped = uint32_at bytes (p + 4) }

abbrev entries_from : List ℕ → ℕ → ℕ → List SparingEntry
entries_from bytes p n = map (λ i. entry_at bytes (p + 8 * i)) (range_with_len 0 n)

entries_more : (bytes : List ℕ) (p n : ℕ) → entries_from bytes p (suc n) ≡ entry_at bytes p ∷ entries_from bytes (p + 8) n
entries_more bytes p n = λ i. ap (entry_at bytes) first i ∷ range_shift (λ k. entry_at bytes (p + 8 * k)) (λ k. entry_at bytes (p + 8 + 8 * k)) 1 0 n (λ k. ap (entry_at bytes) (next k)) i
  where
    first : p + 8 * 0 ≡ p
    first = omega arith

    next : (k : ℕ) → p + 8 * (1 + k) ≡ p + 8 + 8 * (0 + k)
    next k = omega arith

entries_are : (bytes : List ℕ) (p : ℕ) (es : List SparingEntry) → AreEntries bytes p es → entries_from bytes p (length es) ≡ es
entries_are bytes p [] h = refl
entries_are bytes p (e ∷ es) h = entries_more bytes p (length es)
    ∙ (λ i. record { original = holds_is bytes p 4 e.original h.0 i; mapped = holds_is bytes (p + 4) 4 e.mapped h.1 i } ∷ entries_are bytes (p + 8) es h.2 i)

entries_of : (bytes : List ℕ) (p n : ℕ) → p + 8 * n ≤ length bytes → AreEntries bytes p (entries_from bytes p n)
entries_of bytes p zero l = tt
entries_of bytes p (suc n) l = subst (AreEntries bytes p) (sym (entries_more bytes p n))
    (holds_of bytes p 4 (omega (arith, l)), holds_of bytes (p + 4) 4 (omega (arith, l)), entries_of bytes (p + 8) n (omega (arith, l)))

entries_fit : (bytes : List ℕ) (p : ℕ) (es : List SparingEntry) → p ≤ length bytes → AreEntries bytes p es → p + 8 * length es ≤ length bytes
entries_fit bytes p [] l h = omega (arith, l)
entries_fit bytes p (e ∷ es) l h = let m : p + 4 + 4 ≤ length bytes = holds_fits bytes (p + 4) 4 e.mapped h.1 in
    let r : p + 8 + 8 * length es ≤ length bytes = entries_fit bytes (p + 8) es (omega (arith, m)) h.2 in omega (arith, r)

-- an original location is a number of 32 bits
entries_small : (bytes : List ℕ) → AreBytes bytes → (p n : ℕ) → Each (λ e. e.original < 2 ^ 32) (entries_from bytes p n)
entries_small bytes b p zero = tt
entries_small bytes b p (suc n) = subst (Each (λ e. e.original < 2 ^ 32)) (sym (entries_more bytes p n)) (number_below bytes b p 4, entries_small bytes b (p + 8) n)

-- what is read after the tag
read_is : (bytes : List ℕ) (n : ℕ) → entry_count (drop 16 bytes) ≡ n → entries (drop 16 bytes) ≡ entries_from bytes 56 n
read_is bytes n e = ap (λ m. map (λ i. sparing_entry_of (drop (56 + 8 * i - 16) (drop 16 bytes))) (range_with_len 0 m)) e
    ∙ range_shift (λ i. sparing_entry_of (drop (56 + 8 * i - 16) (drop 16 bytes))) (λ i. entry_at bytes (56 + 8 * i)) 0 0 n one
  where
    at : (i : ℕ) → drop (56 + 8 * (0 + i) - 16) (drop 16 bytes) ≡ drop (56 + 8 * (0 + i)) bytes
    at i = drop-drop (56 + 8 * (0 + i) - 16) 16 bytes ∙ ap (λ k. drop k bytes) {x = 16 + (56 + 8 * (0 + i) - 16)} {y = 56 + 8 * (0 + i)} (omega arith)

    one : (i : ℕ) → sparing_entry_of (drop (56 + 8 * (0 + i) - 16) (drop 16 bytes)) ≡ entry_at bytes (56 + 8 * (0 + i))
    one i = λ j. record { original = ap (little_number 4) (at i) j; mapped = (ap (λ x. little_number 4 (drop 4 x)) (at i) ∙ ap (little_number 4) (drop-drop 4 (56 + 8 * (0 + i)) bytes)) j }

-- ---- the tests of entries
none_if : (test : SparingEntry → Bool) (es : List SparingEntry) → list_any test es ≡ false → Each (λ e. test e ≡ false) es
none_if test [] h = tt
none_if test (e ∷ es) h = let n : (test e ≡ false) × (list_any test es ≡ false) = neither (test e) (list_any test es) h in (n.0, none_if test es n.1)

none_of : (test : SparingEntry → Bool) (es : List SparingEntry) → Each (λ e. test e ≡ false) es → list_any test es ≡ false
none_of test [] h = refl
none_of test (e ∷ es) h = ap (λ b. b || list_any test es) h.0 ∙ none_of test es h.1

weaker : (P Q : SparingEntry → Type 0) → ((e : SparingEntry) → P e → Q e) → (es : List SparingEntry) → Each P es → Each Q es
weaker P Q f [] h = tt
weaker P Q f (e ∷ es) h = (f e h.0, weaker P Q f es h.1)

together : (P Q : SparingEntry → Type 0) (es : List SparingEntry) → Each P es → Each Q es → Each (λ e. P e × Q e) es
together P Q [] p q = tt
together P Q (e ∷ es) p q = ((p.0, q.0), together P Q es p.1 q.1)

-- a choice by whether an entry is used
by_use : (e : SparingEntry) (X : Type 0) → (is_used e ≡ true → IsUsed e → X) → (is_used e ≡ false → ¬ IsUsed e → X) → X
by_use e X p q = go (is_used e) refl
  where
    go : (b : Bool) → is_used e ≡ b → X
    go true u = p u (ltb-true e.original 0xFFFF_FFF0 u)
    go false u = q u (λ l. let f : 0xFFFF_FFF0 ≤ e.original = ltb-false e.original 0xFFFF_FFF0 u in let z : ⊥ = omega (arith, f, l) in z)

use_of : (e : SparingEntry) → IsUsed e → is_used e ≡ true
use_of e l = lt-ltb e.original 0xFFFF_FFF0 l

no_use : (e : SparingEntry) → 0xFFFF_FFF0 ≤ e.original → is_used e ≡ false
no_use e l = le-ltb e.original 0xFFFF_FFF0 l

not_within : (low high n : ℕ) → (low ≤ n → n ≤ high → ⊥) → is_within low high n ≡ false
not_within low high n h = go (is_within low high n) refl
  where
    go : (b : Bool) → is_within low high n ≡ b → b ≡ false
    go true e = let w : (low ≤ n) × (n ≤ high) = within_if low high n e in absurd (h w.0 w.1)
    go false e = refl

outside : (low high n : ℕ) → is_within low high n ≡ false → low ≤ n → n ≤ high → ⊥
outside low high n e p q = let z : true ≡ false = sym (within_of low high n p q) ∙ e in let no : ⊥ = cc in no

-- original locations
good_if : (packet : ℕ) (e : SparingEntry) → (is_bad_original packet e ≡ false) × (e.original < 2 ^ 32) → IsGood packet e
good_if packet e (h, small) = by_use e (IsGood packet e) used unused
  where
    n : (is_within 0xFFFF_FFF1 0xFFFF_FFFE e.original ≡ false) × ((is_used e && not (nat_eq (e.original % packet) 0)) ≡ false)
    n = neither (is_within 0xFFFF_FFF1 0xFFFF_FFFE e.original) (is_used e && not (nat_eq (e.original % packet) 0)) h

    used : is_used e ≡ true → IsUsed e → IsGood packet e
    used u l = inl (l, eqb-true (e.original % packet) 0 (not_not (nat_eq (e.original % packet) 0) (sym (ap (λ b. b && not (nat_eq (e.original % packet) 0)) u) ∙ n.1)))

    ends : 0xFFFF_FFF0 ≤ e.original → (b : Bool) → nat_eq e.original 0xFFFF_FFF0 ≡ b → (e.original ≡ 0xFFFF_FFF0) ⊎ (e.original ≡ 0xFFFF_FFFF)
    ends l true q = inl (eqb-true e.original 0xFFFF_FFF0 q)
    ends l false q = let ne : e.original ≢ 0xFFFF_FFF0 = λ s. let z : true ≡ false = sym (eq-eqb e.original 0xFFFF_FFF0 s) ∙ q in let no : ⊥ = cc in no in
        inr (top (omega (arith, l, ne)))
      where
        top : 0xFFFF_FFF1 ≤ e.original → e.original ≡ 0xFFFF_FFFF
        top m = at (nat_lt e.original 0xFFFF_FFFF) refl
          where
            at : (b : Bool) → nat_lt e.original 0xFFFF_FFFF ≡ b → e.original ≡ 0xFFFF_FFFF
            at true s = let k : e.original < 0xFFFF_FFFF = ltb-true e.original 0xFFFF_FFFF s in absurd (outside 0xFFFF_FFF1 0xFFFF_FFFE e.original n.0 m (omega (arith, k)))
            at false s = let k : 0xFFFF_FFFF ≤ e.original = ltb-false e.original 0xFFFF_FFFF s in omega (arith, k, small)

    unused : is_used e ≡ false → ¬ IsUsed e → IsGood packet e
    unused u l = inr (ends (ltb-false e.original 0xFFFF_FFF0 u) (nat_eq e.original 0xFFFF_FFF0) refl)

good_of : (packet : ℕ) (e : SparingEntry) → IsGood packet e → is_bad_original packet e ≡ false
good_of packet e (inl (l, q)) = (λ i. not_within 0xFFFF_FFF1 0xFFFF_FFFE e.original (λ p r. let z : ⊥ = omega (arith, l, p) in z) i || (use_of e l i && not (eq-eqb (e.original % packet) 0 q i)))
good_of packet e (inr (inl q)) = (λ i. not_within 0xFFFF_FFF1 0xFFFF_FFFE e.original (λ p r. let z : ⊥ = omega (arith, q, p) in z) i || (no_use e (omega (arith, q)) i && not (nat_eq (e.original % packet) 0)))
good_of packet e (inr (inr q)) = (λ i. not_within 0xFFFF_FFF1 0xFFFF_FFFE e.original (λ p r. let z : ⊥ = omega (arith, q, r) in z) i || (no_use e (omega (arith, q)) i && not (nat_eq (e.original % packet) 0)))

-- mapped locations
inside_if : (last packet : ℕ) (e : SparingEntry) → passes_end last packet e ≡ false → IsInside last packet e
inside_if last packet e h l = let f : nat_lt (last + 1) (e.mapped + packet) ≡ false = sym (ap (λ b. b && nat_lt (last + 1) (e.mapped + packet)) (use_of e l)) ∙ h in ltb-false (last + 1) (e.mapped + packet) f

inside_of : (last packet : ℕ) (e : SparingEntry) → IsInside last packet e → passes_end last packet e ≡ false
inside_of last packet e h = by_use e (passes_end last packet e ≡ false)
    (λ u l. (λ i. u i && le-ltb (last + 1) (e.mapped + packet) (h l) i))
    (λ u l. ap (λ b. b && nat_lt (last + 1) (e.mapped + packet)) u)

-- the order
order_if : (es : List SparingEntry) → is_out_of_order es ≡ false → AreInOrder es
order_if [] h = tt
order_if (e ∷ []) h = tt
order_if (e ∷ f ∷ es) h = let n : (breaks_order e f ≡ false) × (is_out_of_order (f ∷ es) ≡ false) = neither (breaks_order e f) (is_out_of_order (f ∷ es)) h in
    let m : (nat_lt f.original e.original ≡ false) × ((is_used e && nat_eq f.original e.original) ≡ false) = neither (nat_lt f.original e.original) (is_used e && nat_eq f.original e.original) n.0 in (
      ltb-false f.original e.original m.0,
      λ u q. let z : true ≡ false = sym (λ i. use_of e u i && eq-eqb f.original e.original q i) ∙ m.1 in let no : ⊥ = cc in no,
      order_if (f ∷ es) n.1,
    )

order_of : (es : List SparingEntry) → AreInOrder es → is_out_of_order es ≡ false
order_of [] h = refl
order_of (e ∷ []) h = refl
order_of (e ∷ f ∷ es) h = (λ i. (le-ltb f.original e.original h.0 i || same i) || is_out_of_order (f ∷ es)) ∙ order_of (f ∷ es) h.2
  where
    unequal : (a b : ℕ) → a ≢ b → nat_eq a b ≡ false
    unequal a b n = go (nat_eq a b) refl
      where
        go : (t : Bool) → nat_eq a b ≡ t → t ≡ false
        go true q = absurd (n (eqb-true a b q))
        go false q = refl

    same : (is_used e && nat_eq f.original e.original) ≡ false
    same = by_use e ((is_used e && nat_eq f.original e.original) ≡ false)
        (λ u l. (λ i. u i && unequal f.original e.original (h.1 l) i))
        (λ u l. ap (λ b. b && nat_eq f.original e.original) u)

-- those that are used
used_if : (es : List SparingEntry) → AreUsedOf es (filter is_used es)
used_if [] = refl
used_if (e ∷ es) = by_use e (AreUsedOf (e ∷ es) (filter is_used (e ∷ es)))
    (λ u l. inl (l, (filter is_used es, ap (λ b. cond b (e ∷ filter is_used es) (filter is_used es)) u, used_if es)))
    (λ u l. inr (l, subst (AreUsedOf es) (sym (ap (λ b. cond b (e ∷ filter is_used es) (filter is_used es)) u)) (used_if es)))

used_of : (entries es : List SparingEntry) → AreUsedOf entries es → filter is_used entries ≡ es
used_of [] es h = sym h
used_of (e ∷ entries) es (inl (l, (rest, q, more))) = ap (λ b. cond b (e ∷ filter is_used entries) (filter is_used entries)) (use_of e l) ∙ ap (λ x. e ∷ x) (used_of entries rest more) ∙ sym q
used_of (e ∷ entries) es (inr (l, more)) = ap (λ b. cond b (e ∷ filter is_used entries) (filter is_used entries)) (by_use e (is_used e ≡ false) (λ u k. absurd (l k)) (λ u k. u)) ∙ used_of entries es more

-- ---- the table
module _ (last packet : ℕ) (bytes : List ℕ) (b : AreBytes bytes) (long : 56 ≤ length bytes) (place : ℕ) (es : List SparingEntry) where
  abbrev content : List ℕ
  content = drop 16 bytes

  name_read : (regid_at content 0).name ≡ part (part bytes 16 32) 1 23
  name_read = name_after bytes 0 ∙ sym (inner_part bytes 16 32 1 23 (omega arith))

  count_read : entry_count content ≡ uint16_at bytes 48
  count_read = after_tag bytes 2 32

  table_from : spared_from last packet (length bytes) (is_valid bytes place 0) content ≡ found es → IsSparingTable last packet bytes place es
  table_from h = record {
    tagged = (tag_law bytes b place 0).0 tags.0;
    name = part bytes 16 32;
    name_field = field_of bytes 16 32 (omega (arith, long));
    name_is = entity_of (part bytes 16 32) (codes "*UDF Sparing Table") (omega (arith, (field_of bytes 16 32 (omega (arith, long))).size))
        (sym name_read ∙ (bytes_eq-Decides (regid_at content 0).name (zero_filled 23 (codes "*UDF Sparing Table"))).0 tags.1);
    entries = entries_from bytes 56 (entry_count content);
    count_is = holds_by bytes 48 2 (length (entries_from bytes 56 (entry_count content))) (omega (arith, long))
        (sym count_read ∙ sym (length-map-range_with_len (λ i. entry_at bytes (56 + 8 * i)) 0 (entry_count content)));
    entries_are = entries_of bytes 56 (entry_count content) (ltb-false (length bytes) (56 + 8 * entry_count content) shape.0);
    good = weaker (λ e. (is_bad_original packet e ≡ false) × (e.original < 2 ^ 32)) (IsGood packet) (good_if packet) (entries_from bytes 56 (entry_count content))
        (together (λ e. is_bad_original packet e ≡ false) (λ e. e.original < 2 ^ 32) (entries_from bytes 56 (entry_count content))
        (none_if (is_bad_original packet) (entries_from bytes 56 (entry_count content)) (ap (list_any (is_bad_original packet)) (sym same) ∙ shape.1)) (entries_small bytes b 56 (entry_count content)));
    in_order = order_if (entries_from bytes 56 (entry_count content)) (ap is_out_of_order (sym same) ∙ t3.0);
    inside = weaker (λ e. passes_end last packet e ≡ false) (IsInside last packet) (inside_if last packet) (entries_from bytes 56 (entry_count content))
        (none_if (passes_end last packet) (entries_from bytes 56 (entry_count content)) (ap (list_any (passes_end last packet)) (sym same) ∙ (no_first (list_any (passes_end last packet) (entries content)) MappedRange None t3.1).0));
    used = subst (AreUsedOf (entries_from bytes 56 (entry_count content))) (ap (filter is_used) (sym same) ∙ f.1) (used_if (entries_from bytes 56 (entry_count content)));
  }
    where
      f : (sparing_fault last packet (length bytes) (is_valid bytes place 0) content ≡ None) × (spared_in content ≡ es)
      f = unless_fault-found (sparing_fault last packet (length bytes) (is_valid bytes place 0) content) (spared_in content) es h

      same : entries content ≡ entries_from bytes 56 (entry_count content)
      same = read_is bytes (entry_count content) refl

      t1 : (not (is_sparing_table (is_valid bytes place 0) content) ≡ false) × (first_fault ((is_misshapen packet (length bytes) content, SparingShape) ∷ (is_out_of_order (entries content), SparingOrder) ∷ (list_any (passes_end last packet) (entries content), MappedRange) ∷ []) ≡ None)
      t1 = no_first (not (is_sparing_table (is_valid bytes place 0) content)) SparingTag _ f.0

      t2 : (is_misshapen packet (length bytes) content ≡ false) × (first_fault ((is_out_of_order (entries content), SparingOrder) ∷ (list_any (passes_end last packet) (entries content), MappedRange) ∷ []) ≡ None)
      t2 = no_first (is_misshapen packet (length bytes) content) SparingShape _ t1.1

      t3 : (is_out_of_order (entries content) ≡ false) × (first_fault ((list_any (passes_end last packet) (entries content), MappedRange) ∷ []) ≡ None)
      t3 = no_first (is_out_of_order (entries content)) SparingOrder _ t2.1

      tags : (is_valid bytes place 0 ≡ true) × (bytes_eq (regid_at content 0).name (zero_filled 23 (codes "*UDF Sparing Table")) ≡ true)
      tags = both (is_valid bytes place 0) _ (not_not (is_sparing_table (is_valid bytes place 0) content) t1.0)

      shape : (nat_lt (length bytes) (56 + 8 * entry_count content) ≡ false) × (list_any (is_bad_original packet) (entries content) ≡ false)
      shape = neither (nat_lt (length bytes) (56 + 8 * entry_count content)) (list_any (is_bad_original packet) (entries content)) t2.0

  table_to : IsSparingTable last packet bytes place es → spared_from last packet (length bytes) (is_valid bytes place 0) content ≡ found es
  table_to h = (λ i. unless_fault (none i) (spared_in content)) ∙ ap found (ap (filter is_used) same ∙ used_of h.entries es h.used)
    where
      count : entry_count content ≡ length h.entries
      count = count_read ∙ holds_is bytes 48 2 (length h.entries) h.count_is

      same : entries content ≡ h.entries
      same = read_is bytes (length h.entries) count ∙ entries_are bytes 56 h.entries h.entries_are

      table : is_sparing_table (is_valid bytes place 0) content ≡ true
      table = all_of (is_valid bytes place 0) _ ((tag_law bytes b place 0).1 h.tagged)
          ((bytes_eq-Decides (regid_at content 0).name (zero_filled 23 (codes "*UDF Sparing Table"))).1
          (name_read ∙ ap (λ x. part x 1 23) (field_is bytes 16 32 h.name h.name_field) ∙ entity_is h.name (codes "*UDF Sparing Table") h.name_is))

      fits : 56 + 8 * entry_count content ≤ length bytes
      fits = let l : 56 + 8 * length h.entries ≤ length bytes = entries_fit bytes 56 h.entries long h.entries_are in omega (arith, l, count)

      shape : is_misshapen packet (length bytes) content ≡ false
      shape = (λ i. le-ltb (length bytes) (56 + 8 * entry_count content) fits i || list_any (is_bad_original packet) (same i))
          ∙ none_of (is_bad_original packet) h.entries (weaker (IsGood packet) (λ e. is_bad_original packet e ≡ false) (good_of packet) h.entries h.good)

      none : sparing_fault last packet (length bytes) (is_valid bytes place 0) content ≡ None
      none = λ i. first_fault ((not (table i), SparingTag) ∷ (shape i, SparingShape) ∷ ((ap is_out_of_order same ∙ order_of h.entries h.in_order) i, SparingOrder)
          ∷ ((ap (list_any (passes_end last packet)) same ∙ none_of (passes_end last packet) h.entries (weaker (IsInside last packet) (λ e. passes_end last packet e ≡ false) (inside_of last packet) h.entries h.inside)) i, MappedRange) ∷ [])

pub sparing_law : SparingLaw
sparing_law last packet bytes b long place es = (λ h. table_from last packet bytes b long place es h, λ h. table_to last packet bytes b long place es h)
