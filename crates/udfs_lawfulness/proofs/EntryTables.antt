-- Entries are read as their tables give them.
use Rattle.std.proofs.Common.{◌≡◌, ◌≢◌, refl, sym, ◌∙◌, ap, subst, inl, inr, ◌⊎◌, ℕ, ◌+◌, ◌-◌, ◌/◌, ◌%◌, ◌<◌, ◌≤◌, Bool, true, false, not, List, [], ◌∷◌, length, cond, ◌&&◌, ◌||◌, arith, None, nat_eq, nat_le, eqb-true}
use Rattle.std.proofs.lemmas.Bool.{eq-eqb, leb-false, cases_lt, lt-leb}
use Rattle.udfs_lattice.specs.States.{IsBlock}
use Rattle.udfs_tag.specs.Faults.{first_fault}
use Rattle.udfs_tag.specs.Fields.{part, uint8_at, uint16_at, uint32_at, uint64_at}
use Rattle.udfs_tag.specs.Tags.{is_valid}
use Rattle.udfs_osta.specs.Stamps.{stamp_of}
use Rattle.udfs_file.specs.Entries.{EntryFields, area_start, descriptor_form, descriptor_size, descriptors_length, entry_fault, entry_of, fixed_part, has_bad_lengths, is_cut_form, is_entry, is_strange_form, is_too_long, kind_of}
use Rattle.udfs_file.specs.declared.faults.Kind.{Kind}
use Rattle.udfs_file.specs.declared.faults.Kind.TheVariants.{Directory, File, Link, Other, Unread}
use Rattle.udfs_file.specs.declared.faults.NodeFault.TheVariants.{Tag, Strategy, Descriptors, Lengths}
use Rattle.udfs_lawfulness.specs.Entries.{EntryTable, IsAreaOf, IsEntryAt, IsEntryBy, IsKind}
use Rattle.udfs_lawfulness.specs.EcmaLaws.{EntryLaw}
use Rattle.udfs_lawfulness.specs.LawfulTables.{HasBits, row}
use Rattle.udfs_lawfulness.proofs.Reading.{byte_by, byte_is, field_by, field_fits, field_is, field_of, holds_by, holds_is, holds_of, inner_by, inner_is}
use Rattle.udfs_lawfulness.proofs.TagTables.{tag_law}
use Rattle.udfs_lawfulness.proofs.VolumeTables.{neither, no_first, not_not}

-- ---- the kind, by the file type
is_kind : (t : ℕ) → IsKind t (kind_of t)
is_kind t = by_4 (nat_eq t 4) refl
  where
    differs : (n : ℕ) → nat_eq t n ≡ false → t ≢ n
    differs n e q = let z : true ≡ false = sym (eq-eqb t n q) ∙ e in let no : ⊥ = cc in no

    by_12 : nat_eq t 4 ≡ false → nat_eq t 5 ≡ false → (b : Bool) → nat_eq t 12 ≡ b → IsKind t (cond b Link (Other t))
    by_12 p q true e = eqb-true t 12 e
    by_12 p q false e = (refl, differs 4 p, differs 5 q, differs 12 e)

    by_5 : nat_eq t 4 ≡ false → (b : Bool) → nat_eq t 5 ≡ b → IsKind t (cond b File (cond (nat_eq t 12) Link (Other t)))
    by_5 p true e = eqb-true t 5 e
    by_5 p false e = by_12 p e (nat_eq t 12) refl

    by_4 : (b : Bool) → nat_eq t 4 ≡ b → IsKind t (cond b Directory (cond (nat_eq t 5) File (cond (nat_eq t 12) Link (Other t))))
    by_4 true e = eqb-true t 4 e
    by_4 false e = by_5 e (nat_eq t 5) refl

pub unequal : (t n : ℕ) → t ≢ n → nat_eq t n ≡ false
unequal t n h = go (nat_eq t n) refl
  where
    go : (b : Bool) → nat_eq t n ≡ b → b ≡ false
    go true e = absurd (h (eqb-true t n e))
    go false e = refl

the_kind : (t : ℕ) (k : Kind) → IsKind t k → kind_of t ≡ k
the_kind t Directory h = ap kind_of h
the_kind t File h = ap kind_of h
the_kind t Link h = ap kind_of h
the_kind t Unread h = absurd h
the_kind t (Other u) (e, p, q, r) = (λ i. cond (unequal t 4 p i) Directory (cond (unequal t 5 q i) File (cond (unequal t 12 r i) Link (Other t)))) ∙ ap Other e

-- ---- the form
form_is : (n form : ℕ) → HasBits 0 3 n form → n % 8 ≡ form
form_is n form h = omega (arith, h.is, h.few, h.rest)

form_of : (n : ℕ) → HasBits 0 3 n (n % 8)
form_of n = record { above = n / 8; below = 0; is = omega arith; few = omega arith; rest = omega arith }

-- a form of which the tests say nothing is one that is read
whole_if : (form count : ℕ) → is_strange_form form ≡ false → is_cut_form form count ≡ false → IsAreaOf form count
whole_if form count s c = by (nat_eq form 3) refl
  where
    t : ((nat_eq form 2) ≡ false) × (nat_le 4 form ≡ false)
    t = neither (nat_eq form 2) (nat_le 4 form) s

    less : form < 4
    less = leb-false 4 form t.1

    not_two : form ≢ 2
    not_two q = let z : true ≡ false = sym (eq-eqb form 2 q) ∙ t.0 in let no : ⊥ = cc in no

    divided : (size : ℕ) → not (nat_eq (count % size) 0) ≡ false → count % size ≡ 0
    divided size e = eqb-true (count % size) 0 (not_not (nat_eq (count % size) 0) e)

    three : form ≢ 3 → (form ≡ 0) ⊎ (form ≡ 1)
    three n = of (cases_lt form 1)
      where
        of : (form < 1) ⊎ (1 ≤ form) → (form ≡ 0) ⊎ (form ≡ 1)
        of (inl l) = inl (omega arith)
        of (inr l) = let low : form ≡ 1 = omega (arith, l, less, not_two, n) in inr low

    short_or_long : nat_eq form 3 ≡ false → (form ≡ 0) ⊎ (form ≡ 1) → IsAreaOf form count
    short_or_long f (inl e) = inl (inl (e, (count / 8, let d : count % 8 ≡ 0 = divided 8 ((λ i. not (nat_eq (sym e i) 3) && not (nat_eq (count % descriptor_size (sym e i)) 0)) ∙ c) in omega (arith, d))))
    short_or_long f (inr e) = inl (inr (e, (count / 16, let d : count % 16 ≡ 0 = divided 16 ((λ i. not (nat_eq (sym e i) 3) && not (nat_eq (count % descriptor_size (sym e i)) 0)) ∙ c) in omega (arith, d))))

    by : (b : Bool) → nat_eq form 3 ≡ b → IsAreaOf form count
    by true e = inr (eqb-true form 3 e)
    by false e = short_or_long e (three (λ q. let z : true ≡ false = sym (eq-eqb form 3 q) ∙ e in let no : ⊥ = cc in no))

not_strange : (form count : ℕ) → IsAreaOf form count → is_strange_form form ≡ false
not_strange form count (inl (inl h)) = ap is_strange_form h.0
not_strange form count (inl (inr h)) = ap is_strange_form h.0
not_strange form count (inr e) = ap is_strange_form e

not_cut : (form count : ℕ) → IsAreaOf form count → is_cut_form form count ≡ false
not_cut form count (inl (inl (e, (k, q)))) = ap (λ f. is_cut_form f count) e ∙ ap (λ n. not (nat_eq n 0)) d
  where
    d : count % 8 ≡ 0
    d = omega (arith, q)
not_cut form count (inl (inr (e, (k, q)))) = ap (λ f. is_cut_form f count) e ∙ ap (λ n. not (nat_eq n 0)) d
  where
    d : count % 16 ≡ 0
    d = omega (arith, q)
not_cut form count (inr e) = ap (λ f. is_cut_form f count) e

-- where the modification time is
abbrev place_by : ℕ → ℕ
place_by n = cond (nat_eq n 261) 84 92

abbrev stamp_place : List ℕ → ℕ
stamp_place bytes = place_by (uint16_at bytes 0)

-- ---- an entry by one of the tables
module _ (bytes : List ℕ) (block : IsBlock bytes) (place : ℕ) (e : EntryFields) (id p f : ℕ)
    (large : p + 12 ≤ f) (past : 64 ≤ f) (small : f ≤ 216)
    (fixed_is : uint16_at bytes 0 ≡ id → fixed_part bytes ≡ f)
    (stamp_at : uint16_at bytes 0 ≡ id → stamp_place bytes ≡ p)
    (one_of : is_valid bytes place id ≡ true → is_entry bytes place ≡ true) where
  abbrev table : EntryTable
  table = record { identifier = id; modified = row p 12; attributes_length = row (f - 8) 4; descriptors_length = row (f - 4) 4; fixed = f }

  size_is : length bytes ≡ 2048
  size_is = block.whole

  -- where the area begins, and how long it is
  start_is : fixed_part bytes ≡ f → area_start bytes ≡ f + uint32_at bytes (f - 8)
  start_is q = ap (λ k. k + uint32_at bytes (k - 8)) q

  count_is : fixed_part bytes ≡ f → descriptors_length bytes ≡ uint32_at bytes (f - 4)
  count_is q = ap (λ k. uint32_at bytes (k - 4)) q

  entry_from : is_valid bytes place id ≡ true → uint16_at bytes 20 ≡ 4 → is_strange_form (descriptor_form bytes) ≡ false → has_bad_lengths bytes ≡ false → e ≡ entry_of bytes → IsEntryBy table bytes place e
  unfolding entry_of
  entry_from v s g l q = record {
    tagged = (tag_law bytes block.bytes place id).0 v;
    icb = part bytes 16 20;
    icb_is = field_of bytes 16 20 (omega (arith, size_is));
    strategy = inner_by bytes 16 20 4 2 4 (omega (arith, size_is)) (omega arith) s;
    file_type = uint8_at bytes 27;
    type_is = inner_by bytes 16 20 11 1 (uint8_at bytes 27) (omega (arith, size_is)) (omega arith) (holds_is bytes 27 1 (uint8_at bytes 27) (byte_by bytes 27 (uint8_at bytes 27) (omega (arith, size_is)) refl));
    kind = subst (IsKind (uint8_at bytes 27)) (sym (ap (λ x. x.kind) q)) (is_kind (uint8_at bytes 27));
    flags = uint16_at bytes 34;
    flags_is = inner_by bytes 16 20 18 2 (uint16_at bytes 34) (omega (arith, size_is)) (omega arith) refl;
    form = subst (HasBits 0 3 (uint16_at bytes 34)) (sym (ap (λ x. x.form) q)) (form_of (uint16_at bytes 34));
    size = holds_by bytes 56 8 e.size (omega (arith, size_is)) (sym (ap (λ x. x.size) q));
    modified = part bytes p 12;
    modified_is = field_of bytes p 12 (omega (arith, size_is, large, small));
    stamp = ap (λ x. x.stamp) q ∙ ap (λ k. stamp_of (part bytes k 12)) (stamp_at first);
    attributes = uint32_at bytes (f - 8);
    attributes_is = holds_of bytes (f - 8) 4 (omega (arith, size_is, past, small));
    descriptors = uint32_at bytes (f - 4);
    descriptors_is = holds_of bytes (f - 4) 4 (omega (arith, size_is, past, small));
    area = field_by bytes (f + uint32_at bytes (f - 8)) (uint32_at bytes (f - 4)) e.area fits
        (ap (λ x. x.area) q ∙ (λ i. part bytes (start_is (fixed_is first) i) (count_is (fixed_is first) i)));
    whole = subst (λ k. IsAreaOf k (uint32_at bytes (f - 4))) (sym (ap (λ x. x.form) q)) (subst (IsAreaOf (descriptor_form bytes)) (count_is (fixed_is first)) (whole_if (descriptor_form bytes) (descriptors_length bytes) g lengths.1));
  }
    where
      first : uint16_at bytes 0 ≡ id
      first = holds_is bytes 0 2 id ((tag_law bytes block.bytes place id).0 v).identifier

      lengths : (is_too_long bytes ≡ false) × (is_cut_form (descriptor_form bytes) (descriptors_length bytes) ≡ false)
      lengths = neither (is_too_long bytes) (is_cut_form (descriptor_form bytes) (descriptors_length bytes)) l

      short : area_start bytes + descriptors_length bytes < 2049
      short = leb-false 2049 (area_start bytes + descriptors_length bytes) lengths.0

      fits : f + uint32_at bytes (f - 8) + uint32_at bytes (f - 4) ≤ length bytes
      fits = let a : area_start bytes ≡ f + uint32_at bytes (f - 8) = start_is (fixed_is first) in
          let b : descriptors_length bytes ≡ uint32_at bytes (f - 4) = count_is (fixed_is first) in omega (arith, a, b, short, size_is)

  entry_to : IsEntryBy table bytes place e → (entry_fault bytes place ≡ None) × (e ≡ entry_of bytes)
  unfolding entry_of entry_fault
  entry_to h = (
    λ i. first_fault ((not (one_of valid i), Tag) ∷ (not (eq-eqb (uint16_at bytes 20) 4 strategy i), Strategy)
        ∷ ((ap is_strange_form form ∙ not_strange e.form h.descriptors h.whole) i, Descriptors) ∷ (lengths i, Lengths) ∷ []),
    λ i. record { kind = sym kind i; size = sym size i; stamp = stamp i; form = sym form i; area = area i },
  )
    where
      valid : is_valid bytes place id ≡ true
      valid = (tag_law bytes block.bytes place id).1 h.tagged

      first : uint16_at bytes 0 ≡ id
      first = holds_is bytes 0 2 id h.tagged.identifier

      strategy : uint16_at bytes 20 ≡ 4
      strategy = inner_is bytes 16 20 4 2 4 h.icb h.icb_is h.strategy

      file_type : uint8_at bytes 27 ≡ h.file_type
      file_type = byte_is bytes 27 h.file_type (holds_by bytes 27 1 h.file_type (omega (arith, size_is)) (inner_is bytes 16 20 11 1 h.file_type h.icb h.icb_is h.type_is))

      kind : kind_of (uint8_at bytes 27) ≡ e.kind
      kind = ap kind_of file_type ∙ the_kind h.file_type e.kind h.kind

      form : descriptor_form bytes ≡ e.form
      form = ap (λ n. n % 8) (inner_is bytes 16 20 18 2 h.flags h.icb h.icb_is h.flags_is) ∙ form_is h.flags e.form h.form

      size : uint64_at bytes 56 ≡ e.size
      size = holds_is bytes 56 8 e.size h.size

      stamp : e.stamp ≡ stamp_of (part bytes (cond (nat_eq (uint16_at bytes 0) 261) 84 92) 12)
      stamp = h.stamp ∙ ap stamp_of (sym (field_is bytes p 12 h.modified h.modified_is)) ∙ ap (λ k. stamp_of (part bytes k 12)) (sym (stamp_at first))

      start : area_start bytes ≡ f + h.attributes
      start = start_is (fixed_is first) ∙ ap (λ n. f + n) (holds_is bytes (f - 8) 4 h.attributes h.attributes_is)

      count : descriptors_length bytes ≡ h.descriptors
      count = count_is (fixed_is first) ∙ holds_is bytes (f - 4) 4 h.descriptors h.descriptors_is

      area : e.area ≡ part bytes (area_start bytes) (descriptors_length bytes)
      area = sym (field_is bytes (f + h.attributes) h.descriptors e.area h.area) ∙ (λ i. part bytes (sym start i) (sym count i))

      fits : area_start bytes + descriptors_length bytes ≤ 2048
      fits = omega (arith, start, count, size_is, field_fits bytes (f + h.attributes) h.descriptors e.area h.area)

      lengths : has_bad_lengths bytes ≡ false
      lengths = (λ i. lt-leb 2049 (area_start bytes + descriptors_length bytes) (omega (arith, fits)) i || is_cut_form (form i) (count i)) ∙ not_cut e.form h.descriptors h.whole

-- ---- by both
either_if : (a b : Bool) → (a || b) ≡ true → (a ≡ true) ⊎ (b ≡ true)
either_if true b h = inl refl
either_if false b h = inr h

or_true : (a b : Bool) → b ≡ true → (a || b) ≡ true
or_true true b e = refl
or_true false b e = e

module _ (bytes : List ℕ) (place : ℕ) where
  fixed_261 : uint16_at bytes 0 ≡ 261 → fixed_part bytes ≡ 176
  fixed_261 q = ap (λ n. cond (nat_eq n 261) 176 216) q

  fixed_266 : uint16_at bytes 0 ≡ 266 → fixed_part bytes ≡ 216
  fixed_266 q = ap (λ n. cond (nat_eq n 261) 176 216) q

  stamp_261 : uint16_at bytes 0 ≡ 261 → stamp_place bytes ≡ 84
  stamp_261 q = ap place_by q

  stamp_266 : uint16_at bytes 0 ≡ 266 → stamp_place bytes ≡ 92
  stamp_266 q = ap place_by q

  of_261 : is_valid bytes place 261 ≡ true → is_entry bytes place ≡ true
  of_261 v = ap (λ b. b || is_valid bytes place 266) v

  of_266 : is_valid bytes place 266 ≡ true → is_entry bytes place ≡ true
  of_266 v = or_true (is_valid bytes place 261) (is_valid bytes place 266) v

tests : (bytes : List ℕ) (place : ℕ) → entry_fault bytes place ≡ None
    → ((is_valid bytes place 261 ≡ true) ⊎ (is_valid bytes place 266 ≡ true)) × (uint16_at bytes 20 ≡ 4) × (is_strange_form (descriptor_form bytes) ≡ false) × (has_bad_lengths bytes ≡ false)
unfolding entry_fault
tests bytes place n = (
  either_if (is_valid bytes place 261) (is_valid bytes place 266) (not_not (is_entry bytes place) t1.0),
  eqb-true (uint16_at bytes 20) 4 (not_not (nat_eq (uint16_at bytes 20) 4) t2.0),
  t3.0,
  (no_first (has_bad_lengths bytes) Lengths None t3.1).0,
)
  where
    t1 : (not (is_entry bytes place) ≡ false) × (first_fault ((not (nat_eq (uint16_at bytes 20) 4), Strategy) ∷ (is_strange_form (descriptor_form bytes), Descriptors) ∷ (has_bad_lengths bytes, Lengths) ∷ []) ≡ None)
    t1 = no_first (not (is_entry bytes place)) Tag _ n

    t2 : (not (nat_eq (uint16_at bytes 20) 4) ≡ false) × (first_fault ((is_strange_form (descriptor_form bytes), Descriptors) ∷ (has_bad_lengths bytes, Lengths) ∷ []) ≡ None)
    t2 = no_first (not (nat_eq (uint16_at bytes 20) 4)) Strategy _ t1.1

    t3 : (is_strange_form (descriptor_form bytes) ≡ false) × (first_fault ((has_bad_lengths bytes, Lengths) ∷ []) ≡ None)
    t3 = no_first (is_strange_form (descriptor_form bytes)) Descriptors _ t2.1

pub entry_law : EntryLaw
entry_law bytes block place e = (
  λ h. from h.1 (tests bytes place h.0).0 (tests bytes place h.0),
  λ h. to h,
)
  where
    from : e ≡ entry_of bytes → (is_valid bytes place 261 ≡ true) ⊎ (is_valid bytes place 266 ≡ true)
        → ((is_valid bytes place 261 ≡ true) ⊎ (is_valid bytes place 266 ≡ true)) × (uint16_at bytes 20 ≡ 4) × (is_strange_form (descriptor_form bytes) ≡ false) × (has_bad_lengths bytes ≡ false)
        → IsEntryAt bytes place e
    from q (inl v) t = inl (entry_from bytes block place e 261 84 176 (omega arith) (omega arith) (omega arith) (fixed_261 bytes place) (stamp_261 bytes place) (of_261 bytes place) v t.1 t.2 t.3 q)
    from q (inr v) t = inr (entry_from bytes block place e 266 92 216 (omega arith) (omega arith) (omega arith) (fixed_266 bytes place) (stamp_266 bytes place) (of_266 bytes place) v t.1 t.2 t.3 q)

    to : IsEntryAt bytes place e → (entry_fault bytes place ≡ None) × (e ≡ entry_of bytes)
    to (inl h) = entry_to bytes block place e 261 84 176 (omega arith) (omega arith) (omega arith) (fixed_261 bytes place) (stamp_261 bytes place) (of_261 bytes place) h
    to (inr h) = entry_to bytes block place e 266 92 216 (omega arith) (omega arith) (omega arith) (fixed_266 bytes place) (stamp_266 bytes place) (of_266 bytes place) h
