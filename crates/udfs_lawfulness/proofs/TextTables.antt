-- Timestamps and dstrings are read as their tables give them.
use Rattle.std.proofs.Common.{◌≡◌, ◌≢◌, refl, sym, ◌∙◌, ap, subst, inl, inr, ℕ, ◌+◌, ◌*◌, ◌/◌, ◌%◌, ◌^◌, ◌<◌, ◌≤◌, Bool, true, false, List, [], ◌∷◌, length, take, drop, get_or, cond, arith, nat_eq, nat_lt, eqb-true}
use Rattle.std.specs.Int.{from_le_bytes, w16}
use Rattle.std.specs.Prelude.{Result, Ok, Err, slice_index}
use Rattle.std.proofs.lemmas.Bool.{eq-eqb, le-ltb, lt-ltb, ltb-false, ltb-true}
use Rattle.std.proofs.lemmas.List.{get_or-drop}
use Rattle.byteorder.specs.Endian.{little_number}
use Rattle.udfs_osta.specs.Labels.{label_of, label_of_name}
use Rattle.udfs_osta.specs.Names.{units_of}
use Rattle.udfs_osta.specs.Stamps.{first_word}
use Rattle.udfs_osta.specs.declared.labels.Label.{Label}
use Rattle.udfs_osta.specs.declared.labels.Label.TheVariants.{Empty, Name, Invalid}
use Rattle.udfs_osta.specs.declared.names.NameFault.{NameFault}
use Rattle.udfs_lawfulness.specs.EcmaLaws.{AreBytes, IsReadStamp, LabelLaw, StampLaw}
use Rattle.udfs_lawfulness.specs.LawfulTables.{HasBits, Holds, IsField, row}
use Rattle.udfs_lawfulness.specs.Texts.{HasStampFields, IsDstring, StampFields}
use Rattle.udfs_lawfulness.proofs.EntryTables.{unequal}
use Rattle.udfs_lawfulness.proofs.IdentifierTables.{name_law}
use Rattle.udfs_lawfulness.proofs.Reading.{byte_by, byte_is, field_is, field_of, holds_by, holds_is, number_below}

-- ---- timestamps
two_bytes : (a b : ℕ) → from_le_bytes w16 (a ∷ b ∷ []) ≡ a + 256 * b
two_bytes a b = omega arith

-- two bytes at a position are a number there
word_is : (bytes : List ℕ) (p q : ℕ) → p + 1 ≡ q → from_le_bytes w16 (slice_index bytes p ∷ slice_index bytes q ∷ []) ≡ little_number 2 (drop p bytes)
word_is bytes p q e = two_bytes (slice_index bytes p) (slice_index bytes q) ∙ omega (arith, low, high)
  where
    low : get_or (drop p bytes) 0 0 ≡ get_or bytes p 0
    low = get_or-drop p bytes 0 0 ∙ ap (λ k. get_or bytes k 0) {x = p + 0} {y = p} (omega arith)

    high : get_or (drop p bytes) 1 0 ≡ get_or bytes q 0
    high = get_or-drop p bytes 1 0 ∙ ap (λ k. get_or bytes k 0) e

kind_bits : (n bits : ℕ) → n < 2 ^ 16 → HasBits 12 4 n bits → n / 4096 ≡ bits
kind_bits n bits l h = omega (arith, h.is, h.few, h.rest)

bits_kind : (n : ℕ) → n < 2 ^ 16 → HasBits 12 4 n (n / 4096)
bits_kind n l = record { above = 0; below = n % 4096; is = omega arith; few = omega (arith, l); rest = omega arith }

zone_bits : (n bits : ℕ) → HasBits 0 12 n bits → n % 4096 ≡ bits
zone_bits n bits h = omega (arith, h.is, h.few, h.rest)

bits_zone : (n : ℕ) → HasBits 0 12 n (n % 4096)
bits_zone n = record { above = n / 4096; below = 0; is = omega arith; few = omega arith; rest = omega arith }

module _ (bytes : List ℕ) (b : AreBytes bytes) (long : length bytes ≡ 12) (f : StampFields) where
  word : first_word bytes ≡ little_number 2 (drop 0 bytes)
  word = word_is bytes 0 1 refl

  small : first_word bytes < 2 ^ 16
  small = let l : little_number 2 (drop 0 bytes) < 256 ^ 2 = number_below bytes b 0 2 in omega (arith, word, l)

  stamp_from : IsReadStamp bytes f → HasStampFields bytes f
  stamp_from h = record {
    first = first_word bytes;
    first_is = holds_by bytes 0 2 (first_word bytes) (omega (arith, long)) (sym word);
    kind_is = subst (HasBits 12 4 (first_word bytes)) h.kind (bits_kind (first_word bytes) small);
    zone_is = subst (HasBits 0 12 (first_word bytes)) h.zone (bits_zone (first_word bytes));
    year_is = holds_by bytes 2 2 f.year (omega (arith, long)) (sym (word_is bytes 2 3 refl) ∙ h.year);
    month_is = byte_by bytes 4 f.month (omega (arith, long)) h.month;
    day_is = byte_by bytes 5 f.day (omega (arith, long)) h.day;
    hour_is = byte_by bytes 6 f.hour (omega (arith, long)) h.hour;
    minute_is = byte_by bytes 7 f.minute (omega (arith, long)) h.minute;
    second_is = byte_by bytes 8 f.second (omega (arith, long)) h.second;
    centiseconds_are = byte_by bytes 9 f.centiseconds (omega (arith, long)) h.centiseconds;
    hundreds_are = byte_by bytes 10 f.hundreds (omega (arith, long)) h.hundreds;
    microseconds_are = byte_by bytes 11 f.microseconds (omega (arith, long)) h.microseconds;
  }

  stamp_to : HasStampFields bytes f → IsReadStamp bytes f
  stamp_to h = let w : first_word bytes ≡ h.first = word ∙ holds_is bytes 0 2 h.first h.first_is in record {
    kind = ap (λ n. n / 4096) w ∙ kind_bits h.first f.kind (subst (λ n. n < 2 ^ 16) w small) h.kind_is;
    zone = ap (λ n. n % 4096) w ∙ zone_bits h.first f.zone h.zone_is;
    year = word_is bytes 2 3 refl ∙ holds_is bytes 2 2 f.year h.year_is;
    month = byte_is bytes 4 f.month h.month_is;
    day = byte_is bytes 5 f.day h.day_is;
    hour = byte_is bytes 6 f.hour h.hour_is;
    minute = byte_is bytes 7 f.minute h.minute_is;
    second = byte_is bytes 8 f.second h.second_is;
    centiseconds = byte_is bytes 9 f.centiseconds h.centiseconds_are;
    hundreds = byte_is bytes 10 f.hundreds h.hundreds_are;
    microseconds = byte_is bytes 11 f.microseconds h.microseconds_are;
  }

pub stamp_law : StampLaw
stamp_law bytes b long f = (λ h. stamp_from bytes b long f h, λ h. stamp_to bytes b long f h)

-- ---- dstrings
module _ (bytes : List ℕ) (long : length bytes ≡ 128) where
  abbrev used : ℕ
  used = slice_index bytes 127

  held : Holds bytes (row 127 1) used
  held = byte_by bytes 127 used (omega (arith, long)) refl

  abbrev by_length : Bool → Bool → List ℕ → Label
  by_length none many text = cond none Empty (cond many Invalid (label_of_name (units_of text)))

  text_is : used ≤ 127 → IsField bytes (row 0 used) (take used bytes)
  text_is l = field_of bytes 0 used (omega (arith, long, l))

  by_name : used ≢ 0 → used ≤ 127 → (o : Result (List ℕ) NameFault) → units_of (take used bytes) ≡ o → IsDstring bytes (label_of_name o)
  by_name n l (Ok units) e = (used, held, n, (l, (take used bytes, text_is l, (name_law (take used bytes) units).0 e)))
  by_name n l (Err fault) e = (
    used,
    held,
    n,
    inr (
      l,
      (
        take used bytes,
        text_is l,
        λ units c. let z : Err fault ≡ Ok units = sym e ∙ (name_law (take used bytes) units).1 c in let no : ⊥ = cc in no,
      ),
    ),
  )

  label_is : IsDstring bytes (label_of bytes)
  label_is = by_none (nat_eq used 0) refl
    where
      by_many : used ≢ 0 → (t : Bool) → nat_lt 127 used ≡ t → IsDstring bytes (cond t Invalid (label_of_name (units_of (take used bytes))))
      by_many n true m = (used, held, n, inl (ltb-true 127 used m))
      by_many n false m = by_name n (ltb-false 127 used m) (units_of (take used bytes)) refl

      by_none : (t : Bool) → nat_eq used 0 ≡ t → IsDstring bytes (cond t Empty (cond (nat_lt 127 used) Invalid (label_of_name (units_of (take used bytes)))))
      by_none true e = subst (Holds bytes (row 127 1)) (eqb-true used 0 e) held
      by_none false e = by_many (λ q. let z : true ≡ false = sym (eq-eqb used 0 q) ∙ e in let no : ⊥ = cc in no) (nat_lt 127 used) refl

  -- the text of a field is what is taken
  the_text : (count : ℕ) (text : List ℕ) → used ≡ count → IsField bytes (row 0 count) text → take used bytes ≡ text
  the_text count text e f = ap (λ n. take n bytes) e ∙ field_is bytes 0 count text f

  by_some : (count : ℕ) → used ≡ count → count ≢ 0 → count ≤ 127 → label_of bytes ≡ label_of_name (units_of (take used bytes))
  by_some count e n l = λ i. by_length (none i) (few i) (take used bytes)
    where
      none : nat_eq used 0 ≡ false
      none = unequal used 0 (λ q. n (sym e ∙ q))

      few : nat_lt 127 used ≡ false
      few = le-ltb 127 used (omega (arith, e, l))

  label_by : (label : Label) → IsDstring bytes label → label_of bytes ≡ label
  label_by Empty h = ap (λ t. by_length t (nat_lt 127 used) (take used bytes)) (eq-eqb used 0 (byte_is bytes 127 0 h))
  label_by (Name units) (count, h, n, (l, (text, f, c))) = let e : used ≡ count = byte_is bytes 127 count h in
      by_some count e n l ∙ ap (λ x. label_of_name (units_of x)) (the_text count text e f) ∙ ap label_of_name ((name_law text units).1 c)
  label_by Invalid (count, h, n, inl m) = let e : used ≡ count = byte_is bytes 127 count h in
      λ i. by_length (unequal used 0 (λ q. n (sym e ∙ q)) i) (lt-ltb 127 used (omega (arith, e, m)) i) (take used bytes)
  label_by Invalid (count, h, n, inr (l, (text, f, c))) = let e : used ≡ count = byte_is bytes 127 count h in
      by_some count e n l ∙ ap (λ x. label_of_name (units_of x)) (the_text count text e f) ∙ no_name (units_of text) refl
    where
      no_name : (o : Result (List ℕ) NameFault) → units_of text ≡ o → label_of_name o ≡ Invalid
      no_name (Ok units) q = absurd (c units ((name_law text units).0 q))
      no_name (Err fault) q = refl

pub label_law : LabelLaw
label_law bytes long label = (λ e. subst (IsDstring bytes) e (label_is bytes long), λ h. label_by bytes long label h)
