-- File identifier descriptors and the file set descriptor are read as their tables give them.
use Rattle.std.proofs.Common.{◌≡◌, ◌≢◌, refl, sym, ◌∙◌, ap, subst, inl, inr, ◌⊎◌, ℕ, ◌+◌, ◌-◌, ◌*◌, ◌/◌, ◌%◌, ◌≤◌, Bool, true, false, List, [], ◌∷◌, length, cond, ◌||◌, arith, Option, Some, None, nat_eq, eqb-true}
use Rattle.std.specs.Prelude.{Result, Ok, Err}
use Rattle.std.proofs.lemmas.Bool.{eq-eqb}
use Rattle.std.proofs.lemmas.List.{length-map}
use Rattle.udfs_tag.specs.Fields.{long_ad_at, part, uint8_at, uint16_at}
use Rattle.udfs_tag.specs.Tags.{is_valid}
use Rattle.udfs_osta.specs.Names.{pair_units, units_after, units_of}
use Rattle.udfs_osta.specs.declared.names.NameFault.{NameFault}
use Rattle.udfs_osta.specs.declared.names.NameFault.TheVariants.{Compression, Odd}
use Rattle.udfs_file.specs.Fronts.{entry_with, identifier_in, identifier_size, is_listed, marks_of}
use Rattle.udfs_file.specs.Identifiers.{Identifier, One}
use Rattle.udfs_file.specs.Standard.{IsIdentifierIn, Located, MayName}
use Rattle.udfs_file.specs.declared.directories.DirEntry.{DirEntry}
use Rattle.udfs_lawfulness.specs.Files.{bytes_in}
use Rattle.udfs_lawfulness.specs.Identifiers.{AreCharacters, ArePairs, IsIdentifierAt, Lists}
use Rattle.udfs_lawfulness.specs.EcmaLaws.{AreBytes, FileSetLaw, IdentifierLaw, NameLaw}
use Rattle.udfs_lawfulness.specs.LawfulTables.{HasBits}
use Rattle.udfs_lawfulness.proofs.EntryTables.{unequal}
use Rattle.udfs_lawfulness.proofs.ExtentTables.{long_from_row, long_in_row}
use Rattle.udfs_lawfulness.proofs.Reading.{byte_by, byte_is, field_is, field_of, holds_is, holds_of}
use Rattle.udfs_lawfulness.proofs.TagTables.{tag_law}

-- ---- names
pairs_are : (bytes units : List ℕ) → ArePairs bytes units → (length bytes % 2 ≡ 0) × (pair_units bytes ≡ units)
pairs_are [] [] h = (refl, refl)
pairs_are [] (u ∷ units) h = absurd h
pairs_are (b ∷ []) units h = absurd h
pairs_are (high ∷ low ∷ bytes) [] h = absurd h
pairs_are (high ∷ low ∷ bytes) (u ∷ units) h = let more : (length bytes % 2 ≡ 0) × (pair_units bytes ≡ units) = pairs_are bytes units h.1 in
    let head : high * 256 + low ≡ u = let e : u ≡ 256 * high + low = h.0 in omega (arith, e) in
    (let m : length bytes % 2 ≡ 0 = more.0 in omega (arith, m), λ i. head i ∷ more.1 i)

pairs_of : (bytes : List ℕ) → length bytes % 2 ≡ 0 → ArePairs bytes (pair_units bytes)
pairs_of [] h = tt
pairs_of (b ∷ []) h = absurd (let z : ⊥ = omega (arith, h) in z)
pairs_of (high ∷ low ∷ bytes) h = (omega arith, pairs_of bytes (omega (arith, h)))

some_pairs : (b : ℕ) (bytes : List ℕ) → length (b ∷ bytes) % 2 ≡ 0 → pair_units (b ∷ bytes) ≢ []
some_pairs b [] h e = let z : ⊥ = omega (arith, h) in z
some_pairs b (c ∷ bytes) h e = let z : ⊥ = cc in z

-- what the bytes after the first say
abbrev after_kind : Bool → ℕ → List ℕ → Result (List ℕ) NameFault
after_kind t b bytes = cond t (Ok (b ∷ bytes)) (cond (nat_eq (length (b ∷ bytes) % 2) 1) (Err Odd) (Ok (pair_units (b ∷ bytes))))

name_to : (name units : List ℕ) → units_of name ≡ Ok units → AreCharacters name units
name_to [] units e = absurd (let z : ⊥ = cc in z)
name_to (kind ∷ []) units e = by (nat_eq kind 8 || nat_eq kind 16) e
  where
    by : (b : Bool) → cond b (units_after kind []) (Err Compression) ≡ Ok units → AreCharacters (kind ∷ []) units
    by true e = absurd (let z : ⊥ = cc in z)
    by false e = absurd (let z : ⊥ = cc in z)
name_to (kind ∷ b ∷ bytes) units e = by_8 (nat_eq kind 8) refl e
  where
    not_empty : (x : ℕ) (xs ys : List ℕ) → x ∷ xs ≡ ys → ys ≢ []
    not_empty x xs ys e q = let z : ⊥ = cc in z

    by_odd : nat_eq kind 16 ≡ true → (o : Bool) → nat_eq (length (b ∷ bytes) % 2) 1 ≡ o → cond o (Err Odd) (Ok (pair_units (b ∷ bytes))) ≡ Ok units → AreCharacters (kind ∷ b ∷ bytes) units
    by_odd q true o e = absurd (let z : ⊥ = cc in z)
    by_odd q false o e = let s : pair_units (b ∷ bytes) ≡ units = cc in let even : length (b ∷ bytes) % 2 ≡ 0 = is_even (length (b ∷ bytes)) o in
        record { compression = kind; rest = b ∷ bytes; is = refl; coded = inr (eqb-true kind 16 q, subst (ArePairs (b ∷ bytes)) s (pairs_of (b ∷ bytes) even)); some = subst (λ x. x ≢ []) s (some_pairs b bytes even) }
      where
        is_even : (n : ℕ) → nat_eq (n % 2) 1 ≡ false → n % 2 ≡ 0
        is_even n o = let ne : n % 2 ≢ 1 = λ q. let z : true ≡ false = sym (eq-eqb (n % 2) 1 q) ∙ o in let no : ⊥ = cc in no in omega (arith, ne)

    by_16 : nat_eq kind 8 ≡ false → (c : Bool) → nat_eq kind 16 ≡ c → cond c (after_kind (nat_eq kind 8) b bytes) (Err Compression) ≡ Ok units
        → AreCharacters (kind ∷ b ∷ bytes) units
    by_16 p true q e = by_odd q (nat_eq (length (b ∷ bytes) % 2) 1) refl (ap (λ t. after_kind t b bytes) (sym p) ∙ e)
    by_16 p false q e = absurd (let z : ⊥ = cc in z)

    by_8 : (a : Bool) → nat_eq kind 8 ≡ a → cond (a || nat_eq kind 16) (after_kind (nat_eq kind 8) b bytes) (Err Compression) ≡ Ok units
        → AreCharacters (kind ∷ b ∷ bytes) units
    by_8 true p e = let s : after_kind true b bytes ≡ Ok units = ap (λ t. after_kind t b bytes) (sym p) ∙ e in
        let q : b ∷ bytes ≡ units = cc in
        record { compression = kind; rest = b ∷ bytes; is = refl; coded = inl (eqb-true kind 8 p, sym q); some = not_empty b bytes units q }
    by_8 false p e = by_16 p (nat_eq kind 16) refl e

name_from : (name units : List ℕ) → AreCharacters name units → units_of name ≡ Ok units
name_from name units h = ap units_of h.is ∙ by h.coded h.rest refl
  where
    after_8 : (rest : List ℕ) → units ≡ rest → units_of (8 ∷ rest) ≡ Ok units
    after_8 [] e = absurd (h.some e)
    after_8 (b ∷ bytes) e = ap Ok (sym e)

    after_16 : (rest : List ℕ) → ArePairs rest units → units_of (16 ∷ rest) ≡ Ok units
    after_16 [] p = absurd (h.some (sym (pairs_are [] units p).1))
    after_16 (b ∷ bytes) p = let q : (length (b ∷ bytes) % 2 ≡ 0) × (pair_units (b ∷ bytes) ≡ units) = pairs_are (b ∷ bytes) units p in
        (λ i. cond (nat_eq (q.0 i) 1) (Err Odd) (Ok (pair_units (b ∷ bytes)))) ∙ ap Ok q.1

    by : ((h.compression ≡ 8) × (units ≡ h.rest)) ⊎ ((h.compression ≡ 16) × ArePairs h.rest units) → (rest : List ℕ) → h.rest ≡ rest → units_of (h.compression ∷ h.rest) ≡ Ok units
    by (inl (c, e)) rest r = ap (λ k. units_of (k ∷ h.rest)) c ∙ after_8 h.rest e
    by (inr (c, p)) rest r = ap (λ k. units_of (k ∷ h.rest)) c ∙ after_16 h.rest p

pub name_law : NameLaw
name_law name units = (λ e. name_to name units e, λ h. name_from name units h)

-- ---- the characteristics
-- bits 2 and 3 are 0, or one of them is 1
no_bits : (n : ℕ) → HasBits 2 1 n 0 → HasBits 3 1 n 0 → n / 4 % 4 ≡ 0
no_bits n p q = omega (arith, p.is, p.rest, q.is, q.rest)

deleted : (n : ℕ) → HasBits 2 1 n 1 → n / 4 % 4 ≢ 0
deleted n p e = let z : ⊥ = omega (arith, p.is, p.rest, e) in z

parent : (n : ℕ) → HasBits 3 1 n 1 → n / 4 % 4 ≢ 0
parent n p e = let z : ⊥ = omega (arith, p.is, p.rest, e) in z

bit_2 : (n : ℕ) → n / 4 % 4 ≡ 0 → HasBits 2 1 n 0
bit_2 n e = record { above = n / 8; below = n % 4; is = omega (arith, e); few = omega arith; rest = omega arith }

bit_3 : (n : ℕ) → n / 4 % 4 ≡ 0 → HasBits 3 1 n 0
bit_3 n e = record { above = n / 16; below = n % 8; is = omega (arith, e); few = omega arith; rest = omega arith }

some_bit : (n : ℕ) → n / 4 % 4 ≢ 0 → HasBits 2 1 n 1 ⊎ HasBits 3 1 n 1
some_bit n e = by (nat_eq (n / 4 % 2) 1) refl
  where
    by : (b : Bool) → nat_eq (n / 4 % 2) 1 ≡ b → HasBits 2 1 n 1 ⊎ HasBits 3 1 n 1
    by true q = let odd : n / 4 % 2 ≡ 1 = eqb-true (n / 4 % 2) 1 q in inl (record { above = n / 8; below = n % 4; is = omega (arith, odd); few = omega arith; rest = omega arith })
    by false q = let ne : n / 4 % 2 ≢ 1 = λ s. let z : true ≡ false = sym (eq-eqb (n / 4 % 2) 1 s) ∙ q in let no : ⊥ = cc in no in
        inr (record { above = n / 16; below = n % 8; is = omega (arith, e, ne); few = omega arith; rest = omega arith })

low_five : (n bits : ℕ) → HasBits 0 5 n bits → n % 32 ≡ bits
low_five n bits h = omega (arith, h.is, h.few, h.rest)

five_low : (n : ℕ) → HasBits 0 5 n (n % 32)
five_low n = record { above = n / 32; below = 0; is = omega arith; few = omega arith; rest = omega arith }

-- ---- a descriptor
module _ (bytes : List ℕ) (b : AreBytes bytes) (place : ℕ) (id : Identifier) where
  abbrev name_part : List ℕ
  name_part = part bytes (38 + uint16_at bytes 36) (uint8_at bytes 19)

  -- the entry by its name
  with_name : (o : Result (List ℕ) NameFault) → units_of name_part ≡ o → 38 ≤ length bytes → is_listed bytes ≡ true → entry_with (length bytes) bytes o ≡ One id → (id.size ≡ length bytes) × Lists (uint8_at bytes 18) (part bytes 20 16) name_part id.listed
  with_name (Err f) n l q e = absurd (let z : ⊥ = cc in z)
  with_name (Ok units) n l q e = let is : record { size = length bytes; listed = Some (record { name = units; icb = long_ad_at bytes 20; marks = marks_of (uint8_at bytes 18) }) } ≡ id = one_is _ id e in
      subst (λ x. (x.size ≡ length bytes) × Lists (uint8_at bytes 18) (part bytes 20 16) name_part x.listed) is (
        refl,
        record {
          not_deleted = bit_2 (uint8_at bytes 18) zeros;
          not_parent = bit_3 (uint8_at bytes 18) zeros;
          icb_is = long_in_row bytes 20 (long_ad_at bytes 20) b (omega (arith, l)) refl;
          name_is = name_to name_part units n;
          marks_are = five_low (uint8_at bytes 18);
        },
      )
    where
      one_is : (x y : Identifier) → One x ≡ One y → x ≡ y
      one_is x y e = cc

      zeros : uint8_at bytes 18 / 4 % 4 ≡ 0
      zeros = eqb-true (uint8_at bytes 18 / 4 % 4) 0 q

  listed_from : 38 ≤ length bytes → identifier_in (length bytes) bytes ≡ One id → (id.size ≡ length bytes) × Lists (uint8_at bytes 18) (part bytes 20 16) name_part id.listed
  listed_from l e = by (is_listed bytes) refl e
    where
      one_is : (x y : Identifier) → One x ≡ One y → x ≡ y
      one_is x y e = cc

      by : (t : Bool) → is_listed bytes ≡ t → cond t (entry_with (length bytes) bytes (units_of name_part)) (One (record { size = length bytes; listed = None })) ≡ One id
          → (id.size ≡ length bytes) × Lists (uint8_at bytes 18) (part bytes 20 16) name_part id.listed
      by true q e = with_name (units_of name_part) refl l q e
      by false q e = subst (λ x. (x.size ≡ length bytes) × Lists (uint8_at bytes 18) (part bytes 20 16) name_part x.listed) (one_is (record { size = length bytes; listed = None }) id e)
          (refl, some_bit (uint8_at bytes 18) (λ s. let z : true ≡ false = sym (eq-eqb (uint8_at bytes 18 / 4 % 4) 0 s) ∙ q in let no : ⊥ = cc in no))

  listed_to : id.size ≡ length bytes → (o : Option DirEntry) → id.listed ≡ o → Lists (uint8_at bytes 18) (part bytes 20 16) name_part o → 38 ≤ length bytes → identifier_in (length bytes) bytes ≡ One id
  listed_to s None o h l = ap (λ t. cond t (entry_with (length bytes) bytes (units_of name_part)) (One (record { size = length bytes; listed = None }))) (hidden h)
      ∙ (λ i. One (record { size = sym s i; listed = sym o i }))
    where
      hidden : HasBits 2 1 (uint8_at bytes 18) 1 ⊎ HasBits 3 1 (uint8_at bytes 18) 1 → is_listed bytes ≡ false
      hidden (inl p) = unequal (uint8_at bytes 18 / 4 % 4) 0 (deleted (uint8_at bytes 18) p)
      hidden (inr p) = unequal (uint8_at bytes 18 / 4 % 4) 0 (parent (uint8_at bytes 18) p)
  listed_to s (Some e) o h l = ap (λ t. cond t (entry_with (length bytes) bytes (units_of name_part)) (One (record { size = length bytes; listed = None }))) shown
      ∙ ap (entry_with (length bytes) bytes) (name_from name_part e.name h.name_is)
      ∙ (λ i. One (record { size = sym s i; listed = (ap Some entry ∙ sym o) i }))
    where
      shown : is_listed bytes ≡ true
      shown = eq-eqb (uint8_at bytes 18 / 4 % 4) 0 (no_bits (uint8_at bytes 18) h.not_deleted h.not_parent)

      icb : long_ad_at bytes 20 ≡ e.icb
      icb = long_from_row bytes 20 (part bytes 20 16) e.icb b (field_of bytes 20 16 (omega (arith, l))) h.icb_is

      marks : uint8_at bytes 18 % 32 ≡ e.marks.0
      marks = low_five (uint8_at bytes 18) e.marks.0 h.marks_are

      entry : record { name = e.name; icb = long_ad_at bytes 20; marks = marks_of (uint8_at bytes 18) } ≡ e
      entry = λ i. record { name = e.name; icb = icb i; marks = record { 0 = marks i } }

-- a descriptor with these bytes, both ways
module _ (bytes : List ℕ) (b : AreBytes bytes) (place : ℕ) (id : Identifier) where
  identifier_by : 38 ≤ length bytes → length bytes ≡ identifier_size bytes → is_valid bytes place 257 ≡ true → identifier_in (length bytes) bytes ≡ One id → IsIdentifierAt bytes place id
  identifier_by l s v q = record {
    tagged = (tag_law bytes b place 257).0 v;
    marks = uint8_at bytes 18;
    marks_are = byte_by bytes 18 (uint8_at bytes 18) (omega (arith, l)) refl;
    icb = part bytes 20 16;
    icb_is = field_of bytes 20 16 (omega (arith, l));
    name_size = uint8_at bytes 19;
    name_size_is = byte_by bytes 19 (uint8_at bytes 19) (omega (arith, l)) refl;
    use_size = uint16_at bytes 36;
    use_size_is = holds_of bytes 36 2 (omega (arith, l));
    name = name_part bytes b place id;
    name_is = field_of bytes (38 + uint16_at bytes 36) (uint8_at bytes 19) (omega (arith, s));
    padding = length bytes - (38 + uint16_at bytes 36 + uint8_at bytes 19);
    little = omega (arith, s);
    size = omega (arith, s);
    words = (uint8_at bytes 19 + uint16_at bytes 36 + 41) / 4;
    fours = s;
    size_is = (listed_from bytes b place id l q).0;
    listed = (listed_from bytes b place id l q).1;
  }

  by_identifier : IsIdentifierAt bytes place id → (38 ≤ length bytes) × (length bytes ≡ identifier_size bytes) × (is_valid bytes place 257 ≡ true) × (identifier_in (length bytes) bytes ≡ One id)
  by_identifier h = (long, size, (tag_law bytes b place 257).1 h.tagged, listed_to bytes b place id h.size_is id.listed refl lists long)
    where
      long : 38 ≤ length bytes
      long = omega (arith, h.size)

      marks : uint8_at bytes 18 ≡ h.marks
      marks = byte_is bytes 18 h.marks h.marks_are

      name_size : uint8_at bytes 19 ≡ h.name_size
      name_size = byte_is bytes 19 h.name_size h.name_size_is

      use_size : uint16_at bytes 36 ≡ h.use_size
      use_size = holds_is bytes 36 2 h.use_size h.use_size_is

      icb : part bytes 20 16 ≡ h.icb
      icb = field_is bytes 20 16 h.icb h.icb_is

      name : name_part bytes b place id ≡ h.name
      name = (λ i. part bytes (38 + use_size i) (name_size i)) ∙ field_is bytes (38 + h.use_size) h.name_size h.name h.name_is

      size : length bytes ≡ identifier_size bytes
      size = omega (arith, h.size, h.little, h.fours, name_size, use_size)

      lists : Lists (uint8_at bytes 18) (part bytes 20 16) (name_part bytes b place id) id.listed
      lists = subst (λ x. x) (λ i. Lists (sym marks i) (sym icb i) (sym name i) id.listed) h.listed

pub identifier_law : IdentifierLaw
identifier_law profile piece b id = (from, to)
  where
    long : length (bytes_in piece) ≡ length piece
    long = length-map piece (λ (x : Located). x.0)

    from : IsIdentifierIn profile piece id → (place : ℕ) × MayName profile piece place × IsIdentifierAt (bytes_in piece) place id
    from h = (
      h.block,
      h.place,
      identifier_by (bytes_in piece) b h.block id
          (let l : 38 ≤ length piece = h.long_enough in omega (arith, l, long))
          (long ∙ h.size ∙ ap identifier_size h.bytes_are)
          (ap (λ x. is_valid x h.block 257) (sym h.bytes_are) ∙ h.valid)
          ((λ i. identifier_in (long i) (sym h.bytes_are i)) ∙ h.is),
    )

    to : (place : ℕ) × MayName profile piece place × IsIdentifierAt (bytes_in piece) place id → IsIdentifierIn profile piece id
    to (place, may, h) = let r : (38 ≤ length (bytes_in piece)) × (length (bytes_in piece) ≡ identifier_size (bytes_in piece)) × (is_valid (bytes_in piece) place 257 ≡ true) × (identifier_in (length (bytes_in piece)) (bytes_in piece) ≡ One id) =
        by_identifier (bytes_in piece) b place id h in
        record {
          bytes = bytes_in piece;
          bytes_are = refl;
          block = place;
          place = may;
          long_enough = let l : 38 ≤ length (bytes_in piece) = r.0 in omega (arith, l, long);
          size = sym long ∙ r.1;
          valid = r.2;
          is = ap (λ n. identifier_in n (bytes_in piece)) (sym long) ∙ r.3;
        }

-- ---- the file set
pub file_set_law : FileSetLaw
file_set_law bytes block place root = (
  λ h. record {
    tagged = (tag_law bytes block.bytes place 256).0 h.0;
    icb = part bytes 400 16;
    icb_is = field_of bytes 400 16 (omega (arith, long));
    root_is = long_in_row bytes 400 root block.bytes (omega (arith, long)) (sym h.1);
  },
  λ h. ((tag_law bytes block.bytes place 256).1 h.tagged, sym (long_from_row bytes 400 h.icb root block.bytes h.icb_is h.root_is)),
)
  where
    long : length bytes ≡ 2048
    long = block.whole
