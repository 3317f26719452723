-- How far a directory is read of which cells are missing.
use Rattle.std.proofs.Common.{◌≡◌, ◌≢◌, refl, sym, ◌∙◌, ap, subst, inl, inr, ◌⊎◌, ℕ, ◌+◌, ◌-◌, ◌*◌, ◌/◌, ◌<◌, ◌≤◌, Bool, true, false, List, [], ◌∷◌, ◌++◌, length, take, drop, map, cond, ◌||◌, arith, Option, Some, None, nat_lt, slice_get}
use Rattle.std.specs.Prelude.{zero, suc, Result, Ok, Err}
use Rattle.std.specs.List.{AllZip}
use Rattle.std.proofs.lemmas.List.{length-take-le, length-map}
use Rattle.udfs_tag.specs.Fields.{uint8_at, uint16_at, part}
use Rattle.udfs_tag.specs.Tags.{is_valid}
use Rattle.udfs_osta.specs.Names.{units_of}
use Rattle.udfs_osta.specs.declared.names.NameFault.{NameFault}
use Rattle.udfs_volume.specs.Sequence.{Bytes}
use Rattle.udfs_volume.specs.declared.profiles.Profile.{Profile}
use Rattle.udfs_file.specs.declared.cells.Cell.{Cell}
use Rattle.udfs_file.specs.declared.cells.Cell.TheVariants.{Byte, Gap}
use Rattle.udfs_file.specs.Fronts.{first_missing, value, holder_of, identifier_size, or_stop, is_listed, entry_with, identifier_in, checked_identifier, checked_by, place_asked, sized_by, step_by, DirectoryText, read_on, read_from, directory_by}
use Rattle.udfs_file.specs.Identifiers.{Identifier}
use Rattle.udfs_file.specs.Identifiers.{Rest}
use Rattle.udfs_file.specs.Identifiers.{Nothing, Stopped, Wrong}
use Rattle.udfs_file.specs.Identifiers.{Step}
use Rattle.udfs_file.specs.Identifiers.{AtRest, One}
use Rattle.udfs_file.specs.Laws.{IsCellOf, IsMissingAt, descriptor_end, IsClearTo, IsPartialDirectory}
use Rattle.udfs_file.specs.declared.faults.NodeFault.{NodeFault}
use Rattle.udfs_file.specs.declared.faults.NodeFault.TheVariants.{Cut, IdentifierTag}
use Rattle.udfs_file.proofs.BodyFrom.{le_or_lt}
use Rattle.udfs_file.proofs.PartFronts.{AllZip-length, AllZip-take, AllZip-drop, none_missing, StepIs, step_same, step_stop, step_is, part_front}

clear_take : (n : ℕ) (xs : List Cell) → first_missing (take n xs) ≡ None → IsClearTo xs n
clear_take zero xs e k h q = absurd (let x : ⊥ = omega arith in x)
clear_take (suc n) [] e k h (m, q) = absurd (let x : ⊥ = cc in x)
clear_take (suc n) (Byte x o ∷ xs) e zero h (m, q) = absurd (let x : ⊥ = cc in x)
clear_take (suc n) (Byte x o ∷ xs) e (suc k) h q = clear_take n xs e k (omega arith) q
clear_take (suc n) (Gap m ∷ xs) e k h q = absurd (let x : ⊥ = cc in x)

found_missing : (n : ℕ) (xs : List Cell) (m : ℕ) → first_missing (take n xs) ≡ Some m → (k : ℕ) × (k < n) × IsMissingAt xs k
found_missing zero xs m e = absurd (let x : ⊥ = cc in x)
found_missing (suc n) [] m e = absurd (let x : ⊥ = cc in x)
found_missing (suc n) (Byte x o ∷ xs) m e = let r : (k : ℕ) × (k < n) × IsMissingAt xs k = found_missing n xs m e in (suc r.0, (let h : r.0 < n = r.1 in omega arith), r.2)
found_missing (suc n) (Gap b ∷ xs) m e = (zero, omega arith, (b, refl))

pub slice_get-drop : (s : ℕ) (xs : List Cell) (k : ℕ) → slice_get (drop s xs) k ≡ slice_get xs (s + k)
slice_get-drop zero xs k = ap (slice_get xs) (let e : k ≡ 0 + k = omega arith in e)
slice_get-drop (suc s) [] k = refl
slice_get-drop (suc s) (x ∷ xs) k = slice_get-drop s xs k ∙ ap (slice_get (x ∷ xs)) (let e : suc (s + k) ≡ suc s + k = omega arith in e)

clear_drop : (s e : ℕ) (xs : List Cell) → IsClearTo xs (s + e) → IsClearTo (drop s xs) e
clear_drop s e xs h k l (m, q) = h (s + k) (omega arith) (m, sym (slice_get-drop s xs k) ∙ q)

clear_from : (s e : ℕ) (xs : List Cell) → IsClearTo xs s → IsClearTo (drop s xs) e → IsClearTo xs (s + e)
clear_from s e xs h t k l (m, q) = go (le_or_lt s k)
  where
    go : (s ≤ k) ⊎ (k < s) → ⊥
    go (inl x) = t (k - s) (omega arith) (m, slice_get-drop s xs (k - s) ∙ ap (slice_get xs) (let e : s + (k - s) ≡ k = omega arith in e) ∙ q)
    go (inr x) = h k x (m, q)

-- how a descriptor is read
pub inv_cond : (b : Bool) (r : Rest) (t : Step) (id : Identifier) → cond b (AtRest r) t ≡ One id → (b ≡ false) × (t ≡ One id)
inv_cond true r t id e = absurd (let x : ⊥ = cc in x)
inv_cond false r t id e = (refl, e)

pub inv_stop : (o : Option ℕ) (t : Step) (id : Identifier) → or_stop o t ≡ One id → (o ≡ None) × (t ≡ One id)
inv_stop None t id e = (refl, e)
inv_stop (Some n) t id e = absurd (let x : ⊥ = cc in x)

pub neither : (a b : Bool) → (a || b) ≡ false → (a ≡ false) × (b ≡ false)
neither true b e = absurd (let x : ⊥ = cc in x)
neither false b e = (refl, e)

abbrev size_of : Step → ℕ
size_of (AtRest r) = 0
size_of (One id) = id.size

entry_size : (n : ℕ) (bytes : Bytes) (r : Result (List ℕ) NameFault) (id : Identifier) → entry_with n bytes r ≡ One id → n ≡ id.size
entry_size n bytes (Ok units) id e = ap size_of e
entry_size n bytes (Err f) id e = absurd (let x : ⊥ = cc in x)

in_size : (bytes : Bytes) (id : Identifier) (b : Bool) → cond b (entry_with (length bytes) bytes (units_of (part bytes (38 + uint16_at bytes 36) (uint8_at bytes 19)))) (One (record { size = length bytes; listed = None })) ≡ One id
    → length bytes ≡ id.size
in_size bytes id true e = entry_size (length bytes) bytes (units_of (part bytes (38 + uint16_at bytes 36) (uint8_at bytes 19))) id e
in_size bytes id false e = ap size_of e

asked_size : (o : Option ℕ) (bytes : Bytes) (id : Identifier) → checked_identifier o bytes ≡ One id → length bytes ≡ id.size
asked_size None bytes id e = absurd (let x : ⊥ = cc in x)
asked_size (Some b) bytes id e = go (is_valid bytes b 257) e
  where
    go : (x : Bool) → cond x (identifier_in (length bytes) bytes) (AtRest (Wrong IdentifierTag)) ≡ One id → length bytes ≡ id.size
    go true q = in_size bytes id (is_listed bytes) q
    go false q = absurd (let x : ⊥ = cc in x)

pub not_long : (a b : ℕ) → nat_lt a b ≡ false → b ≤ a
not_long a b e = grind arith

pub forty : (n : ℕ) → 38 ≤ 4 * ((n + 41) / 4)
forty n = omega arith

-- what stops a directory
no_stop_in : {A : Type 0} (n : ℕ) (bytes : Bytes) (b : Bool) → cond b (entry_with (length bytes) bytes (units_of (part bytes (38 + uint16_at bytes 36) (uint8_at bytes 19)))) (One (record { size = length bytes; listed = None })) ≡ AtRest (Stopped n) → A
no_stop_in {A} n bytes true e = go (units_of (part bytes (38 + uint16_at bytes 36) (uint8_at bytes 19))) e
  where
    go : (r : Result (List ℕ) NameFault) → entry_with (length bytes) bytes r ≡ AtRest (Stopped n) → A
    go (Ok u) q = absurd (let x : ⊥ = cc in x)
    go (Err f) q = absurd (let x : ⊥ = cc in x)
no_stop_in n bytes false e = absurd (let x : ⊥ = cc in x)

asked_no_stop : {A : Type 0} (n : ℕ) (o : Option ℕ) (bytes : Bytes) → checked_identifier o bytes ≡ AtRest (Stopped n) → A
asked_no_stop n None bytes e = absurd (let x : ⊥ = cc in x)
asked_no_stop {A} n (Some b) bytes e = go (is_valid bytes b 257) e
  where
    go : (x : Bool) → cond x (identifier_in (length bytes) bytes) (AtRest (Wrong IdentifierTag)) ≡ AtRest (Stopped n) → A
    go true q = no_stop_in n bytes (is_listed bytes) q
    go false q = absurd (let x : ⊥ = cc in x)

abbrev pub StopsAt : List Cell → Type 0
StopsAt xs = (k : ℕ) × IsMissingAt xs k × ((k < 38) ⊎ ((first_missing (take 38 xs) ≡ None) × (k < identifier_size (map value (take 38 xs)))))

module _ (rules : Profile) where
  pub checked_size : (o : Option ℕ) (bytes : Bytes) (id : Identifier) → checked_by rules o bytes ≡ One id → length bytes ≡ id.size
  checked_size o bytes id e = asked_size (place_asked rules o bytes) bytes id e

  pub no_stop : {A : Type 0} (n : ℕ) (o : Option ℕ) (bytes : Bytes) → checked_by rules o bytes ≡ AtRest (Stopped n) → A
  no_stop n o bytes e = asked_no_stop n (place_asked rules o bytes) bytes e

  pub record OneIs (cs : List Cell) (id : Identifier) : Type 0 where
    pub size_is : identifier_size (map value (take 38 cs)) ≡ id.size
    pub clean : first_missing (take id.size cs) ≡ None

  pub step_one : (cs : List Cell) (id : Identifier) → step_by rules cs ≡ One id → OneIs cs id
  unfolding step_by
  step_one [] id e = absurd (let x : ⊥ = cc in x)
  step_one (c ∷ cs) id e = record { size_is = size_is; clean = subst (λ n. first_missing (take n all) ≡ None) size_is fourth.0 }
    where
      all : List Cell
      all = c ∷ cs

      size : ℕ
      size = identifier_size (map value (take 38 all))

      checked : Step
      checked = checked_by rules (holder_of all) (map value (take size all))

      first : (nat_lt (length all) 38 ≡ false) × (or_stop (first_missing (take 38 all)) (sized_by rules all size) ≡ One id)
      first = inv_cond (nat_lt (length all) 38) (Wrong Cut) (or_stop (first_missing (take 38 all)) (sized_by rules all size)) id e

      second : (first_missing (take 38 all) ≡ None) × (sized_by rules all size ≡ One id)
      second = inv_stop (first_missing (take 38 all)) (sized_by rules all size) id first.1

      third : ((nat_lt 2048 size || nat_lt (length all) size) ≡ false) × (or_stop (first_missing (take size all)) checked ≡ One id)
      third = inv_cond (nat_lt 2048 size || nat_lt (length all) size) (Wrong Cut) (or_stop (first_missing (take size all)) checked) id second.1

      fourth : (first_missing (take size all) ≡ None) × (checked ≡ One id)
      fourth = inv_stop (first_missing (take size all)) checked id third.1

      fits : size ≤ length all
      fits = not_long (length all) size (neither (nat_lt 2048 size) (nat_lt (length all) size) third.0).1

      size_is : size ≡ id.size
      size_is = sym (length-map (take size all) value ∙ length-take-le size all fits) ∙ checked_size (holder_of all) (map value (take size all)) id fourth.1

  pub stop_missing : (xs : List Cell) (n : ℕ) → step_by rules xs ≡ AtRest (Stopped n) → StopsAt xs
  unfolding step_by
  stop_missing [] n e = absurd (let x : ⊥ = cc in x)
  stop_missing (c ∷ cs) n e = short (nat_lt (length (c ∷ cs)) 38) e
    where
      all : List Cell
      all = c ∷ cs

      size : ℕ
      size = identifier_size (map value (take 38 all))

      checked : Step
      checked = checked_by rules (holder_of all) (map value (take size all))

      near : (m : ℕ) → first_missing (take 38 all) ≡ Some m → StopsAt all
      near m q = let r : (k : ℕ) × (k < 38) × IsMissingAt all k = found_missing 38 all m q in (r.0, r.2, inl r.1)

      far : (m : ℕ) → first_missing (take 38 all) ≡ None → first_missing (take size all) ≡ Some m → StopsAt all
      far m z q = let r : (k : ℕ) × (k < size) × IsMissingAt all k = found_missing size all m q in (r.0, r.2, inr (z, r.1))

      ends : first_missing (take 38 all) ≡ None → (o : Option ℕ) → first_missing (take size all) ≡ o → or_stop o checked ≡ AtRest (Stopped n) → StopsAt all
      ends z None q s = no_stop n (holder_of all) (map value (take size all)) s
      ends z (Some m) q s = far m z q

      fits : first_missing (take 38 all) ≡ None → (b : Bool) → cond b (AtRest (Wrong Cut)) (or_stop (first_missing (take size all)) checked) ≡ AtRest (Stopped n) → StopsAt all
      fits z true s = absurd (let x : ⊥ = cc in x)
      fits z false s = ends z (first_missing (take size all)) refl s

      begins : (o : Option ℕ) → first_missing (take 38 all) ≡ o → or_stop o (sized_by rules all size) ≡ AtRest (Stopped n) → StopsAt all
      begins None q s = fits q (nat_lt 2048 size || nat_lt (length all) size) s
      begins (Some m) q s = near m q

      short : (b : Bool) → cond b (AtRest (Wrong Cut)) (or_stop (first_missing (take 38 all)) (sized_by rules all size)) ≡ AtRest (Stopped n) → StopsAt all
      short true s = absurd (let x : ⊥ = cc in x)
      short false s = begins (first_missing (take 38 all)) refl s

  -- a descriptor of the whole whose cells are all there is read in the part too
  pub step_clear : (xs ys : List Cell) → AllZip IsCellOf xs ys → (id : Identifier) → step_by rules ys ≡ One id → IsClearTo xs id.size → step_by rules xs ≡ One id
  step_clear xs ys h id e clear = go (step_is rules xs ys h)
    where
      o : OneIs ys id
      o = step_one ys id e

      big : 38 ≤ id.size
      big = subst (λ n. 38 ≤ n) o.size_is (forty (uint8_at (map value (take 38 ys)) 19 + uint16_at (map value (take 38 ys)) 36))

      no : StopsAt xs → ⊥
      no (k, m, inl l) = clear k (omega (arith, big)) m
      no (k, m, inr (z, l)) = clear k (subst (λ n. k < n) (ap (λ t. identifier_size (map value t)) (none_missing (take 38 xs) (take 38 ys) (AllZip-take 38 xs ys h) z) ∙ o.size_is) l) m

      go : StepIs (step_by rules xs) (step_by rules ys) → step_by rules xs ≡ One id
      go (step_same p) = p ∙ e
      go (step_stop n p) = absurd (no (stop_missing xs n p))

pub cons_head : {A : Type 0} (x y : A) (xs ys : List A) → x ∷ xs ≡ y ∷ ys → x ≡ y
cons_head x y xs ys e = cc

pub cons_tail : {A : Type 0} (x y : A) (xs ys : List A) → x ∷ xs ≡ y ∷ ys → xs ≡ ys
cons_tail x y xs ys e = cc

nil_cons : {A B : Type 0} (x : A) (front xs : List A) → [] ≡ front ++ x ∷ xs → B
nil_cons x [] xs e = absurd (let n : ⊥ = cc in n)
nil_cons x (y ∷ ys) xs e = absurd (let n : ⊥ = cc in n)

module _ (rules : Profile) where
  abbrev ids : ℕ → List Cell → List Identifier
  ids n cs = (read_from rules n cs).identifiers

  abbrev next : ℕ → List Cell → ℕ → DirectoryText
  next n cs size = read_from rules n (drop size cs)

  reach : (n : ℕ) (xs ys : List Cell) → AllZip IsCellOf xs ys → (front back : List Identifier) (id : Identifier) → ids n ys ≡ front ++ id ∷ back
      → IsClearTo xs (descriptor_end front id) → (more : List Identifier) × (ids n xs ≡ front ++ id ∷ more)
  reach zero xs ys h front back id e clear = nil_cons id front back e
  reach (suc n) xs ys h front back id e clear = go (λ k. reach n (drop k xs) (drop k ys) (AllZip-drop k xs ys h)) (step_by rules ys) refl e
    where
      Reaches : List Identifier → List Cell → Type 0
      Reaches f zs = (more : List Identifier) × (ids n zs ≡ f ++ id ∷ more)

      first : (i : Identifier) → step_by rules ys ≡ One i → IsClearTo xs i.size → ids (suc n) xs ≡ i ∷ (next n xs i.size).identifiers
      first i s c = ap (λ t. (read_on t (next n xs)).identifiers) (step_clear rules xs ys h i s c)

      at : ((k : ℕ) → (front back : List Identifier) (id : Identifier) → ids n (drop k ys) ≡ front ++ id ∷ back → IsClearTo (drop k xs) (descriptor_end front id)
          → (more : List Identifier) × (ids n (drop k xs) ≡ front ++ id ∷ more))
          → (i : Identifier) → step_by rules ys ≡ One i → (f : List Identifier) → i ∷ (next n ys i.size).identifiers ≡ f ++ id ∷ back → IsClearTo xs (descriptor_end f id)
          → (more : List Identifier) × (ids (suc n) xs ≡ f ++ id ∷ more)
      at ih i s [] q c = let same : i ≡ id = cons_head i id (next n ys i.size).identifiers back q in
          ((next n xs i.size).identifiers, first i s (subst (λ x. IsClearTo xs x.size) (sym same) c) ∙ ap (λ x. x ∷ (next n xs i.size).identifiers) same)
      at ih i s (j ∷ js) q c = let same : i ≡ j = cons_head i j (next n ys i.size).identifiers (js ++ id ∷ back) q in
          let c' : IsClearTo xs (i.size + descriptor_end js id) = subst (λ x. IsClearTo xs (x.size + descriptor_end js id)) (sym same) c in
          let r : (more : List Identifier) × (ids n (drop i.size xs) ≡ js ++ id ∷ more) = ih i.size js back id (cons_tail i j (next n ys i.size).identifiers (js ++ id ∷ back) q) (clear_drop i.size (descriptor_end js id) xs c') in
          (r.0, first i s (λ k l. c' k (omega arith)) ∙ (λ t. same t ∷ r.1 t))

      go : ((k : ℕ) → (front back : List Identifier) (id : Identifier) → ids n (drop k ys) ≡ front ++ id ∷ back → IsClearTo (drop k xs) (descriptor_end front id)
          → (more : List Identifier) × (ids n (drop k xs) ≡ front ++ id ∷ more))
          → (t : Step) → step_by rules ys ≡ t → (read_on (step_by rules ys) (next n ys)).identifiers ≡ front ++ id ∷ back
          → (more : List Identifier) × (ids (suc n) xs ≡ front ++ id ∷ more)
      go ih (AtRest r) s q = nil_cons id front back (sym (ap (λ t. (read_on t (next n ys)).identifiers) s) ∙ q)
      go ih (One i) s q = at ih i s front (sym (ap (λ t. (read_on t (next n ys)).identifiers) s) ∙ q) clear

  clears : (n : ℕ) (xs : List Cell) (front back : List Identifier) (id : Identifier) → ids n xs ≡ front ++ id ∷ back → IsClearTo xs (descriptor_end front id)
  clears zero xs front back id e = nil_cons id front back e
  clears (suc n) xs front back id e = go (λ k. clears n (drop k xs)) (step_by rules xs) refl e
    where
      at : ((k : ℕ) → (front back : List Identifier) (id : Identifier) → ids n (drop k xs) ≡ front ++ id ∷ back → IsClearTo (drop k xs) (descriptor_end front id))
          → (i : Identifier) → IsClearTo xs i.size → (f : List Identifier) → i ∷ (next n xs i.size).identifiers ≡ f ++ id ∷ back → IsClearTo xs (descriptor_end f id)
      at ih i c [] q = subst (λ x. IsClearTo xs x.size) (cons_head i id (next n xs i.size).identifiers back q) c
      at ih i c (j ∷ js) q = subst (λ x. IsClearTo xs (x.size + descriptor_end js id)) (cons_head i j (next n xs i.size).identifiers (js ++ id ∷ back) q)
          (clear_from i.size (descriptor_end js id) xs c (ih i.size js back id (cons_tail i j (next n xs i.size).identifiers (js ++ id ∷ back) q)))

      go : ((k : ℕ) → (front back : List Identifier) (id : Identifier) → ids n (drop k xs) ≡ front ++ id ∷ back → IsClearTo (drop k xs) (descriptor_end front id))
          → (t : Step) → step_by rules xs ≡ t → (read_on (step_by rules xs) (next n xs)).identifiers ≡ front ++ id ∷ back → IsClearTo xs (descriptor_end front id)
      go ih (AtRest r) s q = nil_cons id front back (sym (ap (λ t. (read_on t (next n xs)).identifiers) s) ∙ q)
      go ih (One i) s q = at ih i (clear_take i.size xs (step_one rules xs i s).clean) front (sym (ap (λ t. (read_on t (next n xs)).identifiers) s) ∙ q)

  no_fault_in : (n : ℕ) (xs ys : List Cell) → AllZip IsCellOf xs ys → (read_from rules n ys).rest ≡ Nothing → (f : NodeFault) → (read_from rules n xs).rest ≢ Wrong f
  no_fault_in zero xs ys h e f q = let x : ⊥ = cc in x
  no_fault_in (suc n) xs ys h e f q = go (λ k. no_fault_in n (drop k xs) (drop k ys) (AllZip-drop k xs ys h)) (step_is rules xs ys h)
    where
      rest_by : Step → List Cell → Rest
      rest_by t cs = (read_on t (next n cs)).rest

      same : ((k : ℕ) → (next n ys k).rest ≡ Nothing → (f : NodeFault) → (next n xs k).rest ≢ Wrong f) → (t : Step) → rest_by t ys ≡ Nothing → rest_by t xs ≡ Wrong f → ⊥
      same ih (AtRest r) a b = let x : ⊥ = cc in x
      same ih (One i) a b = ih i.size a f b

      go : ((k : ℕ) → (next n ys k).rest ≡ Nothing → (f : NodeFault) → (next n xs k).rest ≢ Wrong f) → StepIs (step_by rules xs) (step_by rules ys) → ⊥
      go ih (step_same p) = same ih (step_by rules ys) e (ap (λ t. rest_by t xs) (sym p) ∙ q)
      go ih (step_stop b p) = let z : Stopped b ≡ Wrong f = ap (λ t. rest_by t xs) (sym p) ∙ q in let x : ⊥ = cc in x

  pub partial_directory : (xs ys : List Cell) → AllZip IsCellOf xs ys → IsPartialDirectory rules xs ys
  unfolding directory_by
  partial_directory xs ys h = record {
    entries = part_front rules xs ys h;
    no_fault = λ e f q. no_fault_in (length ys + 1) xs ys h e f (ap (λ n. (read_from rules (n + 1) xs).rest) (sym (AllZip-length xs ys h)) ∙ q);
    reached = λ front back id e c. let r : (more : List Identifier) × (ids (length ys + 1) xs ≡ front ++ id ∷ more) = reach (length ys + 1) xs ys h front back id e c in
        (r.0, ap (λ n. ids (n + 1) xs) (AllZip-length xs ys h) ∙ r.1);
    clear = λ front back id e. clears (length xs + 1) xs front back id e;
  }
