-- A directory reads in one way only, and over complete cells as the standard reads it.
use Rattle.std.proofs.Common.{◌≡◌, ◌≢◌, refl, sym, ◌∙◌, ap, subst, ℕ, ◌+◌, ◌*◌, ◌/◌, ◌<◌, ◌≤◌, Bool, true, false, List, [], ◌∷◌, length, take, drop, map, cond, ◌||◌, arith, Option, Some, None, nat_lt, slice_get}
use Rattle.std.specs.Prelude.{zero, suc, Result, Ok, Err}
use Rattle.std.proofs.lemmas.List.{length-take-le, length-map, length-drop, length-append, take-append-drop, take-map, take-take, get_or-take, drop-take}
use Rattle.std.proofs.Math.Seq.{take-append_seam, drop-append_seam}
use Rattle.udfs_tag.specs.Fields.{uint8_at, uint16_at, part}
use Rattle.udfs_tag.specs.Tags.{is_valid}
use Rattle.udfs_osta.specs.Names.{units_of}
use Rattle.udfs_osta.specs.declared.names.NameFault.{NameFault}
use Rattle.udfs_volume.specs.Sequence.{Bytes}
use Rattle.udfs_volume.specs.declared.profiles.Profile.{Profile}
use Rattle.udfs_volume.specs.declared.profiles.Profile.TheVariants.{Strict, Wide}
use Rattle.udfs_file.specs.declared.cells.Cell.{Cell}
use Rattle.udfs_file.specs.declared.cells.Cell.TheVariants.{Gap}
use Rattle.udfs_file.specs.Fronts.{first_missing, value, holder_of, identifier_size, or_stop, is_listed, entry_with, identifier_in, checked_identifier, checked_by, place_asked, sized_by, step_by, ReadsBy, DirectoryText, read_on, read_from, directory_by}
use Rattle.udfs_file.specs.Identifiers.{Identifier}
use Rattle.udfs_file.specs.Identifiers.{Rest}
use Rattle.udfs_file.specs.Identifiers.{Nothing, Stopped, Wrong}
use Rattle.udfs_file.specs.Identifiers.{Step}
use Rattle.udfs_file.specs.Identifiers.{AtRest, One}
use Rattle.udfs_file.specs.Standard.{Located, IsIdentifierIn, IsDirectoryBody, MayName}
use Rattle.udfs_file.specs.Complete.{as_cell, as_cells, ReadsLaw, DirectoryLaw}
use Rattle.udfs_file.specs.declared.faults.NodeFault.{NodeFault}
use Rattle.udfs_file.specs.declared.faults.NodeFault.TheVariants.{Cut, IdentifierTag}
use Rattle.udfs_file.proofs.Reached.{inv_cond, inv_stop, neither, checked_size, not_long, forty, StopsAt, stop_missing}

module _ (rules : Profile) where
  -- What a descriptor at the front of the cells is.
  pub record StepOne (cs : List Cell) (id : Identifier) : Type 0 where
    pub size_is : identifier_size (map value (take 38 cs)) ≡ id.size
    pub big : 38 ≤ id.size
    pub fits : id.size ≤ length cs
    pub block : ℕ
    pub place : place_asked rules (holder_of cs) (map value (take id.size cs)) ≡ Some block
    pub valid : is_valid (map value (take id.size cs)) block 257 ≡ true
    pub is : identifier_in (length (map value (take id.size cs))) (map value (take id.size cs)) ≡ One id

record Checked (o : Option ℕ) (bytes : Bytes) (id : Identifier) : Type 0 where
  block : ℕ
  holder : o ≡ Some block
  valid : is_valid bytes block 257 ≡ true
  is : identifier_in (length bytes) bytes ≡ One id

checked_is : (o : Option ℕ) (bytes : Bytes) (id : Identifier) → checked_identifier o bytes ≡ One id → Checked o bytes id
checked_is None bytes id e = absurd (let x : ⊥ = cc in x)
checked_is (Some b) bytes id e = go (is_valid bytes b 257) refl e
  where
    go : (x : Bool) → is_valid bytes b 257 ≡ x → cond x (identifier_in (length bytes) bytes) (AtRest (Wrong IdentifierTag)) ≡ One id → Checked (Some b) bytes id
    go true v q = record { block = b; holder = refl; valid = v; is = q }
    go false v q = absurd (let x : ⊥ = cc in x)

module _ (rules : Profile) where
  pub step_one : (cs : List Cell) (id : Identifier) → step_by rules cs ≡ One id → StepOne rules cs id
  unfolding step_by
  step_one [] id e = absurd (let x : ⊥ = cc in x)
  step_one (c ∷ cs) id e = record {
    size_is = size_is;
    big = subst (λ n. 38 ≤ n) size_is (forty (uint8_at head 19 + uint16_at head 36));
    fits = subst (λ n. n ≤ length all) size_is fits;
    block = last.block;
    place = last.holder;
    valid = last.valid;
    is = last.is;
  }
    where
      all : List Cell
      all = c ∷ cs

      head : Bytes
      head = map value (take 38 all)

      size : ℕ
      size = identifier_size head

      checked : Step
      checked = checked_by rules (holder_of all) (map value (take size all))

      first : (nat_lt (length all) 38 ≡ false) × (or_stop (first_missing (take 38 all)) (sized_by rules all size) ≡ One id)
      first = inv_cond (nat_lt (length all) 38) (Wrong Cut) (or_stop (first_missing (take 38 all)) (sized_by rules all size)) id e

      second : (first_missing (take 38 all) ≡ None) × (sized_by rules all size ≡ One id)
      second = inv_stop (first_missing (take 38 all)) (sized_by rules all size) id first.1

      third : ((nat_lt 2048 size || nat_lt (length all) size) ≡ false) × (or_stop (first_missing (take size all)) checked ≡ One id)
      third = inv_cond (nat_lt 2048 size || nat_lt (length all) size) (Wrong Cut) (or_stop (first_missing (take size all)) checked) id second.1

      fourth : (first_missing (take size all) ≡ None) × (checked ≡ One id)
      fourth = inv_stop (first_missing (take size all)) checked id third.1

      fits : size ≤ length all
      fits = not_long (length all) size (neither (nat_lt 2048 size) (nat_lt (length all) size) third.0).1

      size_is : size ≡ id.size
      size_is = sym (length-map (take size all) value ∙ length-take-le size all fits) ∙ checked_size rules (holder_of all) (map value (take size all)) id fourth.1

      last : Checked (place_asked rules (holder_of all) (map value (take id.size all))) (map value (take id.size all)) id
      last = subst (λ n. Checked (place_asked rules (holder_of all) (map value (take n all))) (map value (take n all)) id) size_is (checked_is (place_asked rules (holder_of all) (map value (take size all))) (map value (take size all)) id fourth.1)

-- only the end of the cells is the end of the descriptors
abbrev IsNoEnd : Step → Type 0
IsNoEnd t = t ≢ AtRest Nothing

no_end-cond : (b : Bool) (f : NodeFault) (t : Step) → IsNoEnd t → IsNoEnd (cond b (AtRest (Wrong f)) t)
no_end-cond true f t h e = let x : ⊥ = cc in x
no_end-cond false f t h e = h e

no_end-stop : (o : Option ℕ) (t : Step) → IsNoEnd t → IsNoEnd (or_stop o t)
no_end-stop None t h e = h e
no_end-stop (Some n) t h e = let x : ⊥ = cc in x

no_end-entry : (n : ℕ) (bytes : Bytes) (r : Result (List ℕ) NameFault) → IsNoEnd (entry_with n bytes r)
no_end-entry n bytes (Ok units) e = let x : ⊥ = cc in x
no_end-entry n bytes (Err f) e = let x : ⊥ = cc in x

no_end-in : (bytes : Bytes) (b : Bool) → IsNoEnd (cond b (entry_with (length bytes) bytes (units_of (part bytes (38 + uint16_at bytes 36) (uint8_at bytes 19)))) (One (record { size = length bytes; listed = None })))
no_end-in bytes true e = no_end-entry (length bytes) bytes (units_of (part bytes (38 + uint16_at bytes 36) (uint8_at bytes 19))) e
no_end-in bytes false e = let x : ⊥ = cc in x

no_end-checked : (o : Option ℕ) (bytes : Bytes) → IsNoEnd (checked_identifier o bytes)
no_end-checked None bytes e = let x : ⊥ = cc in x
no_end-checked (Some b) bytes e = go (is_valid bytes b 257) e
  where
    go : (x : Bool) → IsNoEnd (cond x (identifier_in (length bytes) bytes) (AtRest (Wrong IdentifierTag)))
    go true q = no_end-in bytes (is_listed bytes) q
    go false q = let x : ⊥ = cc in x

module _ (rules : Profile) where
  pub no_end : (c : Cell) (cs : List Cell) → step_by rules (c ∷ cs) ≢ AtRest Nothing
  unfolding step_by
  no_end c cs = no_end-cond (nat_lt (length all) 38) Cut (or_stop (first_missing (take 38 all)) (sized_by rules all size))
      (no_end-stop (first_missing (take 38 all)) (sized_by rules all size)
      (no_end-cond (nat_lt 2048 size || nat_lt (length all) size) Cut (or_stop (first_missing (take size all)) checked)
      (no_end-stop (first_missing (take size all)) checked (no_end-checked (place_asked rules (holder_of all) (map value (take size all))) (map value (take size all))))))
    where
      all : List Cell
      all = c ∷ cs

      size : ℕ
      size = identifier_size (map value (take 38 all))

      checked : Step
      checked = checked_by rules (holder_of all) (map value (take size all))

  -- the cells behind a descriptor are fewer
  fewer : (n : ℕ) (cs : List Cell) (id : Identifier) → step_by rules cs ≡ One id → length cs < suc n → length (drop id.size cs) < n
  fewer n cs id e h = let s : StepOne rules cs id = step_one rules cs id e in
      let big : 38 ≤ id.size = s.big in let fits : id.size ≤ length cs = s.fits in
      subst (λ k. k < n) (sym (length-drop id.size cs)) (omega (arith, big, fits, h))

  reads : (n : ℕ) (cs : List Cell) → length cs < n → ReadsBy rules cs (read_from rules n cs).identifiers (read_from rules n cs).rest
  reads zero cs h = absurd (let x : ⊥ = omega arith in x)
  reads (suc n) cs h = go (λ k. reads n (drop k cs)) (step_by rules cs) refl
    where
      next : ℕ → DirectoryText
      next size = read_from rules n (drop size cs)

      go : ((k : ℕ) → length (drop k cs) < n → ReadsBy rules (drop k cs) (next k).identifiers (next k).rest) → (t : Step) → step_by rules cs ≡ t
          → ReadsBy rules cs (read_on (step_by rules cs) next).identifiers (read_on (step_by rules cs) next).rest
      go ih (AtRest r) s = subst (λ t. ReadsBy rules cs (read_on t next).identifiers (read_on t next).rest) (sym s) s
      go ih (One id) s = subst (λ t. ReadsBy rules cs (read_on t next).identifiers (read_on t next).rest) (sym s) (s, ih id.size (fewer n cs id s h))

  only_reads : (n : ℕ) (cs : List Cell) (ids : List Identifier) (rest : Rest) → length cs < n → ReadsBy rules cs ids rest
      → ((read_from rules n cs).identifiers ≡ ids) × ((read_from rules n cs).rest ≡ rest)
  only_reads zero cs ids rest h r = absurd (let x : ⊥ = omega arith in x)
  only_reads (suc n) cs [] rest h r = (ap (λ t. (read_on t (λ size. read_from rules n (drop size cs))).identifiers) r, ap (λ t. (read_on t (λ size. read_from rules n (drop size cs))).rest) r)
  only_reads (suc n) cs (id ∷ ids) rest h (e, r) =
      let q : ((read_from rules n (drop id.size cs)).identifiers ≡ ids) × ((read_from rules n (drop id.size cs)).rest ≡ rest) = only_reads n (drop id.size cs) ids rest (fewer n cs id e h) r in
      (ap (λ t. (read_on t (λ size. read_from rules n (drop size cs))).identifiers) e ∙ ap (λ z. id ∷ z) q.0, ap (λ t. (read_on t (λ size. read_from rules n (drop size cs))).rest) e ∙ q.1)

more_than : (n : ℕ) → n < n + 1
more_than n = omega arith

module _ (rules : Profile) where
  pub directory_reads : (cs : List Cell) → ReadsBy rules cs (directory_by rules cs).identifiers (directory_by rules cs).rest
  unfolding directory_by
  directory_reads cs = reads rules (length cs + 1) cs (more_than (length cs))

pub reads_law : ReadsLaw
unfolding directory_by
reads_law rules cs ids rest = (
  only_reads rules (length cs + 1) cs ids rest (more_than (length cs)),
  λ e. subst (λ z. ReadsBy rules cs z rest) e.0 (subst (λ z. ReadsBy rules cs (directory_by rules cs).identifiers z) e.1 (directory_reads rules cs)),
)

-- the size of a descriptor is told by its first 38 bytes
size-front : (xs : Bytes) → identifier_size (take 38 xs) ≡ identifier_size xs
size-front xs = λ i. 4 * ((short i + long i + 41) / 4)
  where
    short : uint8_at (take 38 xs) 19 ≡ uint8_at xs 19
    short = get_or-take 38 xs 19 0 (omega arith)

    ys : Bytes
    ys = drop 36 xs

    long : uint16_at (take 38 xs) 36 ≡ uint16_at xs 36
    long = ap (λ z. uint16_at z 0) (drop-take 36 2 xs) ∙ (λ i. get_or-take 2 ys 0 0 (omega arith) i + 256 * (get_or-take 2 ys 1 0 (omega arith) i + 256 * 0))

abbrev pub bytes_of : List Located → Bytes
bytes_of xs = map (λ x. x.0) xs

pub values : (n : ℕ) (xs : List Located) → map value (take n (as_cells xs)) ≡ bytes_of (take n xs)
values zero xs = refl
values (suc n) [] = refl
values (suc n) (x ∷ xs) = ap (λ z. x.0 ∷ z) (values n xs)

pub drop-cells : (n : ℕ) (xs : List Located) → as_cells (drop n xs) ≡ drop n (as_cells xs)
drop-cells zero xs = refl
drop-cells (suc n) [] = refl
drop-cells (suc n) (x ∷ xs) = drop-cells n xs

pub piece_size : (n : ℕ) (whole : List Located) → 38 ≤ n → identifier_size (bytes_of (take n whole)) ≡ identifier_size (map value (take 38 (as_cells whole)))
piece_size n whole h = sym (size-front (bytes_of (take n whole)))
    ∙ ap identifier_size (take-map (λ x. x.0) 38 (take n whole) ∙ ap bytes_of (take-take 38 n whole h) ∙ sym (values 38 whole))

first_of : (n : ℕ) (whole : List Located) (b : ℕ) → 0 < n → holder_of (as_cells whole) ≡ Some b → (rest : List Located) × (x : ℕ) × (take n whole ≡ (x, Some b) ∷ rest)
first_of zero whole b h e = absurd (let x : ⊥ = omega arith in x)
first_of (suc n) [] b h e = absurd (let x : ⊥ = cc in x)
first_of (suc n) (x ∷ xs) b h e = (take n xs, x.0, λ i. (x.0, e i) ∷ take n xs)

-- the place that the tag is to name is one that it may name
may_name : (rules : Profile) (n : ℕ) (whole : List Located) (b : ℕ) (bytes : Bytes) → 0 < n → place_asked rules (holder_of (as_cells whole)) bytes ≡ Some b → MayName rules (take n whole) b
may_name Strict n whole b bytes h e = first_of n whole b h e
may_name Wide n whole b bytes h e = tt

module _ (rules : Profile) where
  is_piece : (whole : List Located) (id : Identifier) → StepOne rules (as_cells whole) id → IsIdentifierIn rules (take id.size whole) id
  is_piece whole id s = record {
    bytes = bytes_of (take id.size whole);
    bytes_are = refl;
    block = s.block;
    place = may_name rules id.size whole s.block (map value (take id.size (as_cells whole))) (let big : 38 ≤ id.size = s.big in omega (arith, big)) s.place;
    long_enough = subst (λ n. 38 ≤ n) (sym long) s.big;
    size = long ∙ sym (piece_size id.size whole s.big ∙ s.size_is);
    valid = ap (λ z. is_valid z s.block 257) (sym (values id.size whole)) ∙ s.valid;
    is = ap (λ z. identifier_in z (bytes_of (take id.size whole))) (sym (length-map (take id.size whole) (λ x. x.0)))
        ∙ ap (λ z. identifier_in (length z) z) (sym (values id.size whole)) ∙ s.is;
  }
    where
      long : length (take id.size whole) ≡ id.size
      long = length-take-le id.size whole (subst (λ n. id.size ≤ n) (length-map whole as_cell) s.fits)

  is_directory : (ids : List Identifier) (whole : List Located) → ReadsBy rules (as_cells whole) ids Nothing → IsDirectoryBody rules whole ids
  is_directory [] [] e = refl
  is_directory [] (x ∷ xs) e = absurd (no_end rules (as_cell x) (as_cells xs) e)
  is_directory (id ∷ ids) whole (e, r) = (
    take id.size whole,
    drop id.size whole,
    sym (take-append-drop id.size whole),
    is_piece whole id (step_one rules (as_cells whole) id e),
    is_directory ids (drop id.size whole) (subst (λ z. ReadsBy rules z ids Nothing) (sym (drop-cells id.size whole)) r),
  )

  only_directory : (ids : List Identifier) (whole : List Located) → ReadsBy rules (as_cells whole) ids Nothing → (others : List Identifier) → IsDirectoryBody rules whole others → others ≡ ids
  only_directory [] whole e [] d = refl
  only_directory [] whole e (o ∷ os) (piece, rest, w, i, d) = absurd (let big : 38 ≤ length piece = i.long_enough in
      let none : 0 ≡ length piece + length rest = ap length (sym (is_directory [] whole e) ∙ w) ∙ length-append piece rest in let x : ⊥ = omega (arith, big, none) in x)
  only_directory (id ∷ ids) whole (e, r) [] d = absurd (let s : StepOne rules (as_cells whole) id = step_one rules (as_cells whole) id e in
      let big : 38 ≤ id.size = s.big in let fits : id.size ≤ 0 = subst (λ z. id.size ≤ length (as_cells z)) d s.fits in let x : ⊥ = omega (arith, big, fits) in x)
  only_directory (id ∷ ids) whole (e, r) (o ∷ os) (piece, rest, w, i, d) = λ t. same t ∷ only_directory ids (drop id.size whole)
      (subst (λ z. ReadsBy rules z ids Nothing) (sym (drop-cells id.size whole)) r) os (subst (λ z. IsDirectoryBody rules z os) tail d) t
    where
      s : StepOne rules (as_cells whole) id
      s = step_one rules (as_cells whole) id e

      at_length : piece ≡ take (length piece) whole
      at_length = sym (ap (take (length piece)) w ∙ take-append_seam piece rest)

      long : length piece ≡ id.size
      long = i.size ∙ ap identifier_size (i.bytes_are ∙ ap bytes_of at_length) ∙ piece_size (length piece) whole i.long_enough ∙ s.size_is

      is : piece ≡ take id.size whole
      is = at_length ∙ ap (λ n. take n whole) long

      tail : rest ≡ drop id.size whole
      tail = sym (ap (drop (length piece)) w ∙ drop-append_seam piece rest) ∙ ap (λ n. drop n whole) long

      bytes : i.bytes ≡ map value (take id.size (as_cells whole))
      bytes = i.bytes_are ∙ ap bytes_of is ∙ sym (values id.size whole)

      ones : One o ≡ One id
      ones = sym i.is ∙ ap (λ n. identifier_in n i.bytes) (sym (length-map piece (λ x. x.0)) ∙ ap length (sym i.bytes_are))
          ∙ ap (λ z. identifier_in (length z) z) bytes ∙ s.is

      same : o ≡ id
      same = let q : One o ≡ One id = ones in cc

pub directory_law : DirectoryLaw
directory_law rules whole e = record { reads = is_directory rules ids whole r; only = only_directory rules ids whole r }
  where
    ids : List Identifier
    ids = (directory_by rules (as_cells whole)).identifiers

    r : ReadsBy rules (as_cells whole) ids Nothing
    r = subst (ReadsBy rules (as_cells whole) ids) e (directory_reads rules (as_cells whole))

-- complete cells stop no reading
no_missing : (xs : List Located) (k n : ℕ) → slice_get (as_cells xs) k ≢ Some (Gap n)
no_missing [] k n e = let x : ⊥ = cc in x
no_missing (x ∷ xs) zero n e = let x : ⊥ = cc in x
no_missing (x ∷ xs) (suc k) n e = no_missing xs k n e

module _ (rules : Profile) where
  no_stop : (ids : List Identifier) (xs : List Located) (n : ℕ) → ReadsBy rules (as_cells xs) ids (Stopped n) → ⊥
  no_stop [] xs n e = let s : StopsAt (as_cells xs) = stop_missing rules (as_cells xs) n e in no_missing xs s.0 s.1.0 s.1.1
  no_stop (id ∷ ids) xs n (e, r) = no_stop ids (drop id.size xs) n (subst (λ z. ReadsBy rules z ids (Stopped n)) (sym (drop-cells id.size xs)) r)

  pub never_stops : (xs : List Located) (n : ℕ) → (directory_by rules (as_cells xs)).rest ≢ Stopped n
  never_stops xs n e = no_stop (directory_by rules (as_cells xs)).identifiers xs n (subst (ReadsBy rules (as_cells xs) (directory_by rules (as_cells xs)).identifiers) e (directory_reads rules (as_cells xs)))
