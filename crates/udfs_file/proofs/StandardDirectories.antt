-- A directory whose body is a list of descriptors lists these, and has no fault.
use Rattle.std.proofs.Common.{◌≡◌, refl, sym, ◌∙◌, ap, subst, ℕ, ◌+◌, ◌≤◌, inl, inr, ◌⊎◌, Bool, true, false, List, [], ◌∷◌, ◌++◌, length, take, drop, map, cond, ◌||◌, arith, Option, Some, None, nat_lt}
use Rattle.std.specs.Prelude.{zero, suc, Result, Ok, Err, Contains, ◌==◌, not, if◌then◌else◌}
use Rattle.std.proofs.lemmas.Bool.{eqb-true}
use Rattle.std.proofs.lemmas.List.{length-append, length-map}
use Rattle.std.proofs.Math.Seq.{take-append_seam, drop-append_seam}
use Rattle.udfs_osta.specs.Names.{units_of}
use Rattle.udfs_osta.specs.declared.names.NameFault.{NameFault}
use Rattle.udfs_tag.specs.Crc.{crc_of}
use Rattle.udfs_tag.specs.Fields.{uint8_at, uint16_at, uint32_at, part}
use Rattle.udfs_tag.specs.Tags.{checksum_of, covered, covered_len, has_identifier, identifier, is_valid, tag_of}
use Rattle.udfs_tag.specs.declared.tags.TagFault.TheVariants.{Checksum, Version, CrcLength, Crc, Location}
use Rattle.udfs_lattice.proofs.Inclusion.{here, there, here_or_there, in_nothing}
use Rattle.udfs_volume.specs.declared.profiles.Profile.{Profile}
use Rattle.udfs_volume.specs.declared.profiles.Profile.TheVariants.{Strict, Wide}
use Rattle.udfs_file.specs.Complete.{AreShort, DescriptorsAreShort, StandardDirectories, as_cell, as_cells}
use Rattle.udfs_file.specs.Fronts.{checked_by, checked_identifier, place_asked, directory_by, entry_with, first_missing, holder_of, identifier_in, identifier_size, is_listed, or_stop, sized_by, step_by, value, ReadsBy}
use Rattle.udfs_file.specs.Identifiers.{Identifier, Rest, Nothing, Wrong, Step, AtRest, One}
use Rattle.udfs_file.specs.Standard.{Located, IsDirectoryBody, IsIdentifierIn, MayName}
use Rattle.udfs_file.specs.declared.cells.Cell.{Cell}
use Rattle.udfs_file.specs.declared.faults.NodeFault.TheVariants.{Cut, IdentifierTag}
use Rattle.udfs_file.proofs.BodyFrom.{not_lt}
use Rattle.udfs_file.proofs.Readings.{bytes_of, directory_reads, drop-cells, piece_size, reads_law, step_one, values}

-- the size of a descriptor is that of its bytes
size_with : (size : ℕ) (bytes : List ℕ) (r : Result (List ℕ) NameFault) (id : Identifier) → entry_with size bytes r ≡ One id → size ≡ id.size
size_with size bytes (Ok units) id e = cc
size_with size bytes (Err f) id e = absurd (let z : ⊥ = cc in z)

size_in : (size : ℕ) (bytes : List ℕ) (id : Identifier) → identifier_in size bytes ≡ One id → size ≡ id.size
size_in size bytes id = go (is_listed bytes)
  where
    name : List ℕ
    name = part bytes (38 + uint16_at bytes 36) (uint8_at bytes 19)

    go : (b : Bool) → cond b (entry_with size bytes (units_of name)) (One (record { size = size; listed = None })) ≡ One id → size ≡ id.size
    go true e = size_with size bytes (units_of name) id e
    go false e = cc

-- nothing is missing
none_missing : (n : ℕ) (xs : List Located) → first_missing (take n (as_cells xs)) ≡ None
none_missing zero xs = refl
none_missing (suc n) [] = refl
none_missing (suc n) (x ∷ xs) = none_missing n xs

cells_long : (xs : List Located) → length (as_cells xs) ≡ length xs
cells_long xs = length-map xs as_cell

-- a tag that is valid at a place names it
pub names_place : (bytes : List ℕ) (b id : ℕ) → is_valid bytes b id ≡ true → uint32_at bytes 12 ≡ b
unfolding tag_of
names_place bytes b id v = eqb-true (uint32_at bytes 12) b (by (uint8_at bytes 4 == checksum_of bytes) (uint16_at bytes 2 == 2 || uint16_at bytes 2 == 3) (nat_lt (length bytes) (16 + covered_len bytes))
    (uint16_at bytes 8 == crc_of (covered bytes)) (uint32_at bytes 12 == b) v)
  where
    by : (sum version short crc placed : Bool) → has_identifier (if not sum then Err Checksum else if not version then Err Version else if short then Err CrcLength else if not crc then Err Crc
        else if not placed then Err Location else Ok (record { identifier = identifier bytes })) id ≡ true → placed ≡ true
    by false version short crc placed e = absurd (let z : ⊥ = cc in z)
    by true false short crc placed e = absurd (let z : ⊥ = cc in z)
    by true true true crc placed e = absurd (let z : ⊥ = cc in z)
    by true true false false placed e = absurd (let z : ⊥ = cc in z)
    by true true false true false e = absurd (let z : ⊥ = cc in z)
    by true true false true true e = refl

-- the place that a descriptor's tag may name, and names, is the one that it is to name
place_is : (rules : Profile) (xs piece rest : List Located) (b : ℕ) (bytes : List ℕ) → xs ≡ piece ++ rest → MayName rules piece b → is_valid bytes b 257 ≡ true
    → place_asked rules (holder_of (as_cells xs)) bytes ≡ Some b
place_is Strict xs piece rest b bytes w i v = let first : xs ≡ (i.1, Some b) ∷ i.0 ++ rest = w ∙ ap (λ z. z ++ rest) i.2 in ap (λ z. holder_of (as_cells z)) first
place_is Wide xs piece rest b bytes w i v = ap Some (names_place bytes b 257 v)

module _ (rules : Profile) where
  -- the descriptor at the front is read
  step_back : (x : Located) (xs piece rest : List Located) (id : Identifier) → x ∷ xs ≡ piece ++ rest → IsIdentifierIn rules piece id → id.size ≤ 2048 → step_by rules (as_cells (x ∷ xs)) ≡ One id
  unfolding step_by
  step_back x xs piece rest id w i small = (λ k. cond (a1 k) (AtRest (Wrong Cut)) (or_stop (a2 k) (sized_by rules all (a3 k))))
      ∙ (λ k. cond (b1 k) (AtRest (Wrong Cut)) (or_stop (b2 k) (checked_by rules (holder_of all) (b4 k))))
      ∙ ap (λ z. checked_identifier z i.bytes) b3
      ∙ (λ k. cond (i.valid k) (identifier_in (length i.bytes) i.bytes) (AtRest (Wrong IdentifierTag)))
      ∙ ap (λ k. identifier_in k i.bytes) bytes_long ∙ i.is
    where
      all : List Cell
      all = as_cells (x ∷ xs)

      n : ℕ
      n = length piece

      whole : length all ≡ length piece + length rest
      whole = cells_long (x ∷ xs) ∙ ap length w ∙ length-append piece rest

      front : take n (x ∷ xs) ≡ piece
      front = ap (take n) w ∙ take-append_seam piece rest

      bytes_long : length i.bytes ≡ n
      bytes_long = ap length i.bytes_are ∙ length-map piece (λ z. z.0)

      a1 : nat_lt (length all) 38 ≡ false
      a1 = not_lt (length all) 38 (let long : 38 ≤ length piece = i.long_enough in omega (arith, whole, long))

      a2 : first_missing (take 38 all) ≡ None
      a2 = none_missing 38 (x ∷ xs)

      a3 : identifier_size (map value (take 38 all)) ≡ n
      a3 = sym (piece_size n (x ∷ xs) i.long_enough) ∙ ap (λ z. identifier_size (bytes_of z)) front ∙ ap identifier_size (sym i.bytes_are) ∙ sym i.size

      short : n ≤ 2048
      short = let e : n ≡ id.size = size_in n i.bytes id i.is in omega (arith, e, small)

      b1 : (nat_lt 2048 n || nat_lt (length all) n) ≡ false
      b1 = λ k. not_lt 2048 n short k || not_lt (length all) n (omega (arith, whole)) k

      b2 : first_missing (take n all) ≡ None
      b2 = none_missing n (x ∷ xs)

      b3 : place_asked rules (holder_of all) i.bytes ≡ Some i.block
      b3 = place_is rules (x ∷ xs) piece rest i.block i.bytes w i.place i.valid

      b4 : map value (take n all) ≡ i.bytes
      b4 = values n (x ∷ xs) ∙ ap bytes_of front ∙ sym i.bytes_are

  -- and so are all
  reads_back : (ids : List Identifier) (whole : List Located) → IsDirectoryBody rules whole ids → AreShort ids → ReadsBy rules (as_cells whole) ids Nothing
  unfolding step_by
  reads_back [] whole e h = ap (λ z. step_by rules (as_cells z)) e
  reads_back (id ∷ ids) [] (piece, rest, w, i, d) h = absurd (let long : 38 ≤ length piece = i.long_enough in let none : 0 ≡ length piece + length rest = ap length w ∙ length-append piece rest in
      let z : ⊥ = omega (arith, long, none) in z)
  reads_back (id ∷ ids) (x ∷ xs) (piece, rest, w, i, d) h = (
    step_back x xs piece rest id w i (h id (here id ids)),
    subst (λ z. ReadsBy rules z ids Nothing) (sym behind) (reads_back ids rest d (λ j k. h j (there id ids j k))),
  )
    where
      behind : drop id.size (as_cells (x ∷ xs)) ≡ as_cells rest
      behind = sym (drop-cells id.size (x ∷ xs)) ∙ ap as_cells (ap (λ n. drop n (x ∷ xs)) (sym (size_in (length piece) i.bytes id i.is)) ∙ ap (drop (length piece)) w ∙ drop-append_seam piece rest)

pub standard_directories : StandardDirectories
standard_directories rules whole ids d h = (reads_law rules (as_cells whole) ids Nothing).0 (reads_back rules ids whole d h)

-- ---- a descriptor that is read has at most 2048 bytes
not_long : (n : ℕ) (y : Bool) → (nat_lt 2048 n || y) ≡ false → n ≤ 2048
not_long n y e = go (nat_lt 2048 n) refl e
  where
    go : (b : Bool) → nat_lt 2048 n ≡ b → (b || y) ≡ false → n ≤ 2048
    go true q z = absurd (let x : ⊥ = cc in x)
    go false q z = grind arith

second_false : (b c : Bool) (o : Option ℕ) (y : Step) (id : Identifier) → cond b (AtRest (Wrong Cut)) (or_stop o (cond c (AtRest (Wrong Cut)) y)) ≡ One id → c ≡ false
second_false true c o y id e = absurd (let z : ⊥ = cc in z)
second_false false c (Some n) y id e = absurd (let z : ⊥ = cc in z)
second_false false true None y id e = absurd (let z : ⊥ = cc in z)
second_false false false None y id e = refl

module _ (rules : Profile) where
  short_step : (cs : List Cell) (id : Identifier) → step_by rules cs ≡ One id → id.size ≤ 2048
  unfolding step_by
  short_step [] id e = absurd (let z : ⊥ = cc in z)
  short_step (c ∷ cs) id e = subst (λ n. n ≤ 2048) (step_one rules (c ∷ cs) id e).size_is (not_long size (nat_lt (length all) size)
      (second_false (nat_lt (length all) 38) (nat_lt 2048 size || nat_lt (length all) size) (first_missing (take 38 all))
      (or_stop (first_missing (take size all)) (checked_by rules (holder_of all) (map value (take size all)))) id e))
    where
      all : List Cell
      all = c ∷ cs

      size : ℕ
      size = identifier_size (map value (take 38 all))

  short_reading : (ids : List Identifier) (rest : Rest) (cs : List Cell) → ReadsBy rules cs ids rest → AreShort ids
  short_reading [] rest cs r id i = in_nothing id i
  short_reading (x ∷ xs) rest cs (e, r) id i = go (short_reading xs rest (drop x.size cs) r id) (here_or_there x xs id i)
    where
      go : (Contains xs id → id.size ≤ 2048) → (x ≡ id) ⊎ Contains xs id → id.size ≤ 2048
      go later (inl same) = subst (λ z. z.size ≤ 2048) same (short_step cs x e)
      go later (inr j) = later j

pub descriptors_are_short : DescriptorsAreShort
descriptors_are_short rules cs = short_reading rules (directory_by rules cs).identifiers (directory_by rules cs).rest cs (directory_reads rules cs)
