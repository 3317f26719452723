-- The entries of a directory of which a part is known are a beginning of all.
use Rattle.std.proofs.Common.{◌≡◌, refl, sym, ◌∙◌, ap, subst, ℕ, ◌+◌, Bool, true, false, List, [], ◌∷◌, ◌++◌, length, take, drop, map, cond, ◌||◌, Option, Some, None, nat_lt}
use Rattle.std.specs.Prelude.{zero, suc}
use Rattle.std.specs.List.{AllZip, cons_option}
use Rattle.udfs_volume.specs.declared.profiles.Profile.{Profile}
use Rattle.udfs_file.specs.declared.cells.Cell.{Cell}
use Rattle.udfs_file.specs.declared.cells.Cell.TheVariants.{Byte, Gap}
use Rattle.udfs_file.specs.Fronts.{first_missing, value, holder_of, identifier_size, or_stop, checked_by, sized_by, step_by, DirectoryText, read_on, read_from, directory_by, listed_entries, entries_by}
use Rattle.udfs_file.specs.declared.directories.DirEntry.{DirEntry}
use Rattle.udfs_file.specs.Identifiers.{Identifier}
use Rattle.udfs_file.specs.Identifiers.{Stopped, Wrong}
use Rattle.udfs_file.specs.Identifiers.{Step}
use Rattle.udfs_file.specs.Identifiers.{AtRest, One}
use Rattle.udfs_file.specs.Laws.{IsCellOf, IsBeginningOf}
use Rattle.udfs_file.specs.declared.faults.NodeFault.TheVariants.{Cut}

pub AllZip-length : (xs ys : List Cell) → AllZip IsCellOf xs ys → length xs ≡ length ys
AllZip-length [] [] h = refl
AllZip-length [] (y ∷ ys) h = absurd h
AllZip-length (x ∷ xs) [] h = absurd h
AllZip-length (x ∷ xs) (y ∷ ys) h = ap suc (AllZip-length xs ys h.1)

pub AllZip-take : (n : ℕ) (xs ys : List Cell) → AllZip IsCellOf xs ys → AllZip IsCellOf (take n xs) (take n ys)
AllZip-take zero xs ys h = tt
AllZip-take (suc n) [] [] h = tt
AllZip-take (suc n) [] (y ∷ ys) h = absurd h
AllZip-take (suc n) (x ∷ xs) [] h = absurd h
AllZip-take (suc n) (x ∷ xs) (y ∷ ys) h = (h.0, AllZip-take n xs ys h.1)

pub AllZip-drop : (n : ℕ) (xs ys : List Cell) → AllZip IsCellOf xs ys → AllZip IsCellOf (drop n xs) (drop n ys)
AllZip-drop zero xs ys h = h
AllZip-drop (suc n) [] [] h = tt
AllZip-drop (suc n) [] (y ∷ ys) h = absurd h
AllZip-drop (suc n) (x ∷ xs) [] h = absurd h
AllZip-drop (suc n) (x ∷ xs) (y ∷ ys) h = AllZip-drop n xs ys h.1

-- where none is missing, they are the whole's
pub none_missing : (xs ys : List Cell) → AllZip IsCellOf xs ys → first_missing xs ≡ None → xs ≡ ys
none_missing [] [] h e = refl
none_missing [] (y ∷ ys) h e = absurd h
none_missing (x ∷ xs) [] h e = absurd h
none_missing (Byte x o ∷ xs) (y ∷ ys) h e = λ i. sym h.0 i ∷ none_missing xs ys h.1 e i
none_missing (Gap n ∷ xs) (y ∷ ys) h e = absurd (let no : ⊥ = cc in no)

-- one descriptor: the same, or a missing cell stops it
pub data StepIs (some whole : Step) : Type 0 where
  step_same : some ≡ whole → StepIs some whole
  step_stop : (n : ℕ) → some ≡ AtRest (Stopped n) → StepIs some whole

stopped_or : (xs ys : List Cell) → AllZip IsCellOf xs ys → (f : List Cell → Step) → (g : List Cell → Step)
    → (xs ≡ ys → StepIs (f xs) (g ys)) → StepIs (or_stop (first_missing xs) (f xs)) (or_stop (first_missing ys) (g ys))
stopped_or xs ys h f g k = go (first_missing xs) refl
  where
    go : (o : Option ℕ) → first_missing xs ≡ o → StepIs (or_stop (first_missing xs) (f xs)) (or_stop (first_missing ys) (g ys))
    go None e = from (k (none_missing xs ys h e))
      where
        first : or_stop (first_missing xs) (f xs) ≡ f xs
        first = ap (λ o. or_stop o (f xs)) e

        second : or_stop (first_missing ys) (g ys) ≡ g ys
        second = ap (λ o. or_stop o (g ys)) (sym (ap first_missing (none_missing xs ys h e)) ∙ e)

        from : StepIs (f xs) (g ys) → StepIs (or_stop (first_missing xs) (f xs)) (or_stop (first_missing ys) (g ys))
        from (step_same p) = step_same (first ∙ p ∙ sym second)
        from (step_stop n p) = step_stop n (first ∙ p)
    go (Some n) e = step_stop n (ap (λ o. or_stop o (f xs)) e)

holder-head : (x : Cell) (xs ys : List Cell) → holder_of (x ∷ xs) ≡ holder_of (x ∷ ys)
holder-head (Byte x o) xs ys = refl
holder-head (Gap n) xs ys = refl

module _ (rules : Profile) where
  pub step_is : (xs ys : List Cell) → AllZip IsCellOf xs ys → StepIs (step_by rules xs) (step_by rules ys)
  unfolding step_by
  step_is [] [] h = step_same refl
  step_is [] (y ∷ ys) h = absurd h
  step_is (x ∷ xs) [] h = absurd h
  step_is (x ∷ xs) (y ∷ ys) h = short (nat_lt (length (y ∷ ys)) 38) refl
    where
      some : List Cell
      some = x ∷ xs

      whole : List Cell
      whole = y ∷ ys

      long : List Cell → List Cell → Step
      long all head = sized_by rules all (identifier_size (map value head))

      same_length : length some ≡ length whole
      same_length = AllZip-length some whole h

      same_holder : x ≡ y → holder_of some ≡ holder_of whole
      same_holder q = ap (λ c. holder_of (c ∷ xs)) q ∙ holder-head y xs ys

      sized : x ≡ y → (size : ℕ) → StepIs (sized_by rules some size) (sized_by rules whole size)
      sized q size = fits (nat_lt 2048 size || nat_lt (length whole) size) refl
        where
          tail : List Cell → Step
          tail all = or_stop (first_missing (take size all)) (checked_by rules (holder_of all) (map value (take size all)))

          fits : (b : Bool) → (nat_lt 2048 size || nat_lt (length whole) size) ≡ b → StepIs (sized_by rules some size) (sized_by rules whole size)
          fits true e = step_same (ap (λ b. cond b (AtRest (Wrong Cut)) (tail some)) (ap (λ n. nat_lt 2048 size || nat_lt n size) same_length ∙ e)
              ∙ sym (ap (λ b. cond b (AtRest (Wrong Cut)) (tail whole)) e))
          fits false e = from (stopped_or (take size some) (take size whole) (AllZip-take size some whole h)
              (λ cs. checked_by rules (holder_of some) (map value cs)) (λ cs. checked_by rules (holder_of whole) (map value cs))
              (λ p. step_same (λ i. checked_by rules (same_holder q i) (map value (p i)))))
            where
              first : sized_by rules some size ≡ tail some
              first = ap (λ b. cond b (AtRest (Wrong Cut)) (tail some)) (ap (λ n. nat_lt 2048 size || nat_lt n size) same_length ∙ e)

              second : sized_by rules whole size ≡ tail whole
              second = ap (λ b. cond b (AtRest (Wrong Cut)) (tail whole)) e

              from : StepIs (tail some) (tail whole) → StepIs (sized_by rules some size) (sized_by rules whole size)
              from (step_same p) = step_same (first ∙ p ∙ sym second)
              from (step_stop n p) = step_stop n (first ∙ p)

      head_same : (take 38 some ≡ take 38 whole) → x ≡ y
      head_same p = cc

      short : (b : Bool) → nat_lt (length whole) 38 ≡ b → StepIs (step_by rules some) (step_by rules whole)
      short true e = step_same (ap (λ b. cond b (AtRest (Wrong Cut)) (or_stop (first_missing (take 38 some)) (long some (take 38 some)))) (ap (λ n. nat_lt n 38) same_length ∙ e)
          ∙ sym (ap (λ b. cond b (AtRest (Wrong Cut)) (or_stop (first_missing (take 38 whole)) (long whole (take 38 whole)))) e))
      short false e = from (stopped_or (take 38 some) (take 38 whole) (AllZip-take 38 some whole h) (long some) (long whole) both)
        where
          both : take 38 some ≡ take 38 whole → StepIs (long some (take 38 some)) (long whole (take 38 whole))
          both p = subst (λ z. StepIs (long some z) (long whole (take 38 whole))) (sym p) (sized (head_same p) (identifier_size (map value (take 38 whole))))

          first : step_by rules some ≡ or_stop (first_missing (take 38 some)) (long some (take 38 some))
          first = ap (λ b. cond b (AtRest (Wrong Cut)) (or_stop (first_missing (take 38 some)) (long some (take 38 some)))) (ap (λ n. nat_lt n 38) same_length ∙ e)

          second : step_by rules whole ≡ or_stop (first_missing (take 38 whole)) (long whole (take 38 whole))
          second = ap (λ b. cond b (AtRest (Wrong Cut)) (or_stop (first_missing (take 38 whole)) (long whole (take 38 whole)))) e

          from : StepIs (or_stop (first_missing (take 38 some)) (long some (take 38 some))) (or_stop (first_missing (take 38 whole)) (long whole (take 38 whole))) → StepIs (step_by rules some) (step_by rules whole)
          from (step_same p) = step_same (first ∙ p ∙ sym second)
          from (step_stop n p) = step_stop n (first ∙ p)

  -- the descriptors are a beginning of the whole's
  part_read : (n : ℕ) (xs ys : List Cell) → AllZip IsCellOf xs ys → IsBeginningOf (read_from rules n xs).identifiers (read_from rules n ys).identifiers
  part_read zero xs ys h = ([], refl)
  part_read (suc n) xs ys h = go (λ k. part_read n (drop k xs) (drop k ys) (AllZip-drop k xs ys h)) (step_is xs ys h)
    where
      next : List Cell → ℕ → DirectoryText
      next cs size = read_from rules n (drop size cs)

      same : ((k : ℕ) → IsBeginningOf (next xs k).identifiers (next ys k).identifiers) → (t : Step) → IsBeginningOf (read_on t (next xs)).identifiers (read_on t (next ys)).identifiers
      same ih (AtRest r) = ([], refl)
      same ih (One id) = ((ih id.size).0, ap (λ x. id ∷ x) (ih id.size).1)

      go : ((k : ℕ) → IsBeginningOf (next xs k).identifiers (next ys k).identifiers) → StepIs (step_by rules xs) (step_by rules ys)
          → IsBeginningOf (read_on (step_by rules xs) (next xs)).identifiers (read_on (step_by rules ys) (next ys)).identifiers
      go ih (step_same p) = subst (λ t. IsBeginningOf (read_on t (next xs)).identifiers (read_on (step_by rules ys) (next ys)).identifiers) (sym p) (same ih (step_by rules ys))
      go ih (step_stop b p) = subst (λ t. IsBeginningOf (read_on t (next xs)).identifiers (read_on (step_by rules ys) (next ys)).identifiers) (sym p) ((read_on (step_by rules ys) (next ys)).identifiers, refl)

pub listed-append : (xs ys : List Identifier) → listed_entries (xs ++ ys) ≡ listed_entries xs ++ listed_entries ys
listed-append [] ys = refl
listed-append (x ∷ xs) ys = go (listed-append xs ys) x.listed
  where
    go : listed_entries (xs ++ ys) ≡ listed_entries xs ++ listed_entries ys
        → (o : Option DirEntry) → cons_option o (listed_entries (xs ++ ys)) ≡ cons_option o (listed_entries xs) ++ listed_entries ys
    go ih None = ih
    go ih (Some e) = ap (λ z. e ∷ z) ih

module _ (rules : Profile) where
  -- over a part of a body the entries are a beginning of the whole's
  pub part_front : (xs ys : List Cell) → AllZip IsCellOf xs ys → IsBeginningOf (entries_by rules xs) (entries_by rules ys)
  unfolding directory_by
  part_front xs ys h = go (part_read rules (length ys + 1) xs ys h)
    where
      ids : ℕ → List Cell → List Identifier
      ids n cs = (read_from rules n cs).identifiers

      go : IsBeginningOf (ids (length ys + 1) xs) (ids (length ys + 1) ys) → IsBeginningOf (listed_entries (ids (length xs + 1) xs)) (listed_entries (ids (length ys + 1) ys))
      go (rest, e) = (
        listed_entries rest,
        ap listed_entries e ∙ listed-append (ids (length ys + 1) xs) rest
            ∙ ap (λ n. listed_entries (ids (n + 1) xs) ++ listed_entries rest) (sym (AllZip-length xs ys h)),
      )

  -- and so are the descriptors
  pub part_ids : (xs ys : List Cell) → AllZip IsCellOf xs ys → IsBeginningOf (directory_by rules xs).identifiers (directory_by rules ys).identifiers
  unfolding directory_by
  part_ids xs ys h = subst (λ n. IsBeginningOf (read_from rules (n + 1) xs).identifiers (read_from rules (length ys + 1) ys).identifiers) (sym (AllZip-length xs ys h)) (part_read rules (length ys + 1) xs ys h)
