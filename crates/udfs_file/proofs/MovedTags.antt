-- The wide rules read what the strict ones read of a directory, and go on where a tag names another place.
use Rattle.std.proofs.Common.{◌≡◌, refl, sym, ◌∙◌, ap, subst, ℕ, ◌+◌, Bool, true, false, List, [], ◌∷◌, length, take, drop, map, cond, ◌||◌, Option, Some, None, nat_lt, arith}
use Rattle.std.specs.Prelude.{zero, suc}
use Rattle.udfs_tag.specs.Tags.{is_valid}
use Rattle.udfs_volume.specs.declared.profiles.Profile.{Profile}
use Rattle.udfs_volume.specs.declared.profiles.Profile.TheVariants.{Strict, Wide}
use Rattle.udfs_file.specs.Fronts.{DirectoryText, checked_by, checked_identifier, directory_by, fault_in, first_missing, has_moved_tags, holder_of, identifier_in, identifier_size, or_stop, read_from, read_on, sized_by, step_by, value}
use Rattle.udfs_file.specs.Identifiers.{Identifier, Rest, Nothing, Stopped, Wrong, Step, AtRest, One}
use Rattle.udfs_file.specs.Steps.{IsDescriptor, IsNext, StepsTo, bytes_of, is_id}
use Rattle.udfs_file.specs.declared.cursors.Step as cursor
use Rattle.udfs_file.specs.declared.cursors.Step.TheVariants.{Id, Stop, Fault, End}
use Rattle.udfs_file.specs.Laws.{IsBeginningOf, WideTakesTags}
use Rattle.udfs_file.specs.declared.cells.Cell.{Cell}
use Rattle.udfs_file.specs.declared.faults.NodeFault.TheVariants.{Cut, IdentifierTag}
use Rattle.udfs_file.proofs.Reached.{no_stop}
use Rattle.udfs_file.proofs.Readings.{no_end}
use Rattle.udfs_file.proofs.StandardDirectories.{names_place}

-- a valid tag names the block that holds its first byte
checked_kept : (o : Option ℕ) (bytes : List ℕ) (id : Identifier) → checked_by Strict o bytes ≡ One id → checked_by Wide o bytes ≡ One id
checked_kept None bytes id e = absurd (let z : ⊥ = cc in z)
checked_kept (Some b) bytes id e = ap (λ z. checked_identifier (Some z) bytes) (names_place bytes b 257 (valid (is_valid bytes b 257) e)) ∙ e
  where
    valid : (x : Bool) → cond x (identifier_in (length bytes) bytes) (AtRest (Wrong IdentifierTag)) ≡ One id → x ≡ true
    valid true q = refl
    valid false q = absurd (let z : ⊥ = cc in z)

through : (b : Bool) (r : Rest) (s t x : Step) → (s ≡ x → t ≡ x) → cond b (AtRest r) s ≡ x → cond b (AtRest r) t ≡ x
through true r s t x h e = e
through false r s t x h e = h e

past : (o : Option ℕ) (s t x : Step) → (s ≡ x → t ≡ x) → or_stop o s ≡ x → or_stop o t ≡ x
past None s t x h e = h e
past (Some n) s t x h e = e

-- what both rules say of a checked descriptor they say of a step
kept_of : (x : Step) → ((o : Option ℕ) (bytes : List ℕ) → checked_by Strict o bytes ≡ x → checked_by Wide o bytes ≡ x) → (cs : List Cell) → step_by Strict cs ≡ x → step_by Wide cs ≡ x
unfolding step_by
kept_of x h [] e = e
kept_of x h (c ∷ cs) e = through (nat_lt (length all) 38) (Wrong Cut) (or_stop (first_missing (take 38 all)) (sized_by Strict all size)) (or_stop (first_missing (take 38 all)) (sized_by Wide all size)) x
    (past (first_missing (take 38 all)) (sized_by Strict all size) (sized_by Wide all size) x
    (through (nat_lt 2048 size || nat_lt (length all) size) (Wrong Cut) (or_stop (first_missing (take size all)) (checked_by Strict (holder_of all) bytes)) (or_stop (first_missing (take size all)) (checked_by Wide (holder_of all) bytes)) x
    (past (first_missing (take size all)) (checked_by Strict (holder_of all) bytes) (checked_by Wide (holder_of all) bytes) x (h (holder_of all) bytes)))) e
  where
    all : List Cell
    all = c ∷ cs

    size : ℕ
    size = identifier_size (map value (take 38 all))

    bytes : List ℕ
    bytes = map value (take size all)

-- a descriptor that is read by the strict rules is read by the wide ones, and so are a missing block and the end
pub step_kept : (cs : List Cell) (id : Identifier) → step_by Strict cs ≡ One id → step_by Wide cs ≡ One id
step_kept cs id e = kept_of (One id) (λ o bytes q. checked_kept o bytes id q) cs e

stop_kept : (cs : List Cell) (n : ℕ) → step_by Strict cs ≡ AtRest (Stopped n) → step_by Wide cs ≡ AtRest (Stopped n)
stop_kept cs n e = kept_of (AtRest (Stopped n)) (λ o bytes q. no_stop Strict n o bytes q) cs e

end_kept : (cs : List Cell) → step_by Strict cs ≡ AtRest Nothing → step_by Wide cs ≡ AtRest Nothing
unfolding step_by
end_kept [] e = refl
end_kept (c ∷ cs) e = absurd (no_end Strict c cs e)

rest_kept : (cs : List Cell) (r : Rest) → fault_in r ≡ None → step_by Strict cs ≡ AtRest r → step_by Wide cs ≡ AtRest r
rest_kept cs Nothing f e = end_kept cs e
rest_kept cs (Stopped n) f e = stop_kept cs n e
rest_kept cs (Wrong fault) f e = absurd (let z : ⊥ = cc in z)

read_kept : (n : ℕ) (cs : List Cell) → fault_in (read_from Strict n cs).rest ≡ None → read_from Wide n cs ≡ read_from Strict n cs
read_kept zero cs e = refl
read_kept (suc n) cs e = go (λ size. read_kept n (drop size cs)) (step_by Strict cs) refl e
  where
    later : (size : ℕ) → DirectoryText
    later size = read_from Strict n (drop size cs)

    wider : (size : ℕ) → DirectoryText
    wider size = read_from Wide n (drop size cs)

    go : ((size : ℕ) → fault_in (later size).rest ≡ None → wider size ≡ later size) → (s : Step) → step_by Strict cs ≡ s → fault_in (read_on (step_by Strict cs) later).rest ≡ None
        → read_on (step_by Wide cs) wider ≡ read_on (step_by Strict cs) later
    go ih (AtRest r) s q = ap (λ t. read_on t wider) (rest_kept cs r (sym (ap (λ t. fault_in (read_on t later).rest) s) ∙ q) s) ∙ ap (λ t. read_on t later) (sym s)
    go ih (One id) s q = ap (λ t. read_on t wider) (step_kept cs id s)
        ∙ ap (λ (t : DirectoryText). record { identifiers = id ∷ t.identifiers; rest = t.rest }) (ih id.size (sym (ap (λ t. fault_in (read_on t later).rest) s) ∙ q))
        ∙ ap (λ t. read_on t later) (sym s)

begins : (n : ℕ) (cs : List Cell) → IsBeginningOf (read_from Strict n cs).identifiers (read_from Wide n cs).identifiers
begins zero cs = ([], refl)
begins (suc n) cs = go (λ size. begins n (drop size cs)) (step_by Strict cs) refl
  where
    later : (size : ℕ) → DirectoryText
    later size = read_from Strict n (drop size cs)

    wider : (size : ℕ) → DirectoryText
    wider size = read_from Wide n (drop size cs)

    go : ((size : ℕ) → IsBeginningOf (later size).identifiers (wider size).identifiers) → (s : Step) → step_by Strict cs ≡ s
        → IsBeginningOf (read_on (step_by Strict cs) later).identifiers (read_on (step_by Wide cs) wider).identifiers
    go ih (AtRest r) s = subst (λ t. IsBeginningOf (read_on t later).identifiers (read_on (step_by Wide cs) wider).identifiers) (sym s) ((read_on (step_by Wide cs) wider).identifiers, refl)
    go ih (One id) s = subst (λ t. IsBeginningOf (read_on t later).identifiers (read_on (step_by Wide cs) wider).identifiers) (sym s)
        (subst (λ t. IsBeginningOf (id ∷ (later id.size).identifiers) (read_on t wider).identifiers) (sym (step_kept cs id s))
        ((ih id.size).0, ap (λ ids. id ∷ ids) (ih id.size).1))

pub wide_takes_tags : WideTakesTags
unfolding directory_by
wide_takes_tags cs = record { same = read_kept (length cs + 1) cs; beginning = begins (length cs + 1) cs }

-- ---- both ways of reading side by side
none_left : (d after : DirectoryText) (told : cursor.Step) → StepsTo d told after → is_id told ≡ false → d.identifiers ≡ []
none_left d after (Id view) s e = absurd (let z : ⊥ = cc in z)
none_left d after (Stop n) s e = s.0
none_left d after (Fault fault) s e = s.0
none_left d after End s e = s.0

one_left : (d after : DirectoryText) (told : cursor.Step) → StepsTo d told after → is_id told ≡ true → (id : Identifier) × (d.identifiers ≡ id ∷ after.identifiers)
one_left d after (Id view) s e = (s.0, s.2)
one_left d after (Stop n) s e = absurd (let z : ⊥ = cc in z)
one_left d after (Fault fault) s e = absurd (let z : ⊥ = cc in z)
one_left d after End s e = absurd (let z : ⊥ = cc in z)

not_below : (n : ℕ) → nat_lt n 0 ≡ false
not_below n = grind arith

above : (n : ℕ) → nat_lt 0 (suc n) ≡ true
above n = grind arith

one_less : (a b : ℕ) → nat_lt (suc a) (suc b) ≡ nat_lt a b
one_less a b = grind arith

-- the cells that both cursors have left are the same, and have tags of another place exactly if all cells have
pub record GoTogether (cells wide strict : List Cell) : Type 0 where
  pub same : strict ≡ wide
  pub moved : has_moved_tags wide ≡ has_moved_tags cells

pub together : (cells wide strict : List Cell) → wide ≡ cells → strict ≡ cells → GoTogether cells wide strict
together cells wide strict w s = record { same = s ∙ sym w; moved = ap has_moved_tags w }

-- no descriptor is left
pub none_moved : (cells wide strict : List Cell) (after : DirectoryText) (told : cursor.Step) → GoTogether cells wide strict → StepsTo (directory_by Wide wide) told after → is_id told ≡ false
    → false ≡ has_moved_tags cells
none_moved cells wide strict after told g s e = sym (not_below (length (directory_by Strict wide).identifiers))
    ∙ ap (λ (ids : List Identifier). nat_lt (length (directory_by Strict wide).identifiers) (length ids)) (sym (none_left (directory_by Wide wide) after told s e)) ∙ g.moved

-- one is left by the wide rules alone
pub some_moved : (cells wide strict : List Cell) (after behind : DirectoryText) (told other : cursor.Step) → GoTogether cells wide strict → StepsTo (directory_by Wide wide) told after → is_id told ≡ true
    → StepsTo (directory_by Strict strict) other behind → is_id other ≡ false → true ≡ has_moved_tags cells
some_moved cells wide strict after behind told other g s e t f = sym (above (length after.identifiers))
    ∙ (λ i. nat_lt (length (sym none i)) (length (sym (one_left (directory_by Wide wide) after told s e).1 i))) ∙ g.moved
  where
    none : (directory_by Strict wide).identifiers ≡ []
    none = ap (λ cs. (directory_by Strict cs).identifiers) (sym g.same) ∙ none_left (directory_by Strict strict) behind other t f

-- the descriptor that both read
told_id : (rules : Profile) (before after : List Cell) (told : cursor.Step) → IsNext rules before told after → is_id told ≡ true
    → (id : Identifier) × (step_by rules before ≡ One id) × (after ≡ drop id.size before)
told_id rules before after (Id view) n e = let d : IsDescriptor (bytes_of view) n.is.0 = n.is.1 in (n.is.0, n.is.2, n.behind ∙ ap (λ k. drop k before) (sym d.size))
told_id rules before after (Stop n) i e = absurd (let z : ⊥ = cc in z)
told_id rules before after (Fault fault) i e = absurd (let z : ⊥ = cc in z)
told_id rules before after End i e = absurd (let z : ⊥ = cc in z)

pub both_go : (cells wide strict after behind : List Cell) (told other : cursor.Step) → GoTogether cells wide strict
    → IsNext Wide wide told after → StepsTo (directory_by Wide wide) told (directory_by Wide after) → is_id told ≡ true
    → IsNext Strict strict other behind → StepsTo (directory_by Strict strict) other (directory_by Strict behind) → is_id other ≡ true
    → GoTogether cells after behind
both_go cells wide strict after behind told other g n s e m t f = record { same = same; moved = moved }
  where
    x : (id : Identifier) × (step_by Wide wide ≡ One id) × (after ≡ drop id.size wide)
    x = told_id Wide wide after told n e

    y : (id : Identifier) × (step_by Strict strict ≡ One id) × (behind ≡ drop id.size strict)
    y = told_id Strict strict behind other m f

    ones : One y.0 ≡ One x.0
    ones = sym (step_kept strict y.0 y.1) ∙ ap (step_by Wide) g.same ∙ x.1

    sizes : y.0.size ≡ x.0.size
    sizes = let q : One y.0 ≡ One x.0 = ones in ap (λ (i : Identifier). i.size) (let z : y.0 ≡ x.0 = cc in z)

    same : behind ≡ after
    same = y.2 ∙ (λ i. drop (sizes i) (g.same i)) ∙ sym x.2

    longer : length (directory_by Wide wide).identifiers ≡ suc (length (directory_by Wide after).identifiers)
    longer = ap length (one_left (directory_by Wide wide) (directory_by Wide after) told s e).1

    strictly : length (directory_by Strict wide).identifiers ≡ suc (length (directory_by Strict after).identifiers)
    strictly = ap (λ cs. length (directory_by Strict cs).identifiers) (sym g.same) ∙ ap length (one_left (directory_by Strict strict) (directory_by Strict behind) other t f).1
        ∙ ap (λ cs. suc (length (directory_by Strict cs).identifiers)) same

    moved : has_moved_tags after ≡ has_moved_tags cells
    moved = sym (one_less (length (directory_by Strict after).identifiers) (length (directory_by Wide after).identifiers)) ∙ (λ i. nat_lt (sym strictly i) (sym longer i)) ∙ g.moved
