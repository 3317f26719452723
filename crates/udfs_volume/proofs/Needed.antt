-- What the layout needs of a position: of descriptors other than those of partitions and logical volumes the identifier alone.
use Rattle.std.proofs.Common.{◌≡◌, refl, sym, ◌∙◌, ap, ℕ, Bool, true, false, List, [], ◌∷◌, map, cond, ◌||◌, nat_eq}
use Rattle.udfs_volume.specs.Sequence.{Bytes, Descriptor, Position, unread, invalid, descriptor, goes_on}
use Rattle.udfs_volume.specs.Layout.{with_identifier}
use Rattle.udfs_volume.specs.Laws.{is_of_layout}

-- a descriptor, without its content where no layout is read from it
abbrev pub needed_of : Descriptor → Descriptor
needed_of d = cond (is_of_layout d.identifier) d (record { identifier = d.identifier; content = [] })

abbrev pub needed : Position → Position
needed (unread copies) = unread copies
needed invalid = invalid
needed (descriptor d) = descriptor (needed_of d)

-- the content of another descriptor counts for nothing
pub needed_else : (id : ℕ) (a b : Bytes) → is_of_layout id ≡ false → needed (descriptor (record { identifier = id; content = a })) ≡ needed (descriptor (record { identifier = id; content = b }))
needed_else id a b e = ap (λ c. descriptor (cond c (record { identifier = id; content = a }) (record { identifier = id; content = [] }))) e
    ∙ sym (ap (λ c. descriptor (cond c (record { identifier = id; content = b }) (record { identifier = id; content = [] }))) e)

pub same_identifier : (d : Descriptor) → (needed_of d).identifier ≡ d.identifier
same_identifier d = go (is_of_layout d.identifier)
  where
    go : (b : Bool) → (cond b d (record { identifier = d.identifier; content = [] })).identifier ≡ d.identifier
    go true = refl
    go false = refl

pub goes_needed : (p : Position) → goes_on (needed p) ≡ goes_on p
goes_needed (unread copies) = refl
goes_needed invalid = refl
goes_needed (descriptor d) = ap (λ n. goes_on (descriptor (record { identifier = n; content = [] }))) (same_identifier d)

-- descriptors of partitions, and of logical volumes, stay as they are
only : (id : ℕ) → ((n : ℕ) → nat_eq n id ≡ true → is_of_layout n ≡ true) → (ds : List Descriptor) → with_identifier id (map needed_of ds) ≡ with_identifier id ds
only id read [] = refl
only id read (d ∷ ds) = ap (λ n. cond (nat_eq n id) (needed_of d ∷ with_identifier id (map needed_of ds)) (with_identifier id (map needed_of ds))) (same_identifier d)
    ∙ go (nat_eq d.identifier id) refl (only id read ds)
  where
    go : (b : Bool) → nat_eq d.identifier id ≡ b → with_identifier id (map needed_of ds) ≡ with_identifier id ds
        → cond b (needed_of d ∷ with_identifier id (map needed_of ds)) (with_identifier id (map needed_of ds)) ≡ cond b (d ∷ with_identifier id ds) (with_identifier id ds)
    go true q e = λ i. ap (λ c. cond c d (record { identifier = d.identifier; content = [] })) (read d.identifier q) i ∷ e i
    go false q e = e

pub partitions_needed : (ds : List Descriptor) → with_identifier 5 (map needed_of ds) ≡ with_identifier 5 ds
partitions_needed = only 5 (λ n e. ap (λ b. b || nat_eq n 6) e)

pub volumes_needed : (ds : List Descriptor) → with_identifier 6 (map needed_of ds) ≡ with_identifier 6 ds
volumes_needed = only 6 (λ n e. or_true (nat_eq n 5) (nat_eq n 6) e)
  where
    or_true : (a b : Bool) → b ≡ true → (a || b) ≡ true
    or_true true b e = refl
    or_true false b e = e
