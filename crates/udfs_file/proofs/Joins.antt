-- The standard reads one body at most: of two lists of continuations the longer one goes on where the shorter ends.
use Rattle.std.proofs.Common.{◌≡◌, refl, sym, ◌∙◌, ap, subst, inl, inr, ◌⊎◌, ℕ, ◌≤◌, Bool, true, false, List, [], ◌∷◌, ◌++◌, length, take, cond, Some, nat_eq, nat_lt}
use Rattle.std.specs.Prelude.{take_while, flat_map}
use Rattle.std.proofs.lemmas.List.{append_assoc, append-nil, take-append-le}
use Rattle.std.proofs.lemmas.List.Sums.{take_while-cons}
use Rattle.udfs_volume.specs.Sequence.{Bytes}
use Rattle.udfs_tag.specs.declared.layouts.LongAd.{LongAd}
use Rattle.udfs_tag.specs.Fields.{part, uint32_at}
use Rattle.udfs_volume.specs.Profiles.{takes_tail}
use Rattle.udfs_file.specs.Entries.{EntryFields}
use Rattle.udfs_file.specs.Laws.{IsBeginningOf}
use Rattle.udfs_file.specs.Standard.{PartitionBlocks, Located, extent_bytes, IsEmbeddedBody}
use Rattle.udfs_file.proofs.CountedBodies.{extents_in, IsJoined, IsExtentsBody, IsBodyOf}

-- one of the two begins the other
abbrev AreAlike : {A : Type 0} → List A → List A → Type 0
AreAlike xs ys = IsBeginningOf xs ys ⊎ IsBeginningOf ys xs

some_same : {A : Type 0} (x y : A) → Some x ≡ Some y → x ≡ y
some_same x y e = cc

joined_alike : (blocks : PartitionBlocks) (form r : ℕ) (area : Bytes) (f g : List Bytes) (xs ys : List LongAd)
    → IsJoined blocks form r area f xs → IsJoined blocks form r area g ys → AreAlike xs ys
joined_alike blocks form r area [] [] xs ys p q = inl ([], q ∙ sym p ∙ sym (append-nil xs))
joined_alike blocks form r area [] (b ∷ g) xs ys p (d, later, n, o, k, v, j, e) = inl (later, e ∙ ap (λ z. z ++ later) (sym p))
joined_alike blocks form r area (a ∷ f) [] xs ys (d, later, n, o, k, v, j, e) q = inr (later, e ∙ ap (λ z. z ++ later) (sym q))
joined_alike blocks form r area (a ∷ f) (b ∷ g) xs ys (d, later, n, o, k, v, j, e) (d', later', n', o', k', v', j', e') =
    go (joined_alike blocks form r (part a 24 (uint32_at a 20)) f g later later' j (subst (λ z. IsJoined blocks form r (part z 24 (uint32_at z 20)) g later') (sym same) j'))
  where
    at : d ≡ d'
    at = some_same d d' (sym n ∙ n')

    same : a ≡ b
    same = some_same a b (sym k ∙ (λ i. blocks.at (at i).reference (at i).block) ∙ k')

    E : List LongAd
    E = extents_in (takes_tail blocks.profile) form r area

    go : AreAlike later later' → AreAlike xs ys
    go (inl (rest, w)) = inl (rest, e' ∙ ap (λ z. E ++ z) w ∙ sym (append_assoc E later rest) ∙ ap (λ z. z ++ rest) (sym e))
    go (inr (rest, w)) = inr (rest, e ∙ ap (λ z. E ++ z) w ∙ sym (append_assoc E later' rest) ∙ ap (λ z. z ++ rest) (sym e'))

flat_begins : {A B : Type 0} (f : A → List B) (p : A → Bool) (xs rest : List A) → IsBeginningOf (flat_map f (take_while p xs)) (flat_map f (take_while p (xs ++ rest)))
flat_begins f p [] rest = (flat_map f (take_while p rest), refl)
flat_begins {A} {B} f p (x ∷ xs) rest = subst (λ z. IsBeginningOf (flat_map f z) (flat_map f (take_while p (x ∷ xs ++ rest)))) (sym (take_while-cons p x xs))
    (subst (λ z. IsBeginningOf (flat_map f (cond (p x) (x ∷ take_while p xs) [])) (flat_map f z)) (sym (take_while-cons p x (xs ++ rest))) (go (flat_begins f p xs rest) (p x)))
  where
    go : IsBeginningOf (flat_map f (take_while p xs)) (flat_map f (take_while p (xs ++ rest))) → (b : Bool)
        → IsBeginningOf (flat_map f (cond b (x ∷ take_while p xs) [])) (flat_map f (cond b (x ∷ take_while p (xs ++ rest)) []))
    go (r, e) true = (r, ap (λ z. f x ++ z) e ∙ sym (append_assoc (f x) (flat_map f (take_while p xs)) r))
    go ih false = ([], refl)

abbrev bytes_of : PartitionBlocks → List LongAd → List Located
bytes_of blocks xs = flat_map (extent_bytes blocks) (take_while (λ d. nat_lt 0 d.length) xs)

longer : (blocks : PartitionBlocks) (size : ℕ) (xs ys : List LongAd) → IsBeginningOf xs ys → size ≤ length (bytes_of blocks xs)
    → take size (bytes_of blocks ys) ≡ take size (bytes_of blocks xs)
longer blocks size xs ys (rest, w) h = go (flat_begins (extent_bytes blocks) (λ d. nat_lt 0 d.length) xs rest)
  where
    go : IsBeginningOf (bytes_of blocks xs) (bytes_of blocks (xs ++ rest)) → take size (bytes_of blocks ys) ≡ take size (bytes_of blocks xs)
    go (more, e) = ap (λ z. take size (bytes_of blocks z)) w ∙ ap (take size) e ∙ take-append-le size (bytes_of blocks xs) more h

only_extents : (blocks : PartitionBlocks) (r : ℕ) (e : EntryFields) (One two : List Located) → IsExtentsBody blocks r e One → IsExtentsBody blocks r e two → two ≡ One
only_extents blocks r e One two a b = go (joined_alike blocks e.form r e.area a.followed b.followed a.extents b.extents a.joined b.joined)
  where
    first : One ≡ take e.size (bytes_of blocks a.extents)
    first = a.is ∙ ap (take e.size) a.together

    second : two ≡ take e.size (bytes_of blocks b.extents)
    second = b.is ∙ ap (take e.size) b.together

    go : AreAlike a.extents b.extents → two ≡ One
    go (inl h) = second ∙ longer blocks e.size a.extents b.extents h (subst (λ z. e.size ≤ length z) a.together a.enough) ∙ sym first
    go (inr h) = second ∙ sym (longer blocks e.size b.extents a.extents h (subst (λ z. e.size ≤ length z) b.together b.enough)) ∙ sym first

pub only_body : (blocks : PartitionBlocks) (r b : ℕ) (e : EntryFields) (One two : List Located) → IsBodyOf blocks r b e One → IsBodyOf blocks r b e two → two ≡ One
only_body blocks r b e One two = go (nat_eq e.form 3)
  where
    go : (x : Bool) → cond x (IsEmbeddedBody b e One) (IsExtentsBody blocks r e One) → cond x (IsEmbeddedBody b e two) (IsExtentsBody blocks r e two) → two ≡ One
    go true p q = q.is ∙ sym p.is
    go false p q = only_extents blocks r e One two p q
