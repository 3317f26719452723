-- Text that is put piece after piece.
use Rattle.std.proofs.Common.{◌≡◌, sym, ap, subst, refl, ◌∙◌, ℕ, ◌+◌, ◌<◌, List, [], ◌∷◌, ◌++◌, length, take, get_or, append-nil, Option, Some, None}
use Rattle.std.specs.Prelude.{Result, Ok, Err}
use Rattle.std.specs.List.{flat_map}
use Rattle.std.proofs.lemmas.List.{take_more}
use Rattle.std.proofs.lemmas.List.Concat.{flat_map-append}
use Rattle.std.proofs.KnownBytes.{Appends-trans}
use Rattle.udfs_reading.specs.Writing.{Passed, FailedPast, Wrote, Failed, Writes}
use Rattle.udfs_reading.proofs.PublicLaws as reading
use Rattle.udfs_reading.specs.Puts.{Finishes, LeftAlone, Puts, PutsBy}
use Rattle.udfs_reading.specs.Device.{Stream}

by_none : (a : Stream) (p : Option (List ℕ)) → PutsBy a a p p []
by_none a (Some p) = reading.passed_none a p
by_none a None = record { same = refl }

pub puts_none : (a : Stream) (p : Option (List ℕ)) → Puts a a p p []
puts_none a p = record { by = by_none a p }

-- the sink failed, and was left alone
failed_still : {a b c : Stream} {p x : List ℕ} (y : List ℕ) → FailedPast a b p x → LeftAlone b c → FailedPast a c p (x ++ y)
failed_still {a} {b} {c} {p} {x} y h g =
    let f = reading.failed_more a b p x y h in
    subst (λ z. FailedPast a z p (x ++ y)) (sym g.same) f

by_then : (a b c : Stream) (p q r : Option (List ℕ)) (x y : List ℕ) → PutsBy a b p q x → PutsBy b c q r y → PutsBy a c p r (x ++ y)
by_then a b c (Some p) (Some q) (Some r) x y h g = reading.passed_then a b c p q r x y h g
by_then a b c (Some p) (Some q) None x y h g = reading.failed_then a b c p q x y h g
by_then a b c (Some p) None None x y h g = failed_still y h g
by_then a b c (Some p) None (Some r) x y h g = absurd g
by_then a b c None (Some q) r x y h g = absurd h
by_then a b c None None (Some r) x y h g = absurd g
by_then a b c None None None x y h g = record { same = g.same ∙ h.same }

pub puts_then : (a b c : Stream) (p q r : Option (List ℕ)) (x y : List ℕ) → Puts a b p q x → Puts b c q r y → Puts a c p r (x ++ y)
puts_then a b c p q r x y h g = record { by = by_then a b c p q r x y h.by g.by }

-- all that was put behind nothing was written
wrote_all : {a b c : Stream} {q x : List ℕ} → Passed a b [] q x → Wrote b c q → Wrote a c x
wrote_all {a} {b} {c} {q} {x} h g =
    subst (Wrote a c) (sym h.whole) (record { given = Appends-trans a.contents b.contents c.contents h.out q h.given g.given; kept = g.kept ∙ h.kept })

by_all : {X E : Type 0} (a b c : Stream) (q : Option (List ℕ)) (x : List ℕ) (r : Result X E) → PutsBy a b (Some []) q x → Finishes b c q r → Writes a c x r
by_all a b c (Some q) x (Ok u) h g = wrote_all h g
by_all a b c (Some q) x (Err e) h g = reading.failed_last a b c q x h g
by_all a b c None x (Ok u) h g = absurd g
by_all a b c None x (Err e) h g =
    subst (λ z. Failed a z x) (sym g.same) (record { out = h.out; rest = h.rest; given = h.given; whole = h.whole; moved = h.moved })

pub puts_all : {X E : Type 0} (a b c : Stream) (q : Option (List ℕ)) (x : List ℕ) (r : Result X E) → Puts a b (Some []) q x → Finishes b c q r → Writes a c x r
puts_all a b c q x r h g = by_all a b c q x r h.by g

-- ---- a text of several

-- the same text in other words
pub puts_as : {a b : Stream} {p q : Option (List ℕ)} {x y : List ℕ} → x ≡ y → Puts a b p q x → Puts a b p q y
puts_as {a} {b} {p} {q} e h = subst (Puts a b p q) e h

pub puts_two : {a b c : Stream} {p q r : Option (List ℕ)} {x y whole : List ℕ} → Puts a b p q x → Puts b c q r y → x ++ y ≡ whole → Puts a c p r whole
puts_two {a} {b} {c} {p} {q} {r} {x} {y} h g e = puts_as e (puts_then a b c p q r x y h g)

pub puts_three : {a b c d : Stream} {p q r s : Option (List ℕ)} {x y z whole : List ℕ}
    → Puts a b p q x → Puts b c q r y → Puts c d r s z → x ++ (y ++ z) ≡ whole → Puts a d p s whole
puts_three h g f e = puts_two h (puts_two g f refl) e

pub puts_four : {a b c d e : Stream} {p q r s t : Option (List ℕ)} {x y z u whole : List ℕ}
    → Puts a b p q x → Puts b c q r y → Puts c d r s z → Puts d e s t u → x ++ (y ++ (z ++ u)) ≡ whole → Puts a e p t whole
puts_four h g f e is = puts_two h (puts_three g f e refl) is

pub puts_five : {a b c d e f : Stream} {p q r s t o : Option (List ℕ)} {x y z u v whole : List ℕ}
    → Puts a b p q x → Puts b c q r y → Puts c d r s z → Puts d e s t u → Puts e f t o v → x ++ (y ++ (z ++ (u ++ v))) ≡ whole → Puts a f p o whole
puts_five h g f e d is = puts_two h (puts_four g f e d refl) is

-- ---- the texts of a list's items

pieces_more : {A : Type 0} (f : A → List ℕ) (xs : List A) (n : ℕ) (d : A) → n < length xs → flat_map f (take n xs) ++ f (get_or xs n d) ≡ flat_map f (take (n + 1) xs)
pieces_more f xs n d l =
    ap (λ (z : List ℕ). flat_map f (take n xs) ++ z) (sym (append-nil (f (get_or xs n d))))
    ∙ sym (flat_map-append f (take n xs) (get_or xs n d ∷ []))
    ∙ ap (flat_map f) (sym (take_more xs n d l))

-- one more text was put
pub puts_piece : {A : Type 0} {a b c : Stream} {p q r : Option (List ℕ)} (f : A → List ℕ) (xs : List A) (n : ℕ) (d : A) → n < length xs
    → Puts a b p q (flat_map f (take n xs)) → Puts b c q r (f (get_or xs n d)) → Puts a c p r (flat_map f (take (n + 1) xs))
puts_piece f xs n d l h g = puts_two h g (pieces_more f xs n d l)
