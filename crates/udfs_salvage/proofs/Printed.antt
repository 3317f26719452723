-- Text behind text: what is passed on, and what is out where an error comes.
use Rattle.std.proofs.Common.{◌≡◌, sym, ap, subst, ◌∙◌, ℕ, ◌+◌, ◌<◌, List, [], ◌∷◌, ◌++◌, length, take, drop, get_or, append_assoc, append-nil, take-append-drop}
use Rattle.std.specs.Prelude.{Result, Ok, Err}
use Rattle.std.specs.List.{flat_map}
use Rattle.std.proofs.lemmas.List.{take_more}
use Rattle.std.proofs.lemmas.List.Concat.{flat_map-append}
use Rattle.std.specs.Io.KnownBytes.{Appends}
use Rattle.std.proofs.KnownBytes.{Appends-trans}
use Rattle.udfs_reading.specs.Writing.{Passed}
use Rattle.udfs_salvage.specs.Printing.{CountsBy, Stopped, PassesOn, Prints}
use Rattle.udfs_salvage.specs.StorePrinting.{PassesOnBy, leaves_as}
use Rattle.udfs_salvage.specs.declared.errors.PrintError.{PrintError}
use Rattle.udfs_salvage.specs.declared.errors.RunError.{RunError}
use Rattle.udfs_salvage.proofs.Passing.{passed_then}
use Rattle.udfs_reading.specs.Device.{Stream}

-- it stopped in a later text
pub stopped_then : {a b c : Stream} {p q x : List ℕ} (y : List ℕ) {e : RunError} → Passed a b p q x → Stopped b c (q ++ y) e → Stopped a c (p ++ (x ++ y)) e
stopped_then {a} {b} {c} {p} {q} {x} y {e} h g =
    record {
      out = h.out ++ g.out;
      rest = g.rest;
      given = Appends-trans a.contents b.contents c.contents h.out g.out h.given g.given;
      whole = sym (append_assoc p x y) ∙ ap (λ (l : List ℕ). l ++ y) h.whole ∙ append_assoc h.out q y ∙ ap (λ (l : List ℕ). h.out ++ l) g.whole ∙ sym (append_assoc h.out g.out g.rest);
      count = subst (λ (n : ℕ). CountsBy n c.faults e) h.kept g.count;
    }

-- and more was to come
pub stopped_more : {a b : Stream} {x : List ℕ} {e : RunError} (y : List ℕ) → Stopped a b x e → Stopped a b (x ++ y) e
stopped_more {x = x} y h =
    record {
      out = h.out;
      rest = h.rest ++ y;
      given = h.given;
      whole = ap (λ (l : List ℕ). l ++ y) h.whole ∙ append_assoc h.out h.rest y;
      count = h.count;
    }

-- ---- the pieces of a list

pub pieces_more : {A : Type 0} (f : A → List ℕ) (xs : List A) (i : ℕ) (d : A) → i < length xs
    → flat_map f (take i xs) ++ f (get_or xs i d) ≡ flat_map f (take (i + 1) xs)
pieces_more f xs i d l =
    ap (λ (z : List ℕ). flat_map f (take i xs) ++ z) (sym (append-nil (f (get_or xs i d))))
    ∙ sym (flat_map-append f (take i xs) (get_or xs i d ∷ []))
    ∙ ap (flat_map f) (sym (take_more xs i d l))

-- the pieces before one, it, and those behind it
pub pieces_at : {A : Type 0} (f : A → List ℕ) (xs : List A) (i : ℕ) (d : A) → i < length xs
    → flat_map f (take i xs) ++ (f (get_or xs i d) ++ flat_map f (drop (i + 1) xs)) ≡ flat_map f xs
pieces_at f xs i d l =
    sym (append_assoc (flat_map f (take i xs)) (f (get_or xs i d)) (flat_map f (drop (i + 1) xs)))
    ∙ ap (λ (l : List ℕ). l ++ flat_map f (drop (i + 1) xs)) (pieces_more f xs i d l)
    ∙ sym (flat_map-append f (take (i + 1) xs) (drop (i + 1) xs))
    ∙ ap (flat_map f) (take-append-drop (i + 1) xs)

-- one more piece was passed on
pub passed_piece : {A : Type 0} {a b c : Stream} {p q r : List ℕ} (f : A → List ℕ) (xs : List A) (n : ℕ) (d : A) → n < length xs
    → Passed a b p q (flat_map f (take n xs)) → Passed b c q r (f (get_or xs n d)) → Passed a c p r (flat_map f (take (n + 1) xs))
passed_piece {a = a} {c = c} {p = p} {r = r} f xs n d l h g = subst (Passed a c p r) (pieces_more f xs n d l) (passed_then h g)

-- it stopped in a piece
pub stopped_piece : {A : Type 0} {a b c : Stream} {p q : List ℕ} {e : RunError} (f : A → List ℕ) (xs : List A) (n : ℕ) (d : A) → n < length xs
    → Passed a b p q (flat_map f (take n xs)) → Stopped b c (q ++ f (get_or xs n d)) e → Stopped a c (p ++ flat_map f xs) e
stopped_piece {a = a} {b = b} {c = c} {p = p} {q = q} {e = e} f xs n d l h g =
    subst (λ (t : List ℕ). Stopped a c (p ++ t) e) (pieces_at f xs n d l)
    (stopped_then (f (get_or xs n d) ++ flat_map f (drop (n + 1) xs)) h (subst (λ (t : List ℕ). Stopped b c t e) (append_assoc q (f (get_or xs n d)) (flat_map f (drop (n + 1) xs))) (stopped_more (flat_map f (drop (n + 1) xs)) g)))

-- the same of a piece that has a name
pub passed_item : {A : Type 0} {a b c : Stream} {p q r : List ℕ} (f : A → List ℕ) (xs : List A) (n : ℕ) (x : A) → n < length xs → x ≡ get_or xs n x
    → Passed a b p q (flat_map f (take n xs)) → Passed b c q r (f x) → Passed a c p r (flat_map f (take (n + 1) xs))
passed_item {b = b} {c = c} {q = q} {r = r} f xs n x l is h g = passed_piece f xs n x l h (subst (λ z. Passed b c q r (f z)) is g)

pub stopped_item : {A : Type 0} {a b c : Stream} {p q : List ℕ} {e : RunError} (f : A → List ℕ) (xs : List A) (n : ℕ) (x : A) → n < length xs → x ≡ get_or xs n x
    → Passed a b p q (flat_map f (take n xs)) → Stopped b c (q ++ f x) e → Stopped a c (p ++ flat_map f xs) e
stopped_item {b = b} {c = c} {q = q} {e = e} f xs n x l is h g = stopped_piece f xs n x l h (subst (λ z. Stopped b c (q ++ f z) e) is g)

-- ---- a report

-- one text behind another, whether or not it was passed on whole
pub passes_then : {X : Type 0} {a b : Stream} {p q x : List ℕ} (c : Stream) (s y : List ℕ) (r : Result X RunError)
    → Passed a b p q x → PassesOn b c q s y r → PassesOn a c p s (x ++ y) r
passes_then c s y (Ok u) h g = passed_then h g
passes_then c s y (Err e) h g = stopped_then y h g

-- it stopped before more
pub stopped_before : {a b : Stream} {e : RunError} (p x y : List ℕ) → Stopped a b (p ++ x) e → Stopped a b (p ++ (x ++ y)) e
stopped_before {a = a} {b = b} {e = e} p x y h = subst (λ (t : List ℕ). Stopped a b t e) (append_assoc p x y) (stopped_more y h)

-- what is held at the end is printed
pub prints_then : {X : Type 0} {a b : Stream} {p q x : List ℕ} (c : Stream) (r : Result X RunError) → p ≡ []
    → Passed a b p q x → Prints b c q r → Prints a c x r
prints_then {a = a} {b = b} {q = q} {x = x} c (Ok u) none h g =
    let whole : x ≡ h.out ++ q = sym (ap (λ (l : List ℕ). l ++ x) none) ∙ h.whole in
    record { given = subst (Appends a.contents c.contents) (sym whole) (Appends-trans a.contents b.contents c.contents h.out q h.given g.given); kept = g.kept ∙ h.kept }
prints_then {a = a} {b = b} {q = q} {x = x} c (Err e) none h g =
    record {
      out = h.out ++ g.out;
      rest = g.rest;
      given = Appends-trans a.contents b.contents c.contents h.out g.out h.given g.given;
      whole = sym (ap (λ (l : List ℕ). l ++ x) none) ∙ h.whole ∙ ap (λ (l : List ℕ). h.out ++ l) g.whole ∙ sym (append_assoc h.out g.out g.rest);
      count = subst (λ (n : ℕ). CountsBy n c.faults e) h.kept g.count;
    }

-- and an error before that leaves the same out
pub stopped_first : {a b : Stream} {e : RunError} (p x : List ℕ) → p ≡ [] → Stopped a b (p ++ x) e → Stopped a b x e
stopped_first {a = a} {b = b} {e = e} p x none h = subst (λ (t : List ℕ). Stopped a b (t ++ x) e) none h

-- ---- two and three texts that make one

-- it stopped in the first
pub stopped_first_of : {a b : Stream} {e : RunError} (p x rest whole : List ℕ) → x ++ rest ≡ whole → Stopped a b (p ++ x) e → Stopped a b (p ++ whole) e
stopped_first_of {a = a} {b = b} {e = e} p x rest whole is h = subst (λ (t : List ℕ). Stopped a b (p ++ t) e) is (stopped_before p x rest h)

-- it stopped in the second
pub stopped_second_of : {a b c : Stream} {p q : List ℕ} {e : RunError} (x y rest whole : List ℕ) → x ++ (y ++ rest) ≡ whole → Passed a b p q x → Stopped b c (q ++ y) e → Stopped a c (p ++ whole) e
stopped_second_of {a = a} {c = c} {p = p} {q = q} {e = e} x y rest whole is h g =
    subst (λ (t : List ℕ). Stopped a c (p ++ t) e) is (stopped_then (y ++ rest) h (stopped_before q y rest g))

-- the last of two
pub passes_two : {X : Type 0} {a b : Stream} {p q : List ℕ} (c : Stream) (s x y whole : List ℕ) (r : Result X RunError) → x ++ y ≡ whole → Passed a b p q x → PassesOn b c q s y r → PassesOn a c p s whole r
passes_two {a = a} {p = p} c s x y whole r is h g = subst (λ (t : List ℕ). PassesOn a c p s t r) is (passes_then c s y r h g)

-- the last of three
pub passes_three : {X : Type 0} {a b c : Stream} {p q s : List ℕ} (d : Stream) (u x y z whole : List ℕ) (r : Result X RunError) → x ++ (y ++ z) ≡ whole
    → Passed a b p q x → Passed b c q s y → PassesOn c d s u z r → PassesOn a d p u whole r
passes_three d u x y z whole r is h g f = passes_two d u x (y ++ z) whole r is h (passes_then d u z r g f)

-- the same text in other words
pub passes_same : {X : Type 0} (a b : Stream) (p q x y : List ℕ) (r : Result X RunError) → x ≡ y → PassesOn a b p q x r → PassesOn a b p q y r
passes_same a b p q x y r is h = subst (λ (t : List ℕ). PassesOn a b p q t r) is h

-- it stopped in the same text in other words
pub stopped_same : {a b : Stream} {e : RunError} (p x y : List ℕ) → x ≡ y → Stopped a b (p ++ x) e → Stopped a b (p ++ y) e
stopped_same {a = a} {b = b} {e = e} p x y is h = subst (λ (t : List ℕ). Stopped a b (p ++ t) e) is h

-- it stopped in the third
pub stopped_third_of : {a b c d : Stream} {p q s : List ℕ} {e : RunError} (x y z whole : List ℕ) → x ++ (y ++ z) ≡ whole → Passed a b p q x → Passed b c q s y → Stopped c d (s ++ z) e → Stopped a d (p ++ whole) e
stopped_third_of {a = a} {d = d} {p = p} {e = e} x y z whole is h g f = subst (λ (t : List ℕ). Stopped a d (p ++ t) e) is (stopped_then (y ++ z) h (stopped_then z g f))

-- three texts were passed on
pub passed_three : {a b c d : Stream} {p q s u : List ℕ} (x y z whole : List ℕ) → x ++ (y ++ z) ≡ whole → Passed a b p q x → Passed b c q s y → Passed c d s u z → Passed a d p u whole
passed_three {a = a} {d = d} {p = p} {u = u} x y z whole is h g f = subst (Passed a d p u) is (passed_then h (passed_then g f))

-- ---- the same where a read may fail

-- the last of two
pub passes_two_by : {X : Type 0} {a b : Stream} {p q : List ℕ} (c : Stream) (s x y whole : List ℕ) (r : Result X PrintError) → x ++ y ≡ whole → Passed a b p q x → PassesOnBy b c q s y r → PassesOnBy a c p s whole r
passes_two_by c s x y whole (Ok u) is h g = passes_two {X = ℕ} c s x y whole (Ok 0) is h g
passes_two_by c s x y whole (Err e) is h g = passes_two {X = ℕ} c s x y whole (Err (leaves_as e)) is h g

-- the last of three
pub passes_three_by : {X : Type 0} {a b c : Stream} {p q s : List ℕ} (d : Stream) (u x y z whole : List ℕ) (r : Result X PrintError) → x ++ (y ++ z) ≡ whole
    → Passed a b p q x → Passed b c q s y → PassesOnBy c d s u z r → PassesOnBy a d p u whole r
passes_three_by d u x y z whole (Ok v) is h g f = passes_three {X = ℕ} d u x y z whole (Ok 0) is h g f
passes_three_by d u x y z whole (Err e) is h g f = passes_three {X = ℕ} d u x y z whole (Err (leaves_as e)) is h g f

-- the same text in other words
pub passes_same_by : {X : Type 0} (a b : Stream) (p q x y : List ℕ) (r : Result X PrintError) → x ≡ y → PassesOnBy a b p q x r → PassesOnBy a b p q y r
passes_same_by a b p q x y r is h = subst (λ (t : List ℕ). PassesOnBy a b p q t r) is h
