-- Texts of the elements of a list, one behind the other.
use Rattle.std.proofs.Common.{◌≡◌, ◌∙◌, ap, sym, subst, ℕ, zero, suc, ◌+◌, ◌<◌, List, [], ◌∷◌, ◌++◌, length, take, get_or, append_assoc, append-nil, arith}
use Rattle.std.specs.Prelude.{Result, OnOk}
use Rattle.std.specs.List.{flat_map, range_with_len}
use Rattle.std.proofs.lemmas.List.{take_more}
use Rattle.std.proofs.lemmas.List.Concat.{flat_map-append}

-- the texts of a list's elements, with one more
pub text_more : {A : Type 0} (f : A → List ℕ) (xs : List A) (i : ℕ) (x : A) (old middle new : List ℕ) → i < length xs → x ≡ get_or xs i x
    → middle ≡ old ++ flat_map f (take i xs) → new ≡ middle ++ f x → new ≡ old ++ flat_map f (take (i + 1) xs)
text_more f xs i x old middle new l is e h =
    h ∙ ap (λ t. t ++ f x) e ∙ append_assoc old (flat_map f (take i xs)) (f x)
    ∙ ap (λ t. old ++ t)
    (ap (λ y. flat_map f (take i xs) ++ f y) is ∙ ap (λ t. flat_map f (take i xs) ++ t) (sym (append-nil (f (get_or xs i x))))
    ∙ sym (flat_map-append f (take i xs) (get_or xs i x ∷ [])) ∙ ap (flat_map f) (sym (take_more xs i x l)))

-- the texts of numbers, with one more
range_flat : (f : ℕ → List ℕ) (a n : ℕ) → flat_map f (range_with_len a (n + 1)) ≡ flat_map f (range_with_len a n) ++ f (a + n)
range_flat f a zero = append-nil (f a) ∙ ap f (omega arith)
range_flat f a (suc n) =
    let e : suc n + 1 ≡ suc (n + 1) = omega arith in
    ap (λ m. flat_map f (range_with_len a m)) e
    ∙ ap (λ t. f a ++ t) (range_flat f (a + 1) n) ∙ sym (append_assoc (f a) (flat_map f (range_with_len (a + 1) n)) (f (a + 1 + n)))
    ∙ ap (λ m. (f a ++ flat_map f (range_with_len (a + 1) n)) ++ f m) (omega arith)

pub range_text_more : (f : ℕ → List ℕ) (n : ℕ) (old middle new : List ℕ) → middle ≡ old ++ flat_map f (range_with_len 0 n) → new ≡ middle ++ f n
    → new ≡ old ++ flat_map f (range_with_len 0 (n + 1))
range_text_more f n old middle new e h =
    h ∙ ap (λ t. t ++ f n) e ∙ append_assoc old (flat_map f (range_with_len 0 n)) (f n) ∙ ap (λ t. old ++ t) (ap (λ m. flat_map f (range_with_len 0 n) ++ f m) (omega arith) ∙ sym (range_flat f 0 n))

-- ---- texts that are appended one behind the other, the last of them where it could be

-- two texts are one
pub both : (old t u a b : List ℕ) → t ≡ old ++ a → u ≡ t ++ b → u ≡ old ++ (a ++ b)
both old t u a b e h = h ∙ ap (λ x. x ++ b) e ∙ append_assoc old a b

pub two : {T E : Type 0} (r : Result T E) (old t new a b : List ℕ) → t ≡ old ++ a → OnOk r (new ≡ t ++ b) → OnOk r (new ≡ old ++ (a ++ b))
two r old t new a b e h = subst (λ x. OnOk r (new ≡ x)) (ap (λ x. x ++ b) e ∙ append_assoc old a b) h

pub three : {T E : Type 0} (r : Result T E) (old t1 t2 new a1 a2 a3 : List ℕ) → t1 ≡ old ++ a1 → t2 ≡ t1 ++ a2 → OnOk r (new ≡ t2 ++ a3)
    → OnOk r (new ≡ old ++ (a1 ++ a2 ++ a3))
three r old t1 t2 new a1 a2 a3 e1 e2 h = two r old t2 new (a1 ++ a2) a3 (both old t1 t2 a1 a2 e1 e2) h

pub four : {T E : Type 0} (r : Result T E) (old t1 t2 t3 new a1 a2 a3 a4 : List ℕ) → t1 ≡ old ++ a1 → t2 ≡ t1 ++ a2 → t3 ≡ t2 ++ a3 → OnOk r (new ≡ t3 ++ a4)
    → OnOk r (new ≡ old ++ (a1 ++ a2 ++ a3 ++ a4))
four r old t1 t2 t3 new a1 a2 a3 a4 e1 e2 e3 h = three r old t2 t3 new (a1 ++ a2) a3 a4 (both old t1 t2 a1 a2 e1 e2) e3 h

pub five : {T E : Type 0} (r : Result T E) (old t1 t2 t3 t4 new a1 a2 a3 a4 a5 : List ℕ) → t1 ≡ old ++ a1 → t2 ≡ t1 ++ a2 → t3 ≡ t2 ++ a3 → t4 ≡ t3 ++ a4 → OnOk r (new ≡ t4 ++ a5)
    → OnOk r (new ≡ old ++ (a1 ++ a2 ++ a3 ++ a4 ++ a5))
five r old t1 t2 t3 t4 new a1 a2 a3 a4 a5 e1 e2 e3 e4 h = four r old t2 t3 t4 new (a1 ++ a2) a3 a4 a5 (both old t1 t2 a1 a2 e1 e2) e3 e4 h

pub six : {T E : Type 0} (r : Result T E) (old t1 t2 t3 t4 t5 new a1 a2 a3 a4 a5 a6 : List ℕ) → t1 ≡ old ++ a1 → t2 ≡ t1 ++ a2 → t3 ≡ t2 ++ a3 → t4 ≡ t3 ++ a4 → t5 ≡ t4 ++ a5 → OnOk r (new ≡ t5 ++ a6)
    → OnOk r (new ≡ old ++ (a1 ++ a2 ++ a3 ++ a4 ++ a5 ++ a6))
six r old t1 t2 t3 t4 t5 new a1 a2 a3 a4 a5 a6 e1 e2 e3 e4 e5 h = five r old t2 t3 t4 t5 new (a1 ++ a2) a3 a4 a5 a6 (both old t1 t2 a1 a2 e1 e2) e3 e4 e5 h

pub seven : {T E : Type 0} (r : Result T E) (old t1 t2 t3 t4 t5 t6 new a1 a2 a3 a4 a5 a6 a7 : List ℕ) → t1 ≡ old ++ a1 → t2 ≡ t1 ++ a2 → t3 ≡ t2 ++ a3 → t4 ≡ t3 ++ a4 → t5 ≡ t4 ++ a5 → t6 ≡ t5 ++ a6 → OnOk r (new ≡ t6 ++ a7)
    → OnOk r (new ≡ old ++ (a1 ++ a2 ++ a3 ++ a4 ++ a5 ++ a6 ++ a7))
seven r old t1 t2 t3 t4 t5 t6 new a1 a2 a3 a4 a5 a6 a7 e1 e2 e3 e4 e5 e6 h = six r old t2 t3 t4 t5 t6 new (a1 ++ a2) a3 a4 a5 a6 a7 (both old t1 t2 a1 a2 e1 e2) e3 e4 e5 e6 h

pub eight : {T E : Type 0} (r : Result T E) (old t1 t2 t3 t4 t5 t6 t7 new a1 a2 a3 a4 a5 a6 a7 a8 : List ℕ) → t1 ≡ old ++ a1 → t2 ≡ t1 ++ a2 → t3 ≡ t2 ++ a3 → t4 ≡ t3 ++ a4 → t5 ≡ t4 ++ a5 → t6 ≡ t5 ++ a6 → t7 ≡ t6 ++ a7 → OnOk r (new ≡ t7 ++ a8)
    → OnOk r (new ≡ old ++ (a1 ++ a2 ++ a3 ++ a4 ++ a5 ++ a6 ++ a7 ++ a8))
eight r old t1 t2 t3 t4 t5 t6 t7 new a1 a2 a3 a4 a5 a6 a7 a8 e1 e2 e3 e4 e5 e6 e7 h = seven r old t2 t3 t4 t5 t6 t7 new (a1 ++ a2) a3 a4 a5 a6 a7 a8 (both old t1 t2 a1 a2 e1 e2) e3 e4 e5 e6 e7 h
