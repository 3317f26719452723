-- Texts that are appended one behind the other.
use Rattle.std.proofs.Common.{◌≡◌, ◌∙◌, ap, sym, subst, arith, ℕ, ◌+◌, ◌<◌, Bool, List, [], ◌∷◌, ◌++◌, true, false, cond, length, take, get_or, append-nil, Option, Some, None}
use Rattle.std.specs.Prelude.{Result, Ok, Err, OnOk, is_ok, if◌then◌else◌}
use Rattle.std.specs.List.{cons_option, filter, filter_map, flat_map, range_with_len}
use Rattle.std.proofs.lemmas.List.{append_assoc, map-id, take_more}
use Rattle.std.proofs.lemmas.List.Concat.{flat_map-append}
use Rattle.std.proofs.lemmas.List.Elements.{filter_map-append}
use Rattle.std.proofs.lemmas.List.FromFn.{filter_of_map_range_with_len_more}

-- two texts are one
pub both_appended : (old middle new first second : List ℕ) → middle ≡ old ++ first → new ≡ middle ++ second → new ≡ old ++ (first ++ second)
both_appended old middle new first second e h = h ∙ ap (λ x. x ++ second) e ∙ append_assoc old first second

-- and the last of them, where it could be appended
pub last_appended : {T E : Type 0} (r : Result T E) (old middle new first last : List ℕ) → middle ≡ old ++ first → OnOk r (new ≡ middle ++ last) → OnOk r (new ≡ old ++ (first ++ last))
last_appended r old middle new first last e h =
    subst (λ x. OnOk r (new ≡ x)) (ap (λ x. x ++ last) e ∙ append_assoc old first last) h

-- what stands there where a text could be appended
pub where_appended : {T E : Type 0} (r : Result T E) (new whole before : List ℕ) → new ≡ (if is_ok r then whole else before) → OnOk r (new ≡ whole)
where_appended (Ok x) new whole before e = e
where_appended (Err x) new whole before e = tt

-- three texts, the last of which may not be appended
pub all_appended : {T E : Type 0} (r : Result T E) (old one two new first second last : List ℕ) → one ≡ old ++ first → two ≡ one ++ second
    → new ≡ (if is_ok r then two ++ last else two) → OnOk r (new ≡ old ++ (first ++ (second ++ last)))
all_appended r old one two new first second last e h k =
    subst (λ x. OnOk r (new ≡ x))
    (ap (λ x. x ++ last) (both_appended old one two first second e h) ∙ append_assoc old (first ++ second) last ∙ ap (λ x. old ++ x) (append_assoc first second last))
    (where_appended r new (two ++ last) two k)

-- four texts, the last of which may not be appended
pub four_appended : {T E : Type 0} (r : Result T E) (old one two three new first second third last : List ℕ) → one ≡ old ++ first → two ≡ one ++ second → three ≡ two ++ third
    → OnOk r (new ≡ three ++ last) → OnOk r (new ≡ old ++ (first ++ second ++ third ++ last))
four_appended r old one two three new first second third last e h k =
    last_appended r old three new (first ++ second ++ third) last (both_appended old two three (first ++ second) third (both_appended old one two first second e h) k)

-- the texts of a list's elements, with one more
pub text_more : {A : Type 0} (f : A → List ℕ) (xs : List A) (i : ℕ) (x : A) (old middle new : List ℕ) → i < length xs → x ≡ get_or xs i x
    → middle ≡ old ++ flat_map f (take i xs) → new ≡ middle ++ f x → new ≡ old ++ flat_map f (take (i + 1) xs)
text_more f xs i x old middle new l is e h =
    h ∙ ap (λ t. t ++ f x) e ∙ append_assoc old (flat_map f (take i xs)) (f x)
    ∙ ap (λ t. old ++ t)
    (ap (λ y. flat_map f (take i xs) ++ f y) is ∙ ap (λ t. flat_map f (take i xs) ++ t) (sym (append-nil (f (get_or xs i x))))
    ∙ sym (flat_map-append f (take i xs) (get_or xs i x ∷ [])) ∙ ap (flat_map f) (sym (take_more xs i x l)))

-- what is found at the elements of a list, with one more
pub found_more : {A B : Type 0} (h : A → Option B) (xs : List A) (i : ℕ) (x : A) → i < length xs → x ≡ get_or xs i x
    → filter_map h (take (i + 1) xs) ≡ filter_map h (take i xs) ++ cons_option (h x) []
found_more h xs i x l is =
    ap (filter_map h) (take_more xs i x l) ∙ filter_map-append h (take i xs) (get_or xs i x ∷ [])
    ∙ ap (λ y. filter_map h (take i xs) ++ cons_option (h y) []) (sym is)

-- the numbers that pass a test, with one more
pub passed_more : (p : ℕ → Bool) (n : ℕ) → filter p (range_with_len 0 (n + 1)) ≡ filter p (range_with_len 0 n) ++ cond (p n) (n ∷ []) []
passed_more p n =
    ap (filter p) (sym (map-id (range_with_len 0 (n + 1)))) ∙ filter_of_map_range_with_len_more p (λ x. x) 0 n n (omega arith)
    ∙ ap (λ xs. filter p xs ++ cond (p n) (n ∷ []) []) (map-id (range_with_len 0 n))

-- where the next number passes the test, and where it does not
pub passed_yes : (p : ℕ → Bool) (n : ℕ) (old new : List ℕ) → old ≡ filter p (range_with_len 0 n) → p n ≡ true → new ≡ old ++ n ∷ [] → new ≡ filter p (range_with_len 0 (n + 1))
passed_yes p n old new e t is = is ∙ ap (λ xs. xs ++ n ∷ []) e ∙ ap (λ b. filter p (range_with_len 0 n) ++ cond b (n ∷ []) []) (sym t) ∙ sym (passed_more p n)

pub passed_no : (p : ℕ → Bool) (n : ℕ) (old new : List ℕ) → old ≡ filter p (range_with_len 0 n) → p n ≡ false → new ≡ old → new ≡ filter p (range_with_len 0 (n + 1))
passed_no p n old new e t is = is ∙ e ∙ sym (append-nil (filter p (range_with_len 0 n))) ∙ ap (λ b. filter p (range_with_len 0 n) ++ cond b (n ∷ []) []) (sym t) ∙ sym (passed_more p n)

-- where something is found at the next element, and where nothing is
pub found_some : {A B : Type 0} (h : A → Option B) (xs : List A) (i : ℕ) (x : A) (y : B) (old new : List B) → i < length xs → x ≡ get_or xs i x
    → old ≡ filter_map h (take i xs) → h x ≡ Some y → new ≡ old ++ y ∷ [] → new ≡ filter_map h (take (i + 1) xs)
found_some h xs i x y old new l is e t n =
    n ∙ ap (λ z. z ++ y ∷ []) e ∙ ap (λ o. filter_map h (take i xs) ++ cons_option o []) (sym t) ∙ sym (found_more h xs i x l is)

pub found_none : {A B : Type 0} (h : A → Option B) (xs : List A) (i : ℕ) (x : A) (old new : List B) → i < length xs → x ≡ get_or xs i x
    → old ≡ filter_map h (take i xs) → h x ≡ None → new ≡ old → new ≡ filter_map h (take (i + 1) xs)
found_none h xs i x old new l is e t n =
    n ∙ e ∙ sym (append-nil (filter_map h (take i xs))) ∙ ap (λ o. filter_map h (take i xs) ++ cons_option o []) (sym t) ∙ sym (found_more h xs i x l is)

-- the texts of a list of numbers, with one more
pub text_more_at : (f : ℕ → List ℕ) (xs : List ℕ) (i d : ℕ) (old middle new : List ℕ) → i < length xs
    → middle ≡ old ++ flat_map f (take i xs) → new ≡ middle ++ f (get_or xs i d) → new ≡ old ++ flat_map f (take (i + 1) xs)
text_more_at f xs i d old middle new l e h =
    h ∙ ap (λ t. t ++ f (get_or xs i d)) e ∙ append_assoc old (flat_map f (take i xs)) (f (get_or xs i d))
    ∙ ap (λ t. old ++ t)
    (ap (λ t. flat_map f (take i xs) ++ t) (sym (append-nil (f (get_or xs i d))))
    ∙ sym (flat_map-append f (take i xs) (get_or xs i d ∷ [])) ∙ ap (flat_map f) (sym (take_more xs i d l)))
