-- The parts of a path, as its last slash divides it.
use Rattle.std.proofs.Common.{◌≡◌, ℕ, ◌+◌, ◌≤◌, ◌<◌, List, [], ◌∷◌, ◌++◌, Bool, true, false, length, take, drop, get_or, Some, None, MatchOption, Bor, refl, sym, ap, subst, ◌∙◌, arith, ne_eqb, length-append, take-append-drop}
use Rattle.std.proofs.Math.Seq.{take-append_seam}
use Rattle.std.proofs.lemmas.Bool.{cond-true, cond-false, cond_both, eqb-true}
use Rattle.std.proofs.lemmas.Str.Pattern.{NoCharPasses-char, drop_at_char}
use Rattle.std.specs.Prelude.{◌≢◌, ◌==◌, Option, codes, nat_eq, suc}
use Rattle.std.specs.Str.Pattern.{RFindsChar}
use Rattle.udfs_calls.specs.Paths.{folder_of, folder_path, has_slash, last, parent}

-- a text without a slash
abbrev Lacks : List ℕ → Type 0
Lacks text = (i : ℕ) → i < length text → get_or text i 0 ≢ 47

-- the rest of a text without a slash
lacks_rest : (x : ℕ) (xs : List ℕ) → Lacks (x ∷ xs) → Lacks xs
lacks_rest x xs none = λ i l e. none (suc i) (omega arith) e

-- a text without a slash
no_slash : (text : List ℕ) → Lacks text → has_slash text ≡ false
no_slash [] none = refl
no_slash (x ∷ xs) none = cond-false _ true (has_slash xs) (ne_eqb x 47 (none 0 (omega arith))) ∙ no_slash xs (lacks_rest x xs none)

-- a text with a slash behind a front
a_slash : (front back : List ℕ) → has_slash (front ++ 47 ∷ back) ≡ true
a_slash [] back = refl
a_slash (x ∷ xs) back = cond_both (nat_eq x 47) true (has_slash (xs ++ 47 ∷ back)) (λ b. b ≡ true) (λ _. refl) (λ _. a_slash xs back)

folder_of_name : (text : List ℕ) → Lacks text → folder_of text ≡ []
folder_of_name [] none = refl
folder_of_name (x ∷ xs) none = cond-false _ (x ∷ folder_of xs) [] (no_slash (x ∷ xs) none)

last_of_name : (text : List ℕ) → Lacks text → last text ≡ text
last_of_name [] none = refl
last_of_name (x ∷ xs) none = cond-false _ (last xs) (x ∷ xs) (no_slash (x ∷ xs) none)

folder_of_path : (front back : List ℕ) → Lacks back → folder_of (front ++ 47 ∷ back) ≡ front ++ 47 ∷ []
folder_of_path [] back none = ap (λ rest. 47 ∷ rest) (folder_of_name back none)
folder_of_path (x ∷ xs) back none = cond-true _ (x ∷ folder_of (xs ++ 47 ∷ back)) [] (a_slash (x ∷ xs) back) ∙ ap (λ rest. x ∷ rest) (folder_of_path xs back none)

last_of_path : (front back : List ℕ) → Lacks back → last (front ++ 47 ∷ back) ≡ back
last_of_path [] back none = last_of_name back none
last_of_path (x ∷ xs) back none = cond-true _ (last (xs ++ 47 ∷ back)) (x ∷ xs ++ 47 ∷ back) (a_slash (x ∷ xs) back) ∙ last_of_path xs back none

-- the path of the folder that has this before its slash
abbrev pub before_slash : List ℕ → List ℕ
before_slash [] = codes "/"
before_slash (x ∷ xs) = x ∷ xs

folder_path_of : (front : List ℕ) → folder_path (front ++ 47 ∷ []) ≡ before_slash front
folder_path_of [] = refl
folder_path_of (x ∷ []) = refl
folder_path_of (x ∷ y ∷ ys) = ap (λ n. take n (x ∷ y ∷ ys ++ 47 ∷ [])) (long ys) ∙ take-append_seam (x ∷ y ∷ ys) (47 ∷ [])
  where
    long : (ys : List ℕ) → length (y ∷ ys ++ 47 ∷ []) ≡ length (x ∷ y ∷ ys)
    long ys = omega (arith, length-append ys (47 ∷ []))

-- takes the clause of `rsplit_once` at a slash
pub parts : (text : List ℕ) (r : Option (Bor (List ℕ) × Bor (List ℕ)))
    → MatchOption r (RFindsChar 47 text None) (λ x. (i : ℕ) × (j : ℕ) × RFindsChar 47 text (Some (i, j)) × (x.0.now ≡ take i text) × (x.1.now ≡ drop j text) × (i ≤ j) × (length x.0.now ≡ i) × (length x.1.now + j ≡ length text))
    → MatchOption r ((parent text ≡ codes ".") × (last text ≡ text)) (λ x. (parent text ≡ before_slash x.0.now) × (last text ≡ x.1.now))
parts text None cut =
    let none : Lacks text = λ i l. NoCharPasses-char 47 text i cut (omega arith) l in
    (ap folder_path (folder_of_name text none), last_of_name text none)
parts text (Some x) cut =
    let front = take cut.0 text in
    let back = drop cut.1 text in
    let none : Lacks back = λ i l. NoCharPasses-char 47 back i cut.2.0 (omega arith) l in
    let is : text ≡ front ++ 47 ∷ back = sym (take-append-drop cut.0 text) ∙ ap (λ rest. front ++ rest) (drop_at_char 47 text cut.0 cut.1 cut.2.1 (omega arith)) in (
      ap parent is ∙ ap folder_path (folder_of_path front back none) ∙ folder_path_of front ∙ ap before_slash (sym cut.3),
      ap last is ∙ last_of_path front back none ∙ sym cut.4,
    )

-- by its length, as `is_empty` tells it
pub empty_front : (b : Bool) (xs : List ℕ) → b ≡ (length xs == 0) → b ≡ true → before_slash xs ≡ codes "/"
empty_front b [] told is = refl
empty_front b (x ∷ xs) told is = absurd (let none : length (x ∷ xs) ≡ 0 = eqb-true (length (x ∷ xs)) 0 (sym told ∙ is) in omega (arith, none))

pub whole_front : (b : Bool) (xs : List ℕ) → b ≡ (length xs == 0) → b ≡ false → before_slash xs ≡ xs
whole_front b [] told is = cc
whole_front b (x ∷ xs) told is = refl

pub parts_some : (text : List ℕ) (r : Option (Bor (List ℕ) × Bor (List ℕ))) (x : Bor (List ℕ) × Bor (List ℕ)) → r ≡ Some x
    → MatchOption r ((parent text ≡ codes ".") × (last text ≡ text)) (λ x. (parent text ≡ before_slash x.0.now) × (last text ≡ x.1.now))
    → (parent text ≡ before_slash x.0.now) × (last text ≡ x.1.now)
parts_some text r x is cut = subst (λ s. MatchOption s ((parent text ≡ codes ".") × (last text ≡ text)) (λ x. (parent text ≡ before_slash x.0.now) × (last text ≡ x.1.now))) is cut

pub parts_none : (text : List ℕ) (r : Option (Bor (List ℕ) × Bor (List ℕ))) → r ≡ None
    → MatchOption r ((parent text ≡ codes ".") × (last text ≡ text)) (λ x. (parent text ≡ before_slash x.0.now) × (last text ≡ x.1.now))
    → (parent text ≡ codes ".") × (last text ≡ text)
parts_none text r is cut = subst (λ s. MatchOption s ((parent text ≡ codes ".") × (last text ≡ text)) (λ x. (parent text ≡ before_slash x.0.now) × (last text ≡ x.1.now))) is cut
