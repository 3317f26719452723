-- The folder of a path, as its last slash divides it.
use Rattle.std.proofs.Common.{◌≡◌, ◌≢◌, ℕ, suc, ◌+◌, ◌≤◌, ◌<◌, List, [], ◌∷◌, ◌++◌, true, false, length, take, drop, get_or, Some, None, MatchOption, Bor, refl, sym, ap, subst, ◌∙◌, arith, ne_eqb, take-append-drop}
use Rattle.std.proofs.lemmas.Bool.{cond-true, cond-false, cond_both}
use Rattle.std.proofs.lemmas.Str.Pattern.{NoCharPasses-char, drop_at_char}
use Rattle.std.specs.Prelude.{Option, nat_eq}
use Rattle.std.specs.Str.Pattern.{RFindsChar}
use Rattle.udfs_host_fs.specs.Disk.{folder_of, has_slash}

-- a text without a slash
abbrev Lacks : List ℕ → Type 0
Lacks text = (i : ℕ) → i < length text → get_or text i 0 ≢ 47

lacks_rest : (x : ℕ) (xs : List ℕ) → Lacks (x ∷ xs) → Lacks xs
lacks_rest x xs none = λ i l e. none (suc i) (omega arith) e

no_slash : (text : List ℕ) → Lacks text → has_slash text ≡ false
no_slash [] none = refl
no_slash (x ∷ xs) none = cond-false _ true (has_slash xs) (ne_eqb x 47 (none 0 (omega arith))) ∙ no_slash xs (lacks_rest x xs none)

-- a text with a slash behind a front
a_slash : (front back : List ℕ) → has_slash (front ++ 47 ∷ back) ≡ true
a_slash [] back = refl
a_slash (x ∷ xs) back = cond_both (nat_eq x 47) true (has_slash (xs ++ 47 ∷ back)) (λ b. b ≡ true) (λ _. refl) (λ _. a_slash xs back)

folder_of_name : (text : List ℕ) → Lacks text → folder_of text ≡ []
folder_of_name [] none = refl
folder_of_name (x ∷ xs) none = cond-false _ (x ∷ folder_of xs) [] (no_slash (x ∷ xs) none)

folder_of_path : (front back : List ℕ) → Lacks back → folder_of (front ++ 47 ∷ back) ≡ front ++ 47 ∷ []
folder_of_path [] back none = ap (λ rest. 47 ∷ rest) (folder_of_name back none)
folder_of_path (x ∷ xs) back none = cond-true _ (x ∷ folder_of (xs ++ 47 ∷ back)) [] (a_slash (x ∷ xs) back) ∙ ap (λ rest. x ∷ rest) (folder_of_path xs back none)

-- takes the clause of `rsplit_once` at a slash
pub front_of : (text : List ℕ) (r : Option (Bor (List ℕ) × Bor (List ℕ))) (x : Bor (List ℕ) × Bor (List ℕ)) → r ≡ Some x
    → MatchOption r (RFindsChar 47 text None) (λ x. (i : ℕ) × (j : ℕ) × RFindsChar 47 text (Some (i, j)) × (x.0.now ≡ take i text) × (x.1.now ≡ drop j text) × (i ≤ j) × (length x.0.now ≡ i) × (length x.1.now + j ≡ length text))
    → folder_of text ≡ x.0.now ++ 47 ∷ []
front_of text r x is cases =
    let cut : (i : ℕ) × (j : ℕ) × RFindsChar 47 text (Some (i, j)) × (x.0.now ≡ take i text) × (x.1.now ≡ drop j text) × (i ≤ j) × (length x.0.now ≡ i) × (length x.1.now + j ≡ length text)
    = subst (λ s. MatchOption s (RFindsChar 47 text None) (λ x. (i : ℕ) × (j : ℕ) × RFindsChar 47 text (Some (i, j)) × (x.0.now ≡ take i text) × (x.1.now ≡ drop j text) × (i ≤ j) × (length x.0.now ≡ i) × (length x.1.now + j ≡ length text))) is cases in
    let front = take cut.0 text in
    let back = drop cut.1 text in
    let none : Lacks back = λ i l. NoCharPasses-char 47 back i cut.2.0 (omega arith) l in
    let whole : text ≡ front ++ 47 ∷ back = sym (take-append-drop cut.0 text) ∙ ap (λ rest. front ++ rest) (drop_at_char 47 text cut.0 cut.1 cut.2.1 (omega arith)) in
    ap folder_of whole ∙ folder_of_path front back none ∙ ap (λ l. l ++ 47 ∷ []) (sym cut.3)
