-- A word asks for a path exactly where it is how its first names are printed.
use Rattle.std.proofs.lemmas.List.{take-append-drop}
use Rattle.std.proofs.lemmas.Slice.Eq.{bytes_eq-Decides}
use Rattle.std.proofs.Common.{◌≡◌, ◌≢◌, ◌⊎◌, inl, inr, ◌++◌, ◌∷◌, [], ℕ, suc, Bool, true, false, List, ap, append_assoc, codes, drop, length, refl, subst, sym, take, ◌∙◌}
use Rattle.std.specs.Prelude.{◌||◌}
use Rattle.std.specs.Str.{bytes_eq}
use Rattle.udfs_osta.specs.Escapes.{escaped}
use Rattle.udfs_osta.specs.Parts.{AllPlain}
use Rattle.udfs_osta.proofs.PathParts.{escaped_plain}
use Rattle.udfs_salvage.specs.NodeTexts.{names_text, path_name}
use Rattle.udfs_salvage.specs.Choosing.{AsksByNames, goes_on, is_under}
use Rattle.udfs_salvage.proofs.ChoosingLemmas.{goes_with, on_behind}

-- bytes with no `/` in front of some others, which are as well these in front of a `/`
behind_plain : (plain more word rest : List ℕ) → AllPlain plain → plain ++ more ≡ word ++ 47 ∷ rest → (left : List ℕ) × (word ≡ plain ++ left) × (more ≡ left ++ 47 ∷ rest)
behind_plain [] more word rest all e = (word, refl, e)
behind_plain (x ∷ plain) more [] rest all e = let slash : x ≡ 47 = cc in absurd (all.0.1 slash)
behind_plain (x ∷ plain) more (y ∷ word) rest all e =
    let same : x ≡ y = cc in
    let tail : plain ++ more ≡ word ++ 47 ∷ rest = cc in
    let left = behind_plain plain more word rest all.1 tail in
    (left.0, subst (λ z. y ∷ word ≡ z ∷ (plain ++ left.0)) (sym same) (ap (λ l. y ∷ l) left.1), left.2)

-- names that are printed with a `/` in them begin with some names that are printed as what is before it
first_names : (names : List (List ℕ)) (word rest : List ℕ) → names_text names ≡ word ++ 47 ∷ rest → (k : ℕ) × (names_text (take k names) ≡ word)
first_names [] [] rest e = absurd (let no : ⊥ = cc in no)
first_names [] (x ∷ word) rest e = absurd (let no : ⊥ = cc in no)
first_names (name ∷ names) [] rest e = (0, refl)
first_names (name ∷ names) (x ∷ word) rest e =
    let slash : 47 ≡ x = cc in
    let tail : escaped name ++ names_text names ≡ word ++ 47 ∷ rest = cc in
    let left = behind_plain (escaped name) (names_text names) word rest (escaped_plain name) tail in
    let more = first_names names left.0 rest left.2 in
    (suc more.0, subst (λ z. 47 ∷ (escaped name ++ names_text (take more.0 names)) ≡ z ∷ word) slash (ap (λ l. 47 ∷ l) (ap (λ l. escaped name ++ l) more.1 ∙ sym left.1)))

-- of some text, the printed path of names is the names' text
named : (names : List (List ℕ)) (word : List ℕ) → word ≢ [] → names_text names ≡ word → path_name names ≡ word
named [] word some e = absurd (some (sym e))
named (name ∷ names) word some e = e

no_bytes : (x : ℕ) (xs : List ℕ) → (x ∷ xs) ≡ [] → ⊥
no_bytes x xs e = cc

pub either : (a b c : Bool) → (a || b || c) ≡ true → (a ≡ true) ⊎ (b ≡ true) ⊎ (c ≡ true)
either true b c e = inl refl
either false true c e = inr (inl refl)
either false false c e = inr (inr e)

by_path : (word : List ℕ) (path : List (List ℕ)) → word ≢ [] → goes_on word (path_name path) ≡ true → (k : ℕ) × (path_name (take k path) ≡ word)
by_path [] path some on = absurd (some refl)
by_path (x ∷ word) [] some on = let e = goes_with (x ∷ word) (codes "/") on in absurd (long x word _ e)
  where
    long : (x : ℕ) (word rest : List ℕ) → (47 ∷ []) ≡ (x ∷ word) ++ 47 ∷ rest → ⊥
    long x [] rest e = let bad : [] ≡ 47 ∷ rest = cc in no_bytes 47 rest (sym bad)
    long x (y ∷ word) rest e = let bad : [] ≡ y ∷ (word ++ 47 ∷ rest) = cc in no_bytes y (word ++ 47 ∷ rest) (sym bad)
by_path (x ∷ word) (name ∷ names) some on =
    let front = first_names (name ∷ names) (x ∷ word) _ (goes_with (x ∷ word) (names_text (name ∷ names)) on) in
    (front.0, named (take front.0 (name ∷ names)) (x ∷ word) some front.1)

all_of : (path : List (List ℕ)) → take (length path) path ≡ path
all_of [] = refl
all_of (name ∷ path) = ap (λ l. name ∷ l) (all_of path)

to_names : (word : List ℕ) (path : List (List ℕ)) → word ≢ [] → is_under word (path_name path) ≡ true → (k : ℕ) × (path_name (take k path) ≡ word)
to_names word path some is = elim (either (bytes_eq word (codes "/")) (bytes_eq (path_name path) word) (goes_on word (path_name path)) is) [
  | inl root ↦ (0, sym ((bytes_eq-Decides _ _).0 root))
  | inr (inl same) ↦ (length path, ap path_name (all_of path) ∙ (bytes_eq-Decides _ _).0 same)
  | inr (inr on) ↦ by_path word path some on
]

pub second : (a b c : Bool) → b ≡ true → (a || b || c) ≡ true
second true b c e = refl
second false true c e = refl
second false false c e = let bad : false ≡ true = e in cc

pub third : (a b c : Bool) → c ≡ true → (a || b || c) ≡ true
third true b c e = refl
third false true c e = refl
third false false c e = e

pub split_text : (some more : List (List ℕ)) → names_text (some ++ more) ≡ names_text some ++ names_text more
split_text [] more = refl
split_text (name ∷ some) more = ap (λ l. 47 ∷ (escaped name ++ l)) (split_text some more) ∙ ap (λ l. 47 ∷ l) (sym (append_assoc (escaped name) (names_text some) (names_text more)))

from_front : (some more : List (List ℕ)) → is_under (path_name some) (path_name (some ++ more)) ≡ true
from_front [] more = refl
from_front (name ∷ some) [] = second (bytes_eq (names_text (name ∷ some)) (codes "/")) (bytes_eq (names_text ((name ∷ some) ++ [])) (names_text (name ∷ some))) _ ((bytes_eq-Decides _ _).1 (split_text (name ∷ some) [] ∙ no_more (names_text (name ∷ some))))
  where
    no_more : (l : List ℕ) → l ++ [] ≡ l
    no_more [] = refl
    no_more (x ∷ l) = ap (λ m. x ∷ m) (no_more l)
from_front (name ∷ some) (next ∷ more) = third (bytes_eq (names_text (name ∷ some)) (codes "/")) (bytes_eq (names_text ((name ∷ some) ++ next ∷ more)) (names_text (name ∷ some))) _
    (subst (λ t. goes_on (names_text (name ∷ some)) t ≡ true) (sym (split_text (name ∷ some) (next ∷ more))) (on_behind (names_text (name ∷ some)) (escaped next ++ names_text more)))

pub asks_by_names : AsksByNames
asks_by_names word path some = (
  to_names word path some,
  λ k e. subst (λ w. is_under w (path_name path) ≡ true) e (subst (λ p. is_under (path_name (take k path)) (path_name p) ≡ true) (take-append-drop k path) (from_front (take k path) (drop k path))),
)
