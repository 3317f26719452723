-- Paths that lie along a word: all above such a one do, and which they are, by their names.
use Rattle.std.proofs.lemmas.Slice.Eq.{bytes_eq-Decides}
use Rattle.std.proofs.Common.{◌≡◌, ◌≢◌, ◌⊎◌, inl, inr, ◌++◌, ◌∷◌, [], ℕ, Bool, true, false, List, ap, append_assoc, codes, drop, length, refl, subst, sym, take, ◌∙◌}
use Rattle.std.specs.Prelude.{◌||◌, suc}
use Rattle.std.specs.List.{list_any}
use Rattle.std.specs.Str.{bytes_eq}
use Rattle.std.proofs.lemmas.List.{append-nil}
use Rattle.udfs_osta.specs.Escapes.{escaped}
use Rattle.udfs_walk.specs.KnownLaws.{TakesAbove}
use Rattle.udfs_salvage.specs.Choosing.{goes_on, is_under}
use Rattle.udfs_salvage.specs.InLine.{AsksInLine, is_in_line, lies_along}
use Rattle.udfs_salvage.specs.NodeTexts.{names_text, path_name}
use Rattle.udfs_salvage.proofs.AskedNames.{asks_by_names, either, second, split_text, third}
use Rattle.udfs_salvage.proofs.ChoosingLemmas.{goes_with, on_behind}

first_one : (a b : Bool) → a ≡ true → (a || b) ≡ true
first_one true b e = refl
first_one false b e = let bad : false ≡ true = e in cc

second_one : (a b : Bool) → b ≡ true → (a || b) ≡ true
second_one true b e = refl
second_one false b e = e

one_of_two : (a b : Bool) → (a || b) ≡ true → (a ≡ true) ⊎ (b ≡ true)
one_of_two true b e = inl refl
one_of_two false b e = inr e

-- ---- texts
-- a text goes on behind what it goes on with
behind : (word text rest : List ℕ) → text ≡ word ++ 47 ∷ rest → is_under word text ≡ true
behind word text rest e = third (bytes_eq word (codes "/")) (bytes_eq text word) _ (subst (λ t. goes_on word t ≡ true) (sym e) (on_behind word rest))

-- it is under itself
same_text : (word text : List ℕ) → text ≡ word → is_under word text ≡ true
same_text word text e = second (bytes_eq word (codes "/")) (bytes_eq text word) _ ((bytes_eq-Decides _ _).1 e)

-- all is under `/`
under_all : (text : List ℕ) → is_under (codes "/") text ≡ true
under_all text = refl

-- two fronts of a text, each with a `/` behind it: one is the other, or goes on behind it
data Fronts (text word : List ℕ) : Type 0 where
  longer : (more : List ℕ) → text ≡ word ++ 47 ∷ more → Fronts text word
  same : text ≡ word → Fronts text word
  shorter : (more : List ℕ) → word ≡ text ++ 47 ∷ more → Fronts text word

fronts : (text word rest left : List ℕ) → text ++ 47 ∷ rest ≡ word ++ 47 ∷ left → Fronts text word
fronts [] [] rest left e = same refl
fronts [] (y ∷ word) rest left e = let slash : y ≡ 47 = cc in shorter word (ap (λ z. z ∷ word) slash)
fronts (x ∷ text) [] rest left e = let slash : x ≡ 47 = cc in longer text (ap (λ z. z ∷ text) slash)
fronts (x ∷ text) (y ∷ word) rest left e =
    let first : x ≡ y = cc in
    let tail : text ++ 47 ∷ rest ≡ word ++ 47 ∷ left = cc in
    go first (fronts text word rest left tail)
  where
    go : x ≡ y → Fronts text word → Fronts (x ∷ text) (y ∷ word)
    go f (longer more is) = longer more (ap (λ l. x ∷ l) is ∙ ap (λ z. z ∷ (word ++ 47 ∷ more)) f)
    go f (same is) = same (ap (λ l. x ∷ l) is ∙ ap (λ z. z ∷ word) f)
    go f (shorter more is) = shorter more (ap (λ l. y ∷ l) is ∙ ap (λ z. z ∷ (text ++ 47 ∷ more)) (sym f))

-- a word and a text lie along one another
abbrev Along : List ℕ → List ℕ → Type 0
Along word text = (is_under word text || is_under text word) ≡ true

-- what lies along a text with a `/` and more behind it lies along that text
shorten : (word text rest : List ℕ) → (rest ≢ [] ⊎ text ≢ []) → Along word (text ++ 47 ∷ rest) → Along word text
shorten word text rest some along = by (one_of_two _ _ along)
  where
    longer_text : List ℕ
    longer_text = text ++ 47 ∷ rest

    down : is_under word text ≡ true → Along word text
    down e = first_one (is_under word text) (is_under text word) e

    up : is_under text word ≡ true → Along word text
    up e = second_one (is_under word text) (is_under text word) e

    by_fronts : Fronts text word → Along word text
    by_fronts (longer more is) = down (behind word text more is)
    by_fronts (same is) = down (same_text word text is)
    by_fronts (shorter more is) = up (behind text word more is)

    not_root : text ++ 47 ∷ rest ≡ codes "/" → Along word text
    not_root e = absurd (long text rest some e)
      where
        long : (t r : List ℕ) → (r ≢ [] ⊎ t ≢ []) → t ++ 47 ∷ r ≡ 47 ∷ [] → ⊥
        long [] r (inl n) q = n (let z : r ≡ [] = cc in z)
        long [] r (inr n) q = n refl
        long (x ∷ []) r s q = let z : ⊥ = cc in z
        long (x ∷ y ∷ t) r s q = let z : ⊥ = cc in z

    by : (is_under word longer_text ≡ true) ⊎ (is_under longer_text word ≡ true) → Along word text
    by (inl e) = under (either (bytes_eq word (codes "/")) (bytes_eq longer_text word) (goes_on word longer_text) e)
      where
        under : (bytes_eq word (codes "/") ≡ true) ⊎ (bytes_eq longer_text word ≡ true) ⊎ (goes_on word longer_text ≡ true) → Along word text
        under (inl root) = let is : word ≡ codes "/" = (bytes_eq-Decides word (codes "/")).0 root in down (subst (λ (w : List ℕ). is_under w text ≡ true) (sym is) (under_all text))
        under (inr (inl is)) = up (behind text word rest (sym ((bytes_eq-Decides longer_text word).0 is)))
        under (inr (inr on)) = by_fronts (fronts text word rest (drop (suc (length word)) longer_text) (goes_with word longer_text on))
    by (inr e) = over (either (bytes_eq longer_text (codes "/")) (bytes_eq word longer_text) (goes_on longer_text word) e)
      where
        over : (bytes_eq longer_text (codes "/") ≡ true) ⊎ (bytes_eq word longer_text ≡ true) ⊎ (goes_on longer_text word ≡ true) → Along word text
        over (inl root) = not_root ((bytes_eq-Decides longer_text (codes "/")).0 root)
        over (inr (inl is)) = up (behind text word rest ((bytes_eq-Decides word longer_text).0 is))
        over (inr (inr on)) = let after : List ℕ = drop (suc (length longer_text)) word in up (behind text word (rest ++ 47 ∷ after) (goes_with longer_text word on ∙ append_assoc text (47 ∷ rest) (47 ∷ after)))

-- ---- paths
-- the root lies along each word
root_along : (word : List ℕ) → lies_along word [] ≡ true
root_along word = second_one (is_under word (codes "/")) (is_under (codes "/") word) (under_all word)

-- and so does all above what does
above_along : (word : List ℕ) (path more : List (List ℕ)) → lies_along word (path ++ more) ≡ true → lies_along word path ≡ true
above_along word [] more e = root_along word
above_along word (name ∷ path) [] e = subst (λ p. lies_along word p ≡ true) (append-nil (name ∷ path)) e
above_along word (name ∷ path) (next ∷ more) e = shorten word (names_text (name ∷ path)) (escaped next ++ names_text more) (inr (some (escaped name ++ names_text path)))
    (subst (Along word) (split_text (name ∷ path) (next ∷ more)) e)
  where
    some : (rest : List ℕ) → (47 ∷ rest) ≢ []
    some rest q = cc

any_above : (words : List (List ℕ)) (path more : List (List ℕ)) → list_any (λ word. lies_along word (path ++ more)) words ≡ true → list_any (λ word. lies_along word path) words ≡ true
any_above [] path more e = e
any_above (word ∷ words) path more e = by (λ there. any_above words path more there) (one_of_two (lies_along word (path ++ more)) (list_any (λ w. lies_along w (path ++ more)) words) e)
  where
    by : (list_any (λ w. lies_along w (path ++ more)) words ≡ true → list_any (λ w. lies_along w path) words ≡ true) → (lies_along word (path ++ more) ≡ true) ⊎ (list_any (λ w. lies_along w (path ++ more)) words ≡ true) → list_any (λ w. lies_along w path) (word ∷ words) ≡ true
    by later (inl here) = first_one (lies_along word path) (list_any (λ w. lies_along w path) words) (above_along word path more here)
    by later (inr there) = second_one (lies_along word path) (list_any (λ w. lies_along w path) words) (later there)

-- with each path in line all above it are
pub in_line_above : (words : List (List ℕ)) → TakesAbove (is_in_line words)
in_line_above [] path more e = refl
in_line_above (word ∷ words) path more e = any_above (word ∷ words) path more e

-- the root is in line
pub root_in_line : (words : List (List ℕ)) → is_in_line words [] ≡ true
root_in_line [] = refl
root_in_line (word ∷ words) = first_one (lies_along word []) (list_any (λ w. lies_along w []) words) (root_along word)

-- ---- by the names
printed : (names : List (List ℕ)) → path_name names ≢ []
printed [] e = let z : ⊥ = cc in z
printed (name ∷ names) e = let z : ⊥ = cc in z

pub asks_in_line : AsksInLine
asks_in_line names path = (to, from)
  where
    down : (word : List ℕ) → word ≢ [] → (p : List (List ℕ)) → is_under word (path_name p) ≡ true → (k : ℕ) × (path_name (take k p) ≡ word)
    down word some p e = (asks_by_names word p some).0 e

    to : lies_along (path_name names) path ≡ true → ((k : ℕ) × (path_name (take k path) ≡ path_name names)) ⊎ ((k : ℕ) × (path_name (take k names) ≡ path_name path))
    to e = by (one_of_two _ _ e)
      where
        by : (is_under (path_name names) (path_name path) ≡ true) ⊎ (is_under (path_name path) (path_name names) ≡ true)
            → ((k : ℕ) × (path_name (take k path) ≡ path_name names)) ⊎ ((k : ℕ) × (path_name (take k names) ≡ path_name path))
        by (inl u) = inl (down (path_name names) (printed names) path u)
        by (inr u) = inr (down (path_name path) (printed path) names u)

    from : ((k : ℕ) × (path_name (take k path) ≡ path_name names)) ⊎ ((k : ℕ) × (path_name (take k names) ≡ path_name path)) → lies_along (path_name names) path ≡ true
    from (inl (k, e)) = first_one (is_under (path_name names) (path_name path)) (is_under (path_name path) (path_name names)) ((asks_by_names (path_name names) path (printed names)).1 k e)
    from (inr (k, e)) = second_one (is_under (path_name names) (path_name path)) (is_under (path_name path) (path_name names)) ((asks_by_names (path_name path) names (printed path)).1 k e)
