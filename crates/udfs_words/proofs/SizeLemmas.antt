-- One of several counts, and why no text is of two sizes: its digits end where its unit begins.
use Rattle.std.proofs.Common.{◌≡◌, ◌⊎◌, ◌*◌, ◌<◌, ◌≤◌, ℕ, Bool, true, false, List, [], ◌∷◌, ◌++◌, Option, None, Some, MatchOption, if◌then◌else◌, ◌==◌, ap, ap₂, arith, codes, inl, inr, lit≤, refl, subst, sym, ◌∙◌, cond, drop}
use Rattle.std.proofs.lemmas.Bool.{eqb-true}
use Rattle.std.specs.Option.{option_or}
use Rattle.std.specs.Prelude.{⊤}
use Rattle.std.specs.Str.{bytes_eq}
use Rattle.std.specs.Str.Parse.{AllDigits, digits_value, without_leading_plus}
use Rattle.std.proofs.lemmas.Str.Parse.{digit_from_value}
use Rattle.udfs_words.specs.Sizes.{IsCount, IsSize}

-- a choice of two, of which the first that is there counts
pub either : (a b r : Option ℕ) (P Q : ℕ → Type 0) → MatchOption a ((n : ℕ) → ¬ P n) P → MatchOption b ((n : ℕ) → ¬ Q n) Q → r ≡ option_or a b → MatchOption r ((n : ℕ) → ¬ (P n ⊎ Q n)) (λ n. P n ⊎ Q n)
either None None r P Q p q e = rw e (λ n one. elim one [
  | inl x ↦ p n x
  | inr x ↦ q n x
])
either None (Some b) r P Q p q e = rw e (inr q)
either (Some a) b r P Q p q e = rw e (inl p)

-- eight choices in a row, and the same in the other order of brackets
pub in_a_row : {A B C D E F G H : Type 0} → ((((((A ⊎ B) ⊎ C) ⊎ D) ⊎ E) ⊎ F) ⊎ G) ⊎ H → A ⊎ B ⊎ C ⊎ D ⊎ E ⊎ F ⊎ G ⊎ H
in_a_row (inl (inl (inl (inl (inl (inl (inl x))))))) = inl x
in_a_row (inl (inl (inl (inl (inl (inl (inr x))))))) = inr (inl x)
in_a_row (inl (inl (inl (inl (inl (inr x)))))) = inr (inr (inl x))
in_a_row (inl (inl (inl (inl (inr x))))) = inr (inr (inr (inl x)))
in_a_row (inl (inl (inl (inr x)))) = inr (inr (inr (inr (inl x))))
in_a_row (inl (inl (inr x))) = inr (inr (inr (inr (inr (inl x)))))
in_a_row (inl (inr x)) = inr (inr (inr (inr (inr (inr (inl x))))))
in_a_row (inr x) = inr (inr (inr (inr (inr (inr (inr x))))))

pub in_pairs : {A B C D E F G H : Type 0} → A ⊎ B ⊎ C ⊎ D ⊎ E ⊎ F ⊎ G ⊎ H → ((((((A ⊎ B) ⊎ C) ⊎ D) ⊎ E) ⊎ F) ⊎ G) ⊎ H
in_pairs (inl x) = inl (inl (inl (inl (inl (inl (inl x))))))
in_pairs (inr (inl x)) = inl (inl (inl (inl (inl (inl (inr x))))))
in_pairs (inr (inr (inl x))) = inl (inl (inl (inl (inl (inr x)))))
in_pairs (inr (inr (inr (inl x)))) = inl (inl (inl (inl (inr x))))
in_pairs (inr (inr (inr (inr (inl x))))) = inl (inl (inl (inr x)))
in_pairs (inr (inr (inr (inr (inr (inl x)))))) = inl (inl (inr x))
in_pairs (inr (inr (inr (inr (inr (inr (inl x))))))) = inl (inr x)
in_pairs (inr (inr (inr (inr (inr (inr (inr x))))))) = inr x

pub same_choice : (o : Option ℕ) (P Q : ℕ → Type 0) → ((n : ℕ) → P n → Q n) → ((n : ℕ) → Q n → P n) → MatchOption o ((n : ℕ) → ¬ P n) P → MatchOption o ((n : ℕ) → ¬ Q n) Q
same_choice None P Q to from is = λ n q. is n (from n q)
same_choice (Some a) P Q to from is = to a is

-- ---- one size

-- below the letters
abbrev Low : List ℕ → Type 0
Low [] = ⊤
Low (c ∷ cs) = (c < 58) × Low cs

-- from the letters on
abbrev Begins : List ℕ → Type 0
Begins [] = ⊤
Begins (c ∷ cs) = 58 ≤ c

all_low : (cs : List ℕ) → AllDigits 10 cs → Low cs
all_low [] h = tt
all_low (c ∷ cs) h = let r = digit_from_value c h.0 in (omega (arith, r), all_low cs h.1)

number_low : (cs : List ℕ) → AllDigits 10 (without_leading_plus cs) → Low cs
number_low [] h = tt
number_low (c ∷ cs) h = go (c == 43) refl
  where
    go : (b : Bool) → (c == 43) ≡ b → Low (c ∷ cs)
    go true e = let is : c ≡ 43 = eqb-true c 43 e in (omega (arith, is), all_low cs (subst (λ (b : Bool). AllDigits 10 (drop (cond b 1 0) (c ∷ cs))) e h))
    go false e = all_low (c ∷ cs) (subst (λ (b : Bool). AllDigits 10 (drop (cond b 1 0) (c ∷ cs))) e h)

no_head : (c : ℕ) (cs us : List ℕ) → c < 58 → Begins us → us ≡ c ∷ cs → ⊥
no_head c cs us low high e = let above : 58 ≤ c = subst Begins e high in omega (arith, low, above)

abbrev head_of : List ℕ → ℕ
head_of [] = 0
head_of (c ∷ cs) = c

abbrev tail_of : List ℕ → List ℕ
tail_of [] = []
tail_of (c ∷ cs) = cs

one_split : (xs ys us vs : List ℕ) → Low xs → Low ys → Begins us → Begins vs → xs ++ us ≡ ys ++ vs → (xs ≡ ys) × (us ≡ vs)
one_split [] [] us vs lx ly hu hv e = (refl, e)
one_split [] (y ∷ ys) us vs lx ly hu hv e = absurd (no_head y (ys ++ vs) us ly.0 hu e)
one_split (x ∷ xs) [] us vs lx ly hu hv e = absurd (no_head x (xs ++ us) vs lx.0 hv (sym e))
one_split (x ∷ xs) (y ∷ ys) us vs lx ly hu hv e = let rest = one_split xs ys us vs lx.1 ly.1 hu hv (ap tail_of e) in (ap₂ (λ (c : ℕ) (cs : List ℕ). c ∷ cs) (ap head_of e) rest.0, rest.1)

-- what a unit stands for
abbrev bytes_of : List ℕ → ℕ
bytes_of unit = if bytes_eq unit [] then 1 else if bytes_eq unit (codes "s") then 2048 else if bytes_eq unit (codes "k") then 1000 else if bytes_eq unit (codes "M") then 1000000 else if bytes_eq unit (codes "G") then 1000000000 else if bytes_eq unit (codes "Ki") then 1024 else if bytes_eq unit (codes "Mi") then 1048576 else 1073741824

record Counted (text : List ℕ) (size : ℕ) : Type 0 where
  unit : List ℕ
  bytes : ℕ
  count : IsCount text unit bytes size
  begins : Begins unit
  is : bytes_of unit ≡ bytes

counted : (text : List ℕ) (size : ℕ) → IsSize text size → Counted text size
counted text size (inl c) = record { unit = []; bytes = 1; count = c; begins = tt; is = refl }
counted text size (inr (inl c)) = record { unit = codes "s"; bytes = 2048; count = c; begins = lit≤ tt; is = refl }
counted text size (inr (inr (inl c))) = record { unit = codes "k"; bytes = 1000; count = c; begins = lit≤ tt; is = refl }
counted text size (inr (inr (inr (inl c)))) = record { unit = codes "M"; bytes = 1000000; count = c; begins = lit≤ tt; is = refl }
counted text size (inr (inr (inr (inr (inl c))))) = record { unit = codes "G"; bytes = 1000000000; count = c; begins = lit≤ tt; is = refl }
counted text size (inr (inr (inr (inr (inr (inl c)))))) = record { unit = codes "Ki"; bytes = 1024; count = c; begins = lit≤ tt; is = refl }
counted text size (inr (inr (inr (inr (inr (inr (inl c))))))) = record { unit = codes "Mi"; bytes = 1048576; count = c; begins = lit≤ tt; is = refl }
counted text size (inr (inr (inr (inr (inr (inr (inr c))))))) = record { unit = codes "Gi"; bytes = 1073741824; count = c; begins = lit≤ tt; is = refl }

same_size : (text : List ℕ) (one other : ℕ) → Counted text one → Counted text other → one ≡ other
same_size text one other a b =
    let split = one_split a.count.number b.count.number a.unit b.unit (number_low a.count.number a.count.numeral.1) (number_low b.count.number b.count.numeral.1) a.begins b.begins (sym a.count.is ∙ b.count.is) in
    let bytes : a.bytes ≡ b.bytes = sym a.is ∙ ap bytes_of split.1 ∙ b.is in
    a.count.value ∙ ap₂ (λ (digits : List ℕ) (m : ℕ). digits_value 10 (without_leading_plus digits) * m) split.0 bytes ∙ sym b.count.value

-- no text has two
pub one_size_of : (text : List ℕ) (one other : ℕ) → IsSize text one → IsSize text other → one ≡ other
one_size_of text one other a b = same_size text one other (counted text one a) (counted text other b)
