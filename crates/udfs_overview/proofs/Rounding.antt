-- Quotients rounded half up.
use Rattle.std.proofs.Common.{arith, ◌≡◌, ℕ, zero, suc, ◌^◌, ◌+◌, ◌-◌, ◌*◌, ◌/◌, ◌%◌, ◌<◌, ◌≤◌, refl, sym, ap, ◌∙◌}
use Rattle.std.proofs.lemmas.Nat.{div-add-mod', div-mul-add}
use Rattle.std.proofs.Math.Nat.{add-mul-div_right}
use Rattle.std.proofs.Common.{List, ◌++◌, ◌∷◌, [], decimal, true, false}
use Rattle.std.proofs.lemmas.List.{append_assoc}
use Rattle.udfs_overview.specs.Figures.{rounded, is_short_in, percent_text, unit_of}
use Rattle.udfs_overview.proofs.Commas.{hundreds_and}

-- whole numbers go in front
pub rounded_behind : (a b q r : ℕ) → 0 < b → a ≡ q * b + r → rounded a b ≡ q + rounded r b
rounded_behind a b q r some e =
    ap (λ n. n / (2 * b)) (omega arith) ∙ add-mul-div_right (2 * r + b) q (omega arith) ∙ omega arith

-- a quotient by its bounds
div_is : (n d q r : ℕ) → n ≡ q * d + r → r < d → n / d ≡ q
div_is n d q r e h = ap (λ m. m / d) e ∙ div-mul-add q d r h

-- less than a half is rounded down, and a half and more is rounded up
pub rounded_down : (r b : ℕ) → 2 * r < b → rounded r b ≡ 0
rounded_down r b h = div_is (2 * r + b) (2 * b) 0 (2 * r + b) (omega arith) (omega arith)

pub rounded_up : (r b : ℕ) → r < b → b ≤ 2 * r → rounded r b ≡ 1
rounded_up r b h l = div_is (2 * r + b) (2 * b) 1 (2 * r - b) (omega arith) (omega arith)

-- wholes go in front of a part in thousandths
part_of : (part whole : ℕ) → 0 < whole → rounded (1000 * part) whole ≡ 1000 * (part / whole) + rounded (1000 * (part % whole)) whole
part_of part whole some =
    rounded_behind (1000 * part) whole (1000 * (part / whole)) (1000 * (part % whole)) some (omega (arith, div-add-mod' part whole))

-- the texts of a percentage in one row
one_row : (front tenth : List ℕ) → front ++ (46 ∷ []) ++ tenth ++ (32 ∷ 37 ∷ []) ≡ front ++ (46 ∷ (tenth ++ (32 ∷ 37 ∷ [])))
one_row front tenth = append_assoc (front ++ (46 ∷ [])) tenth (32 ∷ 37 ∷ []) ∙ append_assoc front (46 ∷ []) (tenth ++ (32 ∷ 37 ∷ []))

-- a percentage below 100.0
pub percent_below : (part whole tenths : ℕ) → 0 < whole → tenths ≡ rounded (1000 * (part % whole)) whole → part / whole + tenths / 1000 ≡ 0
    → percent_text part whole ≡ decimal (tenths / 10 % 100) ++ (46 ∷ (decimal (tenths % 10) ++ (32 ∷ 37 ∷ [])))
unfolding percent_text
percent_below part whole tenths some e z =
    let all : rounded (1000 * part) whole ≡ 1000 * (part / whole) + tenths = part_of part whole some ∙ ap (λ x. 1000 * (part / whole) + x) (sym e) in
    let front : (1000 * (part / whole) + tenths) / 10 ≡ tenths / 10 % 100 = omega arith in
    let last : (1000 * (part / whole) + tenths) % 10 ≡ tenths % 10 = omega arith in
    rw (all, front, last) (one_row (decimal (tenths / 10 % 100)) (decimal (tenths % 10)))

-- a percentage of 100.0 and more
pub percent_above : (part whole tenths : ℕ) → 0 < whole → tenths ≡ rounded (1000 * (part % whole)) whole
    → part / whole + tenths / 1000 < 10 ^ 60 → 0 < part / whole + tenths / 1000
    → percent_text part whole
    ≡ decimal (part / whole + tenths / 1000) ++ (decimal (tenths / 10 % 100 / 10) ++ (decimal (tenths / 10 % 100 % 10)
    ++ (46 ∷ (decimal (tenths % 10) ++ (32 ∷ 37 ∷ [])))))
unfolding percent_text
percent_above part whole tenths some e less many =
    let h : ℕ = part / whole + tenths / 1000 in
    let p : ℕ = tenths / 10 % 100 in
    let end : List ℕ = 46 ∷ (decimal (tenths % 10) ++ (32 ∷ 37 ∷ [])) in
    let all : rounded (1000 * part) whole ≡ 1000 * (part / whole) + tenths = part_of part whole some ∙ ap (λ x. 1000 * (part / whole) + x) (sym e) in
    let front : (1000 * (part / whole) + tenths) / 10 ≡ 100 * h + p = omega arith in
    let last : (1000 * (part / whole) + tenths) % 10 ≡ tenths % 10 = omega arith in
    rw (all, front, last)
    (one_row (decimal (100 * h + p)) (decimal (tenths % 10))
    ∙ ap (λ x. x ++ end) (sym (hundreds_and h p many less (omega arith)))
    ∙ append_assoc (decimal h) (decimal (p / 10) ++ decimal (p % 10)) end
    ∙ ap (λ x. decimal h ++ x) (append_assoc (decimal (p / 10)) (decimal (p % 10)) end))

-- the first unit in which a figure is short, or the last
pub first_unit : (n u : ℕ) → 1 ≤ u → u ≤ 8 → ((v : ℕ) → 1 ≤ v → v < u → is_short_in n v ≡ false) → (u < 8 → is_short_in n u ≡ true) → u ≡ unit_of n
unfolding unit_of
first_unit n zero some known longer short = absurd (omega arith)
first_unit n (suc zero) some known longer short = rw (short (omega arith)) refl
first_unit n (suc (suc zero)) some known longer short = rw (longer 1 (omega arith) (omega arith), short (omega arith)) refl
first_unit n (suc (suc (suc zero))) some known longer short = rw (longer 1 (omega arith) (omega arith), longer 2 (omega arith) (omega arith), short (omega arith)) refl
first_unit n (suc (suc (suc (suc zero)))) some known longer short = rw (longer 1 (omega arith) (omega arith), longer 2 (omega arith) (omega arith), longer 3 (omega arith) (omega arith), short (omega arith)) refl
first_unit n (suc (suc (suc (suc (suc zero))))) some known longer short = rw (longer 1 (omega arith) (omega arith), longer 2 (omega arith) (omega arith), longer 3 (omega arith) (omega arith), longer 4 (omega arith) (omega arith), short (omega arith)) refl
first_unit n (suc (suc (suc (suc (suc (suc zero)))))) some known longer short = rw (longer 1 (omega arith) (omega arith), longer 2 (omega arith) (omega arith), longer 3 (omega arith) (omega arith), longer 4 (omega arith) (omega arith), longer 5 (omega arith) (omega arith), short (omega arith)) refl
first_unit n (suc (suc (suc (suc (suc (suc (suc zero))))))) some known longer short = rw (longer 1 (omega arith) (omega arith), longer 2 (omega arith) (omega arith), longer 3 (omega arith) (omega arith), longer 4 (omega arith) (omega arith), longer 5 (omega arith) (omega arith), longer 6 (omega arith) (omega arith), short (omega arith)) refl
first_unit n (suc (suc (suc (suc (suc (suc (suc (suc zero)))))))) some known longer short = rw (longer 1 (omega arith) (omega arith), longer 2 (omega arith) (omega arith), longer 3 (omega arith) (omega arith), longer 4 (omega arith) (omega arith), longer 5 (omega arith) (omega arith), longer 6 (omega arith) (omega arith), longer 7 (omega arith) (omega arith)) refl
first_unit n (suc (suc (suc (suc (suc (suc (suc (suc (suc u))))))))) some known longer short = absurd (omega arith)
