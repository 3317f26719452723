-- The bytes of names, and how much of one fits.
use Rattle.std.proofs.Common.{◌≡◌, ◌∙◌, ◌<◌, ◌≤◌, ◌+◌, ap₂, sym, ℕ, false, true, Bool, cond, ap, arith, length, drop, nat_le, refl, List, [], ◌∷◌, ◌-◌, ◌*◌, ◌/◌, ◌%◌, ◌&&◌, ◌++◌, ◌==◌}
use Rattle.std.specs.Prelude.{Ok, Err}
use Rattle.std.specs.Str.{encode_utf8_all}
use Rattle.std.specs.Char.{len_utf8}
use Rattle.std.specs.Char.Utf16.{is_high_surrogate, is_low_surrogate}
use Rattle.std.proofs.lemmas.List.{append-nil}
use Rattle.std.proofs.lemmas.Str.{length-encode}
use Rattle.std.proofs.lemmas.Bool.Decides.{nat_tests}
use Rattle.udfs_osta.specs.Escapes.{escape, must_escape}
use Rattle.udfs_osta.specs.Fronts.{front_len}
use Rattle.udfs_osta.specs.declared.names.NameFault.TheVariants.{Odd}
use Rattle.udfs_osta.specs.Names.{pair_units, units_of}
use Rattle.udfs_extraction.specs.ShortNames.{front_bytes, front_count, unit_bytes, unit_size}

-- a unit that is not escaped has the bytes of its character
pub plain_size : (u : ℕ) → must_escape u ≡ false → unit_size u ≡ len_utf8 u
plain_size u plain = ap (λ b. length (encode_utf8_all (cond b (escape u) (u ∷ [])))) plain ∙ ap length (append-nil _) ∙ length-encode u

-- two bytes
pub two_bytes : (u : ℕ) → 128 ≤ u → u < 2048 → unit_size u ≡ 2
two_bytes u low high = let plain : must_escape u ≡ false = grind (arith, nat_tests) in plain_size u plain ∙ (let e : len_utf8 u ≡ 2 = grind (arith, nat_tests) in e)

-- three, of what is no surrogate
pub three_bytes : (u : ℕ) → 2048 ≤ u → u < 65536 → (0xD800 ≤ u → 0xE000 ≤ u) → unit_size u ≡ 3
three_bytes u low high none = let plain : must_escape u ≡ false = grind (arith, nat_tests, none) in plain_size u plain ∙ (let e : len_utf8 u ≡ 3 = grind (arith, nat_tests) in e)

by_pair : (b : Bool) (room u v : ℕ) (us : List ℕ) → cond b (cond (nat_le 4 room) (2 + front_count (room - 4) us) 0) (cond (nat_le (unit_size u) room) (1 + front_count (room - unit_size u) (v ∷ us)) 0)
    ≡ cond (nat_le (cond b 4 (unit_size u)) room) (cond b 2 1 + front_count (room - cond b 4 (unit_size u)) (drop (cond b 2 1) (u ∷ v ∷ us))) 0
by_pair true room u v us = refl
by_pair false room u v us = refl

-- the first character, and the rest
pub count_front : (room : ℕ) (units : List ℕ) → 0 < length units
    → front_count room units ≡ cond (nat_le (front_bytes units) room) (front_len units + front_count (room - front_bytes units) (drop (front_len units) units)) 0
unfolding front_count
count_front room [] some = absurd (omega arith)
count_front room (u ∷ []) some = refl
count_front room (u ∷ v ∷ us) some = by_pair (is_high_surrogate u && is_low_surrogate v) room u v us

-- where it fits, it is taken
pub taken_front : (room taken size : ℕ) (units others : List ℕ) → 0 < length units → taken ≡ front_len units → size ≡ front_bytes units → size ≤ room → others ≡ drop taken units
    → front_count room units ≡ taken + front_count (room - size) others
taken_front room taken size units others some is_taken is_size fits rest =
    let yes : nat_le (front_bytes units) room ≡ true = grind (arith, nat_tests) in
    count_front room units some
    ∙ ap (λ b. cond b (front_len units + front_count (room - front_bytes units) (drop (front_len units) units)) 0) yes
    ∙ ap₂ (λ t s. t + front_count (room - s) (drop t units)) (sym is_taken) (sym is_size)
    ∙ ap (λ us. taken + front_count (room - size) us) (sym rest)

-- and else nothing is
pub no_front : (room size : ℕ) (units : List ℕ) → 0 < length units → size ≡ front_bytes units → room < size → front_count room units ≡ 0
no_front room size units some is_size over =
    let no : nat_le (front_bytes units) room ≡ false = grind (arith, nat_tests) in
    count_front room units some ∙ ap (λ b. cond b (front_len units + front_count (room - front_bytes units) (drop (front_len units) units)) 0) no

-- ---- units and their bytes

pub unit_bytes-append : (us vs : List ℕ) → unit_bytes (us ++ vs) ≡ unit_bytes us ++ unit_bytes vs
unit_bytes-append [] vs = refl
unit_bytes-append (u ∷ us) vs = ap (λ l. u / 256 ∷ u % 256 ∷ l) (unit_bytes-append us vs)

units_back : (us : List ℕ) → pair_units (unit_bytes us) ≡ us
units_back [] = refl
units_back (u ∷ us) = let e : u / 256 * 256 + u % 256 ≡ u = omega arith in ap₂ (λ x l. x ∷ l) e (units_back us)

even_bytes : (us : List ℕ) → length (unit_bytes us) % 2 ≡ 0
even_bytes [] = refl
even_bytes (u ∷ us) = omega (arith, even_bytes us)

-- the bytes of units behind a 16 are a name of these units
pub reads_back : (us : List ℕ) → 0 < length us → units_of (16 ∷ unit_bytes us) ≡ Ok us
reads_back [] some = absurd (omega arith)
reads_back (u ∷ us) some =
    let even : (length (unit_bytes (u ∷ us)) % 2 == 1) ≡ false = grind (arith, nat_tests, even_bytes (u ∷ us)) in
    ap (λ b. cond b (Err Odd) (Ok (pair_units (unit_bytes (u ∷ us))))) even ∙ ap Ok (units_back (u ∷ us))

pub is_read : (short us : List ℕ) → 0 < length us → units_of (16 ∷ unit_bytes us) ≡ Ok short → short ≡ us
is_read short us some e = let f : Ok short ≡ Ok us = sym e ∙ reads_back us some in cc
