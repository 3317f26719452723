-- How many bytes the escaped form of a short name has.
use Rattle.std.proofs.Common.{◌≡◌, ◌∙◌, ◌<◌, ◌≤◌, ◌+◌, ◌-◌, ◌^◌, ◌&&◌, ◌++◌, ◌∷◌, [], ℕ, zero, suc, Bool, true, false, List, ap, arith, cond, length, length-append, nat_le, nat_lt, refl, slice_index, subst, sym, take}
use Rattle.std.specs.Prelude.{⊤, ◌==◌, decimal}
use Rattle.std.specs.List.{flat_map, list_all}
use Rattle.std.specs.Char.{is_ascii_digit, len_utf8}
use Rattle.std.specs.Char.Utf16.{is_high_surrogate, is_low_surrogate, surrogate_pair_char}
use Rattle.std.specs.Str.{all_ascii_digits, encode_utf8_all}
use Rattle.std.proofs.Math.Utf8.{encode}
use Rattle.std.proofs.lemmas.List.{append-nil}
use Rattle.std.proofs.lemmas.Str.{length-encode, length-le-encodes}
use Rattle.std.proofs.lemmas.Fmt.{digits_decimal, length-decimal-le}
use Rattle.std.proofs.lemmas.Str.Parse.{numerals_by_value, tells_all_ascii_digits}
use Rattle.std.proofs.Math.Bool.{and-false}
use Rattle.std.proofs.lemmas.Bool.Decides.{nat_tests}
use Rattle.udfs_osta.specs.Escapes.{escape, escaped, is_dots, must_escape, shown, shown_unit}
use Rattle.udfs_osta.proofs.PublicLaws.{escaped_name_is_path_part}
use Rattle.udfs_tag.specs.declared.layouts.LbAddr.{LbAddr}
use Rattle.udfs_extraction.specs.ShortNames.{IsFileName, IsShortOf, front_count, icb_number, short_end, short_name, unit_bytes, unit_size}
use Rattle.udfs_extraction.proofs.ShortNameLemmas.{plain_size, reads_back}

-- the bytes of units
abbrev pub size : List ℕ → ℕ
size us = length (encode_utf8_all (shown us))

bytes_more : (xs ys : List ℕ) → length (encode_utf8_all (xs ++ ys)) ≡ length (encode_utf8_all xs) + length (encode_utf8_all ys)
bytes_more [] ys = omega arith
bytes_more (x ∷ xs) ys =
    let all : length (encode x ++ encode_utf8_all (xs ++ ys)) ≡ length (encode x) + length (encode_utf8_all (xs ++ ys)) = length-append _ _ in
    let front : length (encode x ++ encode_utf8_all xs) ≡ length (encode x) + length (encode_utf8_all xs) = length-append _ _ in
    let rest : length (encode_utf8_all (xs ++ ys)) ≡ length (encode_utf8_all xs) + length (encode_utf8_all ys) = bytes_more xs ys in
    omega (arith, all, front, rest)

-- a unit that begins no pair is shown by itself
shown_step : (u : ℕ) (us : List ℕ) → (is_high_surrogate u && is_low_surrogate (slice_index us 0)) ≡ false → shown (u ∷ us) ≡ shown_unit u ++ shown us
unfolding shown
shown_step u [] alone = sym (append-nil _)
shown_step u (v ∷ us) alone = ap (λ b. cond b (surrogate_pair_char u v ∷ shown us) (shown_unit u ++ shown (v ∷ us))) alone

size_step : (u : ℕ) (us : List ℕ) → (is_high_surrogate u && is_low_surrogate (slice_index us 0)) ≡ false → size (u ∷ us) ≡ unit_size u + size us
size_step u us alone = ap (λ t. length (encode_utf8_all t)) (shown_step u us alone) ∙ bytes_more (shown_unit u) (shown us)

-- a pair has four bytes
size_pair : (u v : ℕ) (us : List ℕ) → (is_high_surrogate u && is_low_surrogate v) ≡ true → size (u ∷ v ∷ us) ≡ 4 + size us
unfolding shown
size_pair u v us pair =
    let is : shown (u ∷ v ∷ us) ≡ surrogate_pair_char u v ∷ shown us = ap (λ b. cond b (surrogate_pair_char u v ∷ shown us) (shown_unit u ++ shown (v ∷ us))) pair in
    let four : len_utf8 (surrogate_pair_char u v) ≡ 4 = grind (arith, nat_tests) in
    let all : length (encode (surrogate_pair_char u v) ++ encode_utf8_all (shown us)) ≡ length (encode (surrogate_pair_char u v)) + length (encode_utf8_all (shown us)) = length-append _ _ in
    ap (λ t. length (encode_utf8_all t)) is ∙ (omega (arith, all, four, length-encode (surrogate_pair_char u v)))

-- ---- what stands behind the beginning

-- bytes of ASCII of which none is escaped
abbrev pub AllShown : List ℕ → Type 0
AllShown [] = ⊤
AllShown (c ∷ cs) = (c < 128) × (must_escape c ≡ false) × AllShown cs

shown_more : (xs ys : List ℕ) → AllShown xs → AllShown ys → AllShown (xs ++ ys)
shown_more [] ys h k = k
shown_more (x ∷ xs) ys h k = (h.0, h.1, shown_more xs ys h.2 k)

no_pair : (c d : ℕ) → c < 128 → (is_high_surrogate c && is_low_surrogate d) ≡ false
no_pair c d low = grind (arith, nat_tests)

shown_size : (cs : List ℕ) → AllShown cs → size cs ≡ length cs
unfolding shown
shown_size [] h = refl
shown_size (c ∷ cs) h =
    let one : len_utf8 c ≡ 1 = grind (arith, nat_tests, h.0) in
    let step : size (c ∷ cs) ≡ unit_size c + size cs = size_step c cs (no_pair c (slice_index cs 0) h.0) in
    let rest : size cs ≡ length cs = shown_size cs h.2 in
    let plain : unit_size c ≡ len_utf8 c = plain_size c h.1 in
    omega (arith, one, step, rest, plain)

-- behind it a name stands by itself
behind : (u d : ℕ) (ds : List ℕ) → AllShown (d ∷ ds) → (is_high_surrogate u && is_low_surrogate d) ≡ false
behind u d ds h = grind (arith, nat_tests, h.0)

-- ---- the beginning with it

with_pair : (c : Bool) (room u v k : ℕ) (us end : List ℕ) → nat_le 4 room ≡ c → (is_high_surrogate u && is_low_surrogate v) ≡ true → AllShown end
    → size (take k us ++ end) ≤ room - 4 + length end → size (take (cond c (2 + k) 0) (u ∷ v ∷ us) ++ end) ≤ room + length end
with_pair false room u v k us end fits pair plain rest = let e : size end ≡ length end = shown_size end plain in omega (arith, e)
with_pair true room u v k us end fits pair plain rest =
    let two : 2 + k ≡ suc (suc k) = omega arith in
    let few : 4 ≤ room = grind (arith, nat_tests, fits) in
    let is : size (take (suc (suc k)) (u ∷ v ∷ us) ++ end) ≡ 4 + size (take k us ++ end) = size_pair u v (take k us ++ end) pair in
    subst (λ n. size (take n (u ∷ v ∷ us) ++ end) ≤ room + length end) (sym two) (omega (arith, few, is, rest))

with_unit : (c : Bool) (room u k : ℕ) (us end : List ℕ) → nat_le (unit_size u) room ≡ c → AllShown end
    → (is_high_surrogate u && is_low_surrogate (slice_index (take k us ++ end) 0)) ≡ false
    → size (take k us ++ end) ≤ room - unit_size u + length end → size (take (cond c (1 + k) 0) (u ∷ us) ++ end) ≤ room + length end
with_unit false room u k us end fits plain alone rest = let e : size end ≡ length end = shown_size end plain in omega (arith, e)
with_unit true room u k us end fits plain alone rest =
    let one : 1 + k ≡ suc k = omega arith in
    let few : unit_size u ≤ room = grind (arith, nat_tests, fits) in
    let is : size (take (suc k) (u ∷ us) ++ end) ≡ unit_size u + size (take k us ++ end) = size_step u (take k us ++ end) alone in
    subst (λ n. size (take n (u ∷ us) ++ end) ≤ room + length end) (sym one) (omega (arith, few, is, rest))

-- what is next is the next unit, or the end
next : (u v k : ℕ) (us end : List ℕ) → (is_high_surrogate u && is_low_surrogate v) ≡ false → 0 < length end → AllShown end
    → (is_high_surrogate u && is_low_surrogate (slice_index (take k (v ∷ us) ++ end) 0)) ≡ false
next u v zero us [] alone some plain = absurd (omega (arith, some))
next u v zero us (d ∷ ds) alone some plain = behind u d ds plain
next u v (suc k) us end alone some plain = alone

by_first : (b : Bool) (room u v : ℕ) (us end : List ℕ) → (is_high_surrogate u && is_low_surrogate v) ≡ b → 0 < length end → AllShown end
    → size (take (front_count (room - 4) us) us ++ end) ≤ room - 4 + length end
    → size (take (front_count (room - unit_size u) (v ∷ us)) (v ∷ us) ++ end) ≤ room - unit_size u + length end
    → size (take (cond b (cond (nat_le 4 room) (2 + front_count (room - 4) us) 0) (cond (nat_le (unit_size u) room) (1 + front_count (room - unit_size u) (v ∷ us)) 0)) (u ∷ v ∷ us) ++ end) ≤ room + length end
by_first true room u v us end is some plain pair unit = with_pair (nat_le 4 room) room u v (front_count (room - 4) us) us end refl is plain pair
by_first false room u v us end is some plain pair unit =
    with_unit (nat_le (unit_size u) room) room u (front_count (room - unit_size u) (v ∷ us)) (v ∷ us) end refl plain
    (next u v (front_count (room - unit_size u) (v ∷ us)) us end is some plain) unit

-- the beginning has at most so many bytes
pub front_size : (room : ℕ) (us end : List ℕ) → 0 < length end → AllShown end → size (take (front_count room us) us ++ end) ≤ room + length end
unfolding front_count
front_size room [] end some plain = let e : size end ≡ length end = shown_size end plain in omega (arith, e)
front_size room (u ∷ []) [] some plain = absurd (omega (arith, some))
front_size room (u ∷ []) (d ∷ ds) some plain =
    with_unit (nat_le (unit_size u) room) room u 0 [] (d ∷ ds) refl plain (behind u d ds plain)
    (let e : size (d ∷ ds) ≡ length (d ∷ ds) = shown_size (d ∷ ds) plain in omega (arith, e))
front_size room (u ∷ v ∷ us) end some plain =
    by_first (is_high_surrogate u && is_low_surrogate v) room u v us end refl some plain (front_size (room - 4) us end some plain) (front_size (room - unit_size u) (v ∷ us) end some plain)

-- ---- and no more has room

-- a surrogate in no pair has more bytes than a pair
escaped_unit : (u : ℕ) → must_escape u ≡ true → 6 ≤ unit_size u
escaped_unit u odd =
    let is : shown_unit u ≡ escape u = ap (λ b. cond b (escape u) (u ∷ [])) odd in
    let least : length (escape u) ≤ length (encode_utf8_all (escape u)) = length-le-encodes (escape u) in
    subst (λ t. 6 ≤ length (encode_utf8_all t)) (sym is) (omega (arith, least))

surrogate : (u d : ℕ) → (is_high_surrogate u && is_low_surrogate d) ≡ true → must_escape u ≡ true
surrogate u d pair = grind (arith, nat_tests, pair)

-- what is in front takes no byte away
by_front : (b : Bool) (u v : ℕ) (us end : List ℕ) → (is_high_surrogate u && is_low_surrogate v) ≡ b
    → length end ≤ size (us ++ end) → length end ≤ size (v ∷ us ++ end) → length end ≤ size (u ∷ v ∷ us ++ end)
by_front true u v us end is pair unit = omega (arith, pair, size_pair u v (us ++ end) is)
by_front false u v us end is pair unit = omega (arith, unit, size_step u (v ∷ us ++ end) is)

least : (us end : List ℕ) → 0 < length end → AllShown end → length end ≤ size (us ++ end)
least [] end some plain = omega (arith, shown_size end plain)
least (u ∷ []) [] some plain = absurd (omega (arith, some))
least (u ∷ []) (d ∷ ds) some plain = omega (arith, shown_size (d ∷ ds) plain, size_step u (d ∷ ds) (behind u d ds plain))
least (u ∷ v ∷ us) end some plain = by_front (is_high_surrogate u && is_low_surrogate v) u v us end refl (least us end some plain) (least (v ∷ us) end some plain)

-- each longer beginning with the end has more bytes than there is room
abbrev pub Over : ℕ → ℕ → List ℕ → List ℕ → Type 0
Over count room us end = (k : ℕ) → count < k → k ≤ length us → room + length end < size (take k us ++ end)

over_pair : (c : Bool) (room u v f : ℕ) (us end : List ℕ) → nat_le 4 room ≡ c → (is_high_surrogate u && is_low_surrogate v) ≡ true → 0 < length end → AllShown end
    → Over f (room - 4) us end → Over (cond c (2 + f) 0) room (u ∷ v ∷ us) end
over_pair c room u v f us end fits pair some plain rest zero more within = absurd (omega (arith, more))
over_pair true room u v f us end fits pair some plain rest (suc zero) more within = absurd (omega (arith, more))
over_pair false room u v f us [] fits pair some plain rest (suc zero) more within = absurd (omega (arith, some))
over_pair false room u v f us (d ∷ ds) fits pair some plain rest (suc zero) more within =
    let few : room < 4 = grind (arith, nat_tests, fits) in
    let is : size (u ∷ d ∷ ds) ≡ unit_size u + size (d ∷ ds) = size_step u (d ∷ ds) (behind u d ds plain) in
    omega (arith, few, is, escaped_unit u (surrogate u v pair), shown_size (d ∷ ds) plain)
over_pair true room u v f us end fits pair some plain rest (suc (suc k)) more within =
    let is : size (u ∷ v ∷ (take k us ++ end)) ≡ 4 + size (take k us ++ end) = size_pair u v (take k us ++ end) pair in
    let over : room - 4 + length end < size (take k us ++ end) = rest k (omega (arith, more)) (omega (arith, within)) in
    omega (arith, is, over)
over_pair false room u v f us end fits pair some plain rest (suc (suc k)) more within =
    let few : room < 4 = grind (arith, nat_tests, fits) in
    let is : size (u ∷ v ∷ (take k us ++ end)) ≡ 4 + size (take k us ++ end) = size_pair u v (take k us ++ end) pair in
    omega (arith, few, is, least (take k us) end some plain)

over_unit : (c : Bool) (room u f : ℕ) (us end : List ℕ) → nat_le (unit_size u) room ≡ c → 0 < length end → AllShown end
    → ((k : ℕ) → (is_high_surrogate u && is_low_surrogate (slice_index (take k us ++ end) 0)) ≡ false)
    → Over f (room - unit_size u) us end → Over (cond c (1 + f) 0) room (u ∷ us) end
over_unit c room u f us end fits some plain alone rest zero more within = absurd (omega (arith, more))
over_unit true room u f us end fits some plain alone rest (suc k) more within =
    let is : size (u ∷ (take k us ++ end)) ≡ unit_size u + size (take k us ++ end) = size_step u (take k us ++ end) (alone k) in
    let over : room - unit_size u + length end < size (take k us ++ end) = rest k (omega (arith, more)) (omega (arith, within)) in
    omega (arith, is, over)
over_unit false room u f us end fits some plain alone rest (suc k) more within =
    let few : room < unit_size u = grind (arith, nat_tests, fits) in
    let is : size (u ∷ (take k us ++ end)) ≡ unit_size u + size (take k us ++ end) = size_step u (take k us ++ end) (alone k) in
    omega (arith, few, is, least (take k us) end some plain)

over_first : (b : Bool) (room u v : ℕ) (us end : List ℕ) → (is_high_surrogate u && is_low_surrogate v) ≡ b → 0 < length end → AllShown end
    → Over (front_count (room - 4) us) (room - 4) us end
    → Over (front_count (room - unit_size u) (v ∷ us)) (room - unit_size u) (v ∷ us) end
    → Over (cond b (cond (nat_le 4 room) (2 + front_count (room - 4) us) 0) (cond (nat_le (unit_size u) room) (1 + front_count (room - unit_size u) (v ∷ us)) 0)) room (u ∷ v ∷ us) end
over_first true room u v us end is some plain pair unit = over_pair (nat_le 4 room) room u v (front_count (room - 4) us) us end refl is some plain pair
over_first false room u v us end is some plain pair unit =
    over_unit (nat_le (unit_size u) room) room u (front_count (room - unit_size u) (v ∷ us)) (v ∷ us) end refl some plain (λ k. next u v k us end is some plain) unit

at_end : (u k d : ℕ) (ds : List ℕ) → AllShown (d ∷ ds) → (is_high_surrogate u && is_low_surrogate (slice_index (take k [] ++ d ∷ ds) 0)) ≡ false
at_end u zero d ds plain = behind u d ds plain
at_end u (suc k) d ds plain = behind u d ds plain

-- a longer beginning has more bytes
pub front_over : (room : ℕ) (us end : List ℕ) → 0 < length end → AllShown end → Over (front_count room us) room us end
unfolding front_count
front_over room [] end some plain k more within = absurd (omega (arith, more, within))
front_over room (u ∷ []) [] some plain k more within = absurd (omega (arith, some))
front_over room (u ∷ []) (d ∷ ds) some plain k more within =
    over_unit (nat_le (unit_size u) room) room u 0 [] (d ∷ ds) refl some plain (λ j. at_end u j d ds plain) (λ j j_more j_within. absurd (omega (arith, j_more, j_within))) k more within
front_over room (u ∷ v ∷ us) end some plain k more within =
    over_first (is_high_surrogate u && is_low_surrogate v) room u v us end refl some plain (front_over (room - 4) us end some plain) (front_over (room - unit_size u) (v ∷ us) end some plain) k more within

-- ---- the number behind it

both : (a b : Bool) → (a && b) ≡ true → (a ≡ true) × (b ≡ true)
both true b h = (refl, h)
both false b h = let bad : false ≡ true = h in cc

digits_shown : (ds : List ℕ) → all_ascii_digits ds ≡ true → AllShown ds
digits_shown [] h = tt
digits_shown (c ∷ cs) h =
    let each : (is_ascii_digit c ≡ true) × (all_ascii_digits cs ≡ true) = both (is_ascii_digit c) (all_ascii_digits cs) h in
    (grind (arith, nat_tests, each.0), grind (arith, nat_tests, each.0), digits_shown cs each.1)

decimal_shown : (n : ℕ) → n < 2 ^ 64 → AllShown (decimal n)
decimal_shown n small = digits_shown (decimal n) (digits_decimal (numerals_by_value (λ ds. all_ascii_digits ds ≡ true) tells_all_ascii_digits) n small)

-- it is of ASCII, of which nothing is escaped, and has at most 17 bytes
pub end_shown : (two : Bool) (icb : LbAddr) → icb.block < 2 ^ 32 → icb.reference < 2 ^ 16 → AllShown (short_end two icb)
end_shown true icb block reference =
    let front : AllShown (decimal icb.reference ++ 45 ∷ []) = shown_more (decimal icb.reference) (45 ∷ []) (decimal_shown icb.reference (omega (arith, reference))) (omega arith, refl, tt) in
    (omega arith, refl, shown_more (decimal icb.reference ++ 45 ∷ []) (decimal icb.block) front (decimal_shown icb.block (omega (arith, block))))
end_shown false icb block reference = (omega arith, refl, decimal_shown icb.block (omega (arith, block)))

pub end_length : (two : Bool) (icb : LbAddr) → icb.block < 2 ^ 32 → icb.reference < 2 ^ 16 → length (short_end two icb) ≤ 17
end_length true icb block reference =
    let front : length (decimal icb.reference) ≤ 5 = length-decimal-le 5 icb.reference (omega arith) (omega (arith, reference)) (omega (arith, reference)) in
    let back : length (decimal icb.block) ≤ 10 = length-decimal-le 10 icb.block (omega arith) (omega (arith, block)) (omega (arith, block)) in
    let one : length (decimal icb.reference ++ 45 ∷ []) ≡ length (decimal icb.reference) + 1 = length-append (decimal icb.reference) (45 ∷ []) in
    let is : length (icb_number true icb.reference icb.block) ≡ length (decimal icb.reference ++ 45 ∷ []) + length (decimal icb.block) = length-append (decimal icb.reference ++ 45 ∷ []) (decimal icb.block) in
    omega (arith, front, back, one, is)
end_length false icb block reference =
    let back : length (decimal icb.block) ≤ 10 = length-decimal-le 10 icb.block (omega arith) (omega (arith, block)) (omega (arith, block)) in
    omega (arith, back)

-- ---- the whole name

-- it has a `~`, and so is neither `.` nor `..`
no_dots : (xs ys : List ℕ) → list_all (λ u. u == 46) (xs ++ 126 ∷ ys) ≡ false
no_dots [] ys = refl
no_dots (x ∷ xs) ys = ap (λ b. (x == 46) && b) (no_dots xs ys) ∙ and-false (x == 46)

is_name : (xs ys : List ℕ) → is_dots (xs ++ 126 ∷ ys) ≡ false
is_name xs ys = ap (λ b. nat_lt (length (xs ++ 126 ∷ ys)) 3 && b) (no_dots xs ys) ∙ and-false (nat_lt (length (xs ++ 126 ∷ ys)) 3)

escaped_size : (xs ys : List ℕ) → length (escaped (xs ++ 126 ∷ ys)) ≡ size (xs ++ 126 ∷ ys)
unfolding escaped
escaped_size xs ys = ap (λ b. length (encode_utf8_all (cond b (flat_map escape (xs ++ 126 ∷ ys)) (shown (xs ++ 126 ∷ ys))))) (is_name xs ys)

-- a short name is one that file systems take
pub short_fits : (two : Bool) (icb : LbAddr) (name : List ℕ) → icb.block < 2 ^ 32 → icb.reference < 2 ^ 16 → IsFileName (short_name two icb name)
short_fits two icb name block reference =
    let end = short_end two icb in
    let room = 255 - length end in
    let few : length end ≤ 17 = end_length two icb block reference in
    let all : size (take (front_count room name) name ++ end) ≤ room + length end = front_size room name end (omega arith) (end_shown two icb block reference) in
    let is : length (escaped (take (front_count room name) name ++ end)) ≡ size (take (front_count room name) name ++ end) = escaped_size (take (front_count room name) name) (icb_number two icb.reference icb.block) in
    let some : 0 < length (take (front_count room name) name ++ end) = omega (arith, length-append (take (front_count room name) name) end) in
    record {
      few = omega (arith, few, all, is);
      part = escaped_name_is_path_part (16 ∷ unit_bytes (short_name two icb name)) (short_name two icb name) (reads_back (short_name two icb name) some);
    }

-- and no longer one is
pub is_short_of : (two : Bool) (icb : LbAddr) (name : List ℕ) → icb.block < 2 ^ 32 → icb.reference < 2 ^ 16 → IsShortOf name (short_end two icb) (short_name two icb name)
is_short_of two icb name block reference =
    let end = short_end two icb in
    let few : length end ≤ 17 = end_length two icb block reference in
    record {
      count = front_count (255 - length end) name;
      is = refl;
      fits = short_fits two icb name block reference;
      longest = λ k more within.
          let over : 255 - length end + length end < size (take k name ++ end) = front_over (255 - length end) name end (omega arith) (end_shown two icb block reference) k more within in
          let is : length (escaped (take k name ++ end)) ≡ size (take k name ++ end) = escaped_size (take k name) (icb_number two icb.reference icb.block) in
          omega (arith, few, over, is);
    }
