-- The text of a local time shows the fields of its bytes.
use Rattle.std.proofs.Common.{◌≡◌, ℕ, ◌+◌, ◌*◌, ◌&&◌, ◌==◌, Bool, not, true, false, List, get_or, refl, ◌∙◌, arith, ℤ, pos, neg_ℤ, ◌+ℤ◌, ◌*ℤ◌, ◌≤ℤ◌}
use Rattle.std.specs.Prelude.{int_le}
use Rattle.std.proofs.lemmas.List.{append-nil}
use Rattle.jiff_core.specs.Calendar.{days_from_civil}
use Rattle.jiff_core.proofs.SignedLemmas.{signed_arith}
use Rattle.jiff_core.proofs.CalendarLemmas.{days_from_civil-day_count}
use Rattle.udfs_osta.specs.declared.stamps.Stamp.{Stamp}
use Rattle.udfs_osta.specs.declared.stamps.Stamp.TheVariants.{Utc, Local, Invalid}
use Rattle.udfs_osta.specs.Stamps.{year_of, stamp_kind, has_no_offset, is_civil, fraction_micros, civil_micros, stamp_of}
use Rattle.udfs_osta.specs.StampTexts.{moment_text, is_shown, stamp_text, fields_text}
use Rattle.udfs_osta.proofs.Times.{day_count_range, civil_fields}
use Rattle.udfs_osta.proofs.MomentTexts.{moment_text-printed}
use Rattle.udfs_osta.proofs.Choices.{chosen, not_false}

first_of : (a b : Bool) → not (a && b) ≡ false → a ≡ true
first_of true b h = refl
first_of false b h = cc

abbrev IsLocalOf : List ℕ → ℤ → Stamp → Type 0
IsLocalOf bytes us stamp = stamp ≡ Local us → (is_civil bytes ≡ true) × (us ≡ civil_micros bytes)

local_is : (bytes : List ℕ) (us : ℤ) → IsLocalOf bytes us (stamp_of bytes)
unfolding stamp_of
local_is bytes us =
    chosen (IsLocalOf bytes us) (not (is_civil bytes && stamp_kind bytes == 1)) Invalid _ (λ t e. cc) (λ t.
    let civil = first_of (is_civil bytes) (stamp_kind bytes == 1) t in
    chosen (IsLocalOf bytes us) (has_no_offset bytes) (Local (civil_micros bytes)) _ (λ n e. (civil, (cc))) (λ n.
    chosen (IsLocalOf bytes us) _ (Utc _) Invalid (λ o e. cc) (λ o e. cc)))

ended : (us : ℤ) (text : List ℕ) → is_shown us ≡ true → moment_text us ≡ text → stamp_text (Local us) ≡ text
unfolding stamp_text
ended us text h e = rw h (append-nil (moment_text us) ∙ e)

at_most : (a b : ℤ) → a ≤ℤ b → int_le a b ≡ true
at_most a b h = not_false (int_le a b) (λ e. omega (arith, signed_arith))

pub local_text : (bytes : List ℕ) (us : ℤ) → stamp_of bytes ≡ Local us → stamp_text (Local us) ≡ fields_text bytes
unfolding civil_micros
local_text bytes us e =
    let known = local_is bytes us e in
    let f = civil_fields bytes known.0 in
    let Y = pos (year_of bytes) in
    let M = get_or bytes 4 0 in
    let D = get_or bytes 5 0 in
    let hour = f.hour in
    let minute = f.minute in
    let second = f.second in
    let fraction = f.fraction in
    let low = f.year_low in
    let high = f.year_high in
    let days = day_count_range Y M D f.date (omega (arith, signed_arith)) (omega (arith, signed_arith)) in
    let number = days_from_civil-day_count Y M D in
    let us_is : us ≡ days_from_civil Y M D *ℤ pos 86_400_000_000 +ℤ pos ((get_or bytes 6 0 * 3600 + get_or bytes 7 0 * 60 + get_or bytes 8 0) * 1_000_000 + fraction_micros bytes) = known.1 in
    let from : neg_ℤ (pos 62_167_219_200_000_000) ≤ℤ us = omega (arith, signed_arith) in
    let to : us ≤ℤ pos 253_402_207_200_999_999 = omega (arith, signed_arith) in
    let shown : is_shown us ≡ true = rw (at_most _ _ from, at_most _ _ to) refl in
    ended us (fields_text bytes) shown
    (moment_text-printed us (year_of bytes) M D (get_or bytes 6 0) (get_or bytes 7 0) (get_or bytes 8 0) (fraction_micros bytes) f.date
    (record { hour_in = hour; minute_in = minute; second_in = second; fraction_in = fraction }) us_is)
