-- The text of a moment, in digits of our own and as jiff prints it.
use Rattle.std.proofs.Common.{◌≡◌, ℕ, ◌+◌, ◌-◌, ◌*◌, ◌/◌, ◌%◌, ◌<◌, true, false, List, [], ◌∷◌, ◌++◌, refl, sym, ap, subst, ◌∙◌, arith, ℤ, pos, negsuc, neg_ℤ, ◌+ℤ◌, ◌*ℤ◌, ◌≤ℤ◌, unsigned_abs}
use Rattle.std.specs.Prelude.{Some, codes, int_le}
use Rattle.jiff_core.specs.declared.civil.datetime.DateTime.{DateTime}
use Rattle.jiff_core.specs.Calendar.{days_from_civil, day_count, IsCivilDate}
use Rattle.jiff_core.specs.DateTime.{civil_nanos}
use Rattle.jiff_core.proofs.SignedLemmas.{signed_arith}
use Rattle.jiff_core.proofs.CalendarLemmas.{days_from_civil-day_count}
use Rattle.jiff_core.proofs.DateLemmas.{civil}
use Rattle.jiff_core.proofs.DateTimeLemmas.{civil_nanos-parts, time_nanos_bound}
use Rattle.jiff_fmt.specs.Text.{datetime_text, places, year_text, pad2}
use Rattle.udfs_osta.specs.StampTexts.{CivilDate, civil_date, six_digits, date_text, time_text, clock_text, micros_from_0000, moment_text, is_shown, ended_text}
use Rattle.udfs_osta.proofs.CivilDates.{civil_date-day_count, day_count-from_0000, year-from_0000}
use Rattle.udfs_osta.proofs.Choices.{both}

abs_is : (z : ℤ) → pos 0 ≤ℤ z → z ≡ pos (unsigned_abs z)
abs_is (pos n) h = refl
abs_is (negsuc n) h = absurd (omega (arith, signed_arith))

-- a date and a time of day, printed
abbrev pub printed : CivilDate → ℕ → ℕ → ℕ → ℕ → List ℕ
printed date hour minute second fraction = date_text date ++ codes "T" ++ time_text hour minute second fraction

same_printed : (c d : CivilDate) (h h2 m m2 s s2 f f2 : ℕ) → c ≡ d → h ≡ h2 → m ≡ m2 → s ≡ s2 → f ≡ f2 → printed c h m s f ≡ printed d h2 m2 s2 f2
same_printed c d h h2 m m2 s s2 f f2 e1 e2 e3 e4 e5 =
    ap (λ x. printed x h m s f) e1 ∙ ap (λ x. printed d x m s f) e2 ∙ ap (λ x. printed d h2 x s f) e3 ∙ ap (λ x. printed d h2 m2 x f) e4 ∙ ap (λ x. printed d h2 m2 s2 x) e5

-- a civil time in parts
pub record IsCivilTime (hour minute second fraction : ℕ) : Type 0 where
  pub hour_in : hour < 24
  pub minute_in : minute < 60
  pub second_in : second < 60
  pub fraction_in : fraction < 1_000_000

abbrev pub micros_of_day : ℕ → ℕ → ℕ → ℕ → ℕ
micros_of_day hour minute second fraction = (hour * 3600 + minute * 60 + second) * 1_000_000 + fraction

-- the text of a moment shows the date and the time of day from which the moment comes
pub moment_text-printed : (us : ℤ) (year month day hour minute second fraction : ℕ) → IsCivilDate (pos year) month day → IsCivilTime hour minute second fraction
    → us ≡ days_from_civil (pos year) month day *ℤ pos 86_400_000_000 +ℤ pos (micros_of_day hour minute second fraction)
    → moment_text us ≡ printed (record { year = year; month = month; day = day }) hour minute second fraction
unfolding moment_text
moment_text-printed us year month day hour minute second fraction h t e =
    let hh = t.hour_in in
    let hm = t.minute_in in
    let hs = t.second_in in
    let hf = t.fraction_in in
    let number = days_from_civil-day_count (pos year) month day in
    let low = day_count-from_0000 year month day h in
    let days = day_count (pos year) month day - 3_652_425 in
    let micros = micros_of_day hour minute second fraction in
    let since = us +ℤ pos 62_167_219_200_000_000 in
    let up : pos 0 ≤ℤ since = omega (arith, signed_arith) in
    let natural : since ≡ pos (micros_from_0000 us) = abs_is since up in
    let whole : micros_from_0000 us ≡ days * 86_400_000_000 + micros = omega (arith, signed_arith) in
    let quotient : micros_from_0000 us / 86_400_000_000 ≡ days = omega arith in
    let rest : micros_from_0000 us % 86_400_000_000 ≡ micros = omega arith in
    let date = civil_date-day_count year month day days h (omega arith) in
    ap (λ n. date_text (civil_date n) ++ codes "T" ++ clock_text (micros_from_0000 us % 86_400_000_000)) quotient
    ∙ ap (λ n. date_text (civil_date days) ++ codes "T" ++ clock_text n) rest
    ∙ same_printed (civil_date days) (record { year = year; month = month; day = day }) (micros / 3_600_000_000) hour (micros / 60_000_000 % 60) minute (micros / 1_000_000 % 60) second (micros % 1_000_000) fraction
    date (omega arith) (omega arith) (omega arith) (omega arith)

-- jiff's six places of a fraction of whole microseconds
places-six : (ns f : ℕ) → ns ≡ f * 1000 → f < 1_000_000 → places 6 1_000_000_000 ns ≡ six_digits f
unfolding places
places-six ns f e h =
    let a : ns / 100_000_000 ≡ f / 10000 / 10 = omega arith in
    let b : ns % 100_000_000 / 10_000_000 ≡ f / 10000 % 10 = omega arith in
    let c : ns % 100_000_000 % 10_000_000 / 1_000_000 ≡ f / 100 % 100 / 10 = omega arith in
    let d : ns % 100_000_000 % 10_000_000 % 1_000_000 / 100_000 ≡ f / 100 % 100 % 10 = omega arith in
    let x : ns % 100_000_000 % 10_000_000 % 1_000_000 % 100_000 / 10_000 ≡ f % 100 / 10 = omega arith in
    let y : ns % 100_000_000 % 10_000_000 % 1_000_000 % 100_000 % 10_000 / 1_000 ≡ f % 100 % 10 = omega arith in
    rw (a, b, c, d, x, y) refl

jiff_printed : (y : ℤ) (year m d h mi s ns f : ℕ) → y ≡ pos year → places 6 1_000_000_000 ns ≡ six_digits f
    → (year_text y ++ 45 ∷ [] ++ pad2 m ++ 45 ∷ [] ++ pad2 d) ++ 84 ∷ (pad2 h ++ 58 ∷ pad2 mi ++ 58 ∷ pad2 s ++ 46 ∷ places 6 1_000_000_000 ns)
    ≡ printed (record { year = year; month = m; day = d }) h mi s f
jiff_printed y year m d h mi s ns f e p = rw (e, p) refl

-- jiff's text of the moment, with six places
pub datetime_text-moment_text : (us : ℤ) (dt : DateTime) → is_shown us ≡ true → civil_nanos dt ≡ us *ℤ pos 1000 → datetime_text false 84 (Some 6) dt ≡ moment_text us
datetime_text-moment_text us dt shown e =
    let above = int_le (neg_ℤ (pos 62_167_219_200_000_000)) us in
    let below = int_le us (pos 253_402_207_200_999_999) in
    let range : (above ≡ true) × (below ≡ true) = both above below shown in
    let low : neg_ℤ (pos 62_167_219_200_000_000) ≤ℤ us = omega (arith, signed_arith, range.0) in
    let parts = civil_nanos-parts dt in
    let clock = time_nanos_bound dt.time in
    let y = dt.date.year in
    let m = dt.date.month in
    let d = dt.date.day in
    let number = days_from_civil-day_count y m d in
    let from : pos 0 ≤ℤ y = year-from_0000 y m d (civil dt.date) (omega (arith, signed_arith)) in
    let year = unsigned_abs y in
    let same : y ≡ pos year = abs_is y from in
    let is_date : IsCivilDate (pos year) m d = subst (λ z. IsCivilDate z m d) same (civil dt.date) in
    let ns = dt.time.subsec_nanosecond in
    let f = ns / 1000 in
    let hour_in = dt.time.hour_in in
    let minute_in = dt.time.minute_in in
    let second_in = dt.time.second_in in
    let ns_in = dt.time.subsec_in in
    let whole : ns ≡ f * 1000 = omega (arith, signed_arith) in
    let below_million : f < 1_000_000 = omega arith in
    let day_is : days_from_civil y m d ≡ days_from_civil (pos year) m d = ap (λ z. days_from_civil z m d) same in
    let us_is : us ≡ days_from_civil (pos year) m d *ℤ pos 86_400_000_000 +ℤ pos (micros_of_day dt.time.hour dt.time.minute dt.time.second f) =
    omega (arith, signed_arith) in
    jiff_printed y year m d dt.time.hour dt.time.minute dt.time.second ns f same (places-six ns f whole below_million)
    ∙ sym (moment_text-printed us year m d dt.time.hour dt.time.minute dt.time.second f is_date (record { hour_in = hour_in; minute_in = minute_in; second_in = second_in; fraction_in = below_million }) us_is)

-- ---- with an ending

pub ended_text-shown : (us : ℤ) (ending : List ℕ) (dt : DateTime) → is_shown us ≡ true → civil_nanos dt ≡ us *ℤ pos 1000
    → ended_text us ending ≡ datetime_text false 84 (Some 6) dt ++ ending
ended_text-shown us ending dt shown e =
    rw shown (ap (λ text. text ++ ending) (sym (datetime_text-moment_text us dt shown e)))
