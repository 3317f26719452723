-- The date that stands so many days after 0000-01-01.
use Rattle.std.proofs.Common.{◌≡◌, ℕ, zero, suc, ◌+◌, ◌-◌, ◌<◌, ◌≤◌, nat_lt, true, false, refl, ap, ◌∙◌, arith, ℤ, pos, ◌-ℤ◌, ◌≤ℤ◌}
use Rattle.std.proofs.lemmas.Bool.Decides.{nat_tests}
use Rattle.std.proofs.lemmas.Int.{by_lt_z}
use Rattle.jiff_core.specs.Calendar.{days_in_year, days_in_month, days_of_months, day_count, days_from_civil, IsCivilDate}
use Rattle.jiff_core.proofs.SignedLemmas.{signed_arith}
use Rattle.jiff_core.proofs.MarchLemmas.{day_count-early}
use Rattle.jiff_core.proofs.CalendarLemmas.{days_of_months-zero, days_of_months_more, day_of_year_bound, day_count-day_of_year, day_count-next_year, day_count-lt_year, days_from_civil-day_count}
use Rattle.udfs_osta.specs.StampTexts.{date_in_months, date_in_years, civil_date, days_before_1970}

-- the days of so many years, from a year on
years_days : ℕ → ℕ → ℕ
years_days year zero = 0
years_days year (suc k) = days_in_year (pos year) + years_days (year + 1) k

-- the days of so many months of a year, from a month on
months_days : ℕ → ℕ → ℕ → ℕ
months_days year month zero = 0
months_days year month (suc k) = days_in_month (pos year) month + months_days year (month + 1) k

past_years : (k more year days rest last : ℕ) → days ≡ years_days year k + rest → last ≡ year + k → k ≤ more → rest < days_in_year (pos last)
    → date_in_years more year days ≡ date_in_months 11 last 1 rest
unfolding date_in_years years_days
past_years zero zero year days rest last e l h r =
    let same : days ≡ rest = omega arith in
    let here : year ≡ last = omega arith in
    rw (same, here) refl
past_years zero (suc more) year days rest last e l h r =
    let same : days ≡ rest = omega arith in
    let here : year ≡ last = omega arith in
    let t : nat_lt rest (days_in_year (pos last)) ≡ true = grind (arith, nat_tests) in
    rw (same, here, t) refl
past_years (suc k) zero year days rest last e l h r = absurd (omega arith)
past_years (suc k) (suc more) year days rest last e l h r =
    let t : nat_lt days (days_in_year (pos year)) ≡ false = grind (arith, nat_tests) in
    rw t (past_years k more (year + 1) (days - days_in_year (pos year)) rest last (omega arith) (omega arith) (omega arith) r)

past_months : (k more year month days rest last : ℕ) → days ≡ months_days year month k + rest → last ≡ month + k → k ≤ more → rest < days_in_month (pos year) last
    → date_in_months more year month days ≡ record { year = year; month = last; day = rest + 1 }
unfolding date_in_months months_days
past_months zero zero year month days rest last e l h r =
    let same : days ≡ rest = omega arith in
    let here : month ≡ last = omega arith in
    rw (same, here) refl
past_months zero (suc more) year month days rest last e l h r =
    let same : days ≡ rest = omega arith in
    let here : month ≡ last = omega arith in
    let t : nat_lt rest (days_in_month (pos year) last) ≡ true = grind (arith, nat_tests) in
    rw (same, here, t) refl
past_months (suc k) zero year month days rest last e l h r = absurd (omega arith)
past_months (suc k) (suc more) year month days rest last e l h r =
    let t : nat_lt days (days_in_month (pos year) month) ≡ false = grind (arith, nat_tests) in
    rw t (past_months k more year (month + 1) (days - days_in_month (pos year) month) rest last (omega arith) (omega arith) (omega arith) r)

-- the first day of a year
day_count-years : (k year last : ℕ) → last ≡ year + k → day_count (pos last) 1 1 ≡ day_count (pos year) 1 1 + years_days year k
unfolding years_days
day_count-years zero year last e = let same : last ≡ year = omega arith in rw same (omega arith)
day_count-years (suc k) year last e =
    let next = day_count-next_year (pos year) (pos (year + 1)) (omega (arith, signed_arith)) (omega (arith, signed_arith)) in
    omega (arith, day_count-years k (year + 1) last (omega arith))

days_of_months-months_days : (k year month before last : ℕ) → 1 ≤ month → month ≡ before + 1 → last ≡ before + k
    → days_of_months (pos year) last ≡ days_of_months (pos year) before + months_days year month k
unfolding months_days
days_of_months-months_days zero year month before last some m e = let same : last ≡ before = omega arith in rw same (omega arith)
days_of_months-months_days (suc k) year month before last some m e =
    let back : month - 1 ≡ before = omega arith in
    let one = rw back at (days_of_months_more (pos year) month some) in
    omega (arith, days_of_months-months_days k year (month + 1) month last (omega arith) refl (omega arith))

day_count-0000 : day_count (pos 0) 1 1 ≡ 3_652_425
day_count-0000 = day_count-early (pos 0) 9999 1 1 refl (omega arith) (omega arith) (omega arith)

pub civil_date-day_count : (year month day days : ℕ) → IsCivilDate (pos year) month day → day_count (pos year) month day ≡ 3_652_425 + days
    → civil_date days ≡ record { year = year; month = month; day = day }
unfolding civil_date
civil_date-day_count year month day days h e =
    let y = pos year in
    let place = day_count-day_of_year y month day h.2.0 in
    let first = day_count-years year 0 year (omega arith) in
    let rest = days_of_months y (month - 1) + (day - 1) in
    let within = day_of_year_bound y month day h in
    let limit : year ≤ 9999 = omega (arith, signed_arith) in
    let months = days_of_months-months_days (month - 1) year 1 0 (month - 1) (omega arith) refl (omega arith) in
    let day_back : day - 1 + 1 ≡ day = omega arith in
    past_years year 9999 0 days rest year (omega (arith, day_count-0000)) (omega arith) limit (omega arith)
    ∙ past_months (month - 1) 11 year 1 rest (day - 1) month (omega (arith, days_of_months-zero y)) (omega arith) (omega arith) (omega arith)
    ∙ ap (λ d. record { year = year; month = month; day = d }) day_back

-- the days of the years from 0 on are not before 0000-01-01
pub day_count-from_0000 : (year month day : ℕ) → IsCivilDate (pos year) month day → 3_652_425 ≤ day_count (pos year) month day
day_count-from_0000 year month day h =
    omega (arith, day_count-day_of_year (pos year) month day h.2.0, day_count-years year 0 year (omega arith), day_count-0000)

-- the days before 0000-01-01 are of years before 0
pub year-from_0000 : (year : ℤ) (month day : ℕ) → IsCivilDate year month day → 3_652_425 ≤ day_count year month day → pos 0 ≤ℤ year
year-from_0000 year month day h low =
    by_lt_z year (pos 0) (λ lt. absurd (omega (arith, day_count-lt_year year month day (pos 0) 1 1 h (omega arith) lt, day_count-0000))) (λ le. le)

pub civil_date-days_from_civil : (year month day days : ℕ) → IsCivilDate (pos year) month day → days_from_civil (pos year) month day ≡ pos days -ℤ pos days_before_1970
    → civil_date days ≡ record { year = year; month = month; day = day }
civil_date-days_from_civil year month day days h e =
    let number = days_from_civil-day_count (pos year) month day in
    civil_date-day_count year month day days h (omega (arith, signed_arith))
