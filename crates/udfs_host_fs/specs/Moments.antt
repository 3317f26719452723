-- Stamps as moments: microseconds since 1970-01-01T00:00:00Z, as a file system counts them.
--     IsMomentOf zone stamp moment     the moment of the stamp, where a local one's clock is in the zone; none where the stamp gives none
--     IsClockOf zone clock             the zone, as the calendar takes it
use Rattle.std.specs.Prelude.{◌≡◌, ◌⊎◌, ℕ, ℤ, pos, ◌-ℤ◌, ◌*ℤ◌, int_le, unsigned_abs, Option, Some, None, if◌then◌else◌}
use Rattle.std.specs.Borrow.{Bor}
use Rattle.jiff_core.specs.DateTime.{civil_nanos, IsCivilNanos}
use Rattle.jiff_core.specs.declared.civil.datetime.DateTime.{DateTime}
use Rattle.jiff_tz.specs.Ambiguous.{compatible_offset}
use Rattle.jiff_tz.specs.Zone.{ambiguous_at}
use Rattle.jiff_tz.specs.declared.timezone.TimeZone.{TimeZone}
use Rattle.jiff_tz.specs.declared.timezone.TimeZone.TheVariants.{UTC, Posix, Tzif as TzifOf}
use Rattle.jiff_tz.specs.declared.tzif.Tzif.{Tzif}
use Rattle.udfs_osta.specs.declared.stamps.Stamp.{Stamp}
use Rattle.udfs_osta.specs.declared.stamps.Stamp.TheVariants.{Utc, Local, Invalid}
use Rattle.udfs_host_fs.specs.declared.zones.Zone.{Zone}
use Rattle.udfs_host_fs.specs.declared.zones.Zone.TheVariants.{Utc as UtcZone, Rule, Table}

-- a number of microseconds since 1970, and none for a moment before
abbrev pub since_1970 : ℤ → Option ℕ
since_1970 micros = if int_le (pos 0) micros then Some (unsigned_abs micros) else None

-- how far the clock of a zone is ahead of UTC when it shows a time, in seconds; as it was before a change that makes it show the time twice or never
abbrev pub seconds_ahead : TimeZone → DateTime → ℤ
seconds_ahead zone shown = (compatible_offset (ambiguous_at zone shown)).seconds

-- the moment at which the clock of a zone shows the time `micros` microseconds after 1970-01-01T00:00:00; none before 1970 or outside the calendar
unfoldable pub IsLocalMoment : TimeZone → ℤ → Option ℕ → Type 0
IsLocalMoment zone micros moment =
    ((shown : DateTime) × (civil_nanos shown ≡ micros *ℤ pos 1000) × (moment ≡ since_1970 (micros -ℤ seconds_ahead zone shown *ℤ pos 1_000_000)))
    ⊎ ((¬ IsCivilNanos (micros *ℤ pos 1000)) × (moment ≡ None))

-- the moment of a stamp: a moment at UTC is its own; bytes that give no time have none
abbrev pub IsMomentOf : TimeZone → Stamp → Option ℕ → Type 0
IsMomentOf zone (Utc micros) moment = moment ≡ since_1970 micros
IsMomentOf zone (Local micros) moment = IsLocalMoment zone micros moment
IsMomentOf zone Invalid moment = moment ≡ None

-- the zone, as the calendar takes it: UTC, a rule, or a table
abbrev pub IsClockOf : Zone → TimeZone → Type 0
IsClockOf UtcZone clock = clock ≡ UTC
IsClockOf (Rule rule) clock = clock ≡ Posix rule
IsClockOf (Table table) clock = (at : Bor Tzif) × (clock ≡ TzifOf at) × (at.now ≡ table)
