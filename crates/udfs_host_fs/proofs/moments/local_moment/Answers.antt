use Rattle.std.proofs.Common.{◌≡◌, inl, ap, ◌∙◌, arith, pos, ◌-ℤ◌, ◌*ℤ◌, w32, w64, to_z-of_z, FitsSigned}
use Rattle.jiff_core.proofs.SignedLemmas.{signed_arith}
use Rattle.udfs_host_fs.specs.Moments.{IsLocalMoment, seconds_ahead, since_1970}
use Rattle.udfs_host_fs.proofs.moments.local_moment.Goals as goal

pub returns-in-Some : goal.returns-in-Some
unfolding IsLocalMoment
returns-in-Some c =
    let fits : FitsSigned w64 c.args.micros = c.ranges.micros in
    let low = c.seconds_ahead.ensures.low in
    let high = c.seconds_ahead.ensures.high in
    let few : FitsSigned w32 c.seconds_ahead.result = omega (arith, signed_arith) in
    let shows = simp to_z-of_z at c.in-Some.ensures.0 in
    let back = simp to_z-of_z at c.behind.ensures in
    let ahead : c.seconds_ahead.result ≡ seconds_ahead c.args.zone.now c.in-Some.shown = c.seconds_ahead.ensures.value in
    let within = simp to_z-of_z at c.in-Some.ensures.1 in
    let above = within.0 in
    let below = within.1 in
    let same : c.behind.result ≡ c.args.micros -ℤ c.seconds_ahead.result *ℤ pos 1_000_000 = back in
    let fit : FitsSigned w64 c.behind.result = omega (arith, signed_arith) in
    let since = simp to_z-of_z at c.since_1970.ensures in
    inl (c.in-Some.shown, shows, since ∙ ap since_1970 (back ∙ ap (λ s. c.args.micros -ℤ s *ℤ pos 1_000_000) ahead))
