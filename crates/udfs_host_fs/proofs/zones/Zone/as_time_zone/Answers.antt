use Rattle.std.proofs.Common.{refl, sym, subst, ◌+◌}
use Rattle.jiff_tz.specs.declared.timezone.TimeZone.TheVariants.{Tzif}
use Rattle.udfs_host_fs.specs.Moments.{IsClockOf}
use Rattle.udfs_host_fs.proofs.zones.Zone.as_time_zone.Goals as goal

pub returns-in-Table : goal.returns-in-Table
returns-in-Table c =
    subst (λ z. IsClockOf z (Tzif (record { ref_ptr = (c.args.self.ref_ptr.0, c.args.self.ref_ptr.1 + 8); now = c.in-Table.table }))) (sym c.in-Table.is)
    (record { ref_ptr = (c.args.self.ref_ptr.0, c.args.self.ref_ptr.1 + 8); now = c.in-Table.table }, refl, refl)
