use Rattle.std.proofs.Common.{sym, ap}
use Rattle.udfs_salvage.specs.Texts.{profile_lines}
use Rattle.udfs_salvage.proofs.Putting.{puts_same}
use Rattle.udfs_salvage.proofs.lines.put_profile.Goals as goal

pub returns-in-Wide : goal.returns-in-Wide
returns-in-Wide g c = puts_same (ap profile_lines (sym c.in-Wide.is)) c.put.ensures
