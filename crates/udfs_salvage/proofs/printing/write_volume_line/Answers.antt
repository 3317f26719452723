use Rattle.std.proofs.Common.{sym}
use Rattle.udfs_salvage.proofs.Putting.{prints_all}
use Rattle.udfs_salvage.proofs.printing.write_volume_line.Goals as goal

pub returns : goal.returns
returns g c =
    record {
      text = prints_all _ _ _ c.finish.result c.finish.ensures.fault (rw (sym c.new-out.ensures) c.put_volume.ensures) c.finish.ensures.written;
      fault = c.finish.ensures.fault;
    }
