use Rattle.std.proofs.Common.{sym}
use Rattle.udfs_reading.proofs.PrintingPublicLaws.{puts_all}
use Rattle.udfs_salvage.proofs.reread_printing.write_numbers.Goals as goal

pub returns : goal.returns
returns g c =
    let W = g.W.Sink in
    puts_all _ _ _ _ _ c.finish.result (rw (sym c.new-out.ensures) c.put_numbers.ensures) c.finish.ensures.written
