use Rattle.std.proofs.Common.{[], refl, sym, subst}
use Rattle.udfs_lattice.specs.Tables.{Table}
use Rattle.udfs_reading.specs.Inputs.{kind_accepted}
use Rattle.udfs_reading.specs.Device.{left}
use Rattle.udfs_reading.specs.Outcome.{Takes}
use Rattle.udfs_reading.proofs.Whole.{reads_whole}
use Rattle.udfs_reading.proofs.input.read_accepted.Goals as goal

pub returns-clause-ok : goal.returns-clause-ok
returns-clause-ok g c =
    let old = g.R.Source.remaining c.args.source.now in
    let new = g.R.Source.remaining c.join_accepted.new.source in
    let read = c.in_ok-join_accepted.ensures.ok in
    let before = c.new-table.result in
    reads_whole (kind_accepted c.args.which) _ c.join_accepted.new.window.bytes old new before _ c.new-window.ensures.bytes c.in_ok-join_accepted.ensures.done c.new-table.ensures
    (subst (λ (t : Table). Takes (kind_accepted c.args.which) [] (left c.new-window.result.bytes old) (left c.join_accepted.new.window.bytes new) before t) (sym (read.took before refl)) (read.each before))
