use Rattle.udfs_reading.specs.Reading.{readings}
use Rattle.udfs_reading.proofs.Outcomes.{readings_laws}
use Rattle.udfs_reading.proofs.Public.{whole_from, public_table, public_fault, public_file, public_faulty, public_io, public_kept, public_cut}
use Rattle.udfs_reading.proofs.input.read_reading.Goals as goal

pub returns : goal.returns
returns g c =
    let old = g.R.Source.remaining c.args.source.now in
    let new = g.R.Source.remaining c.read_accepted-outcome.new.source in
    let i = g.R.Source.faults c.args.source.now in
    let j = g.R.Source.faults c.read_accepted-outcome.new.source in
    let r = c.read_accepted-outcome.result in
    let said = c.read_accepted-outcome.ensures in
    let whole = whole_from readings old new i j r said.ok said.count said.err in
    record {
      table = public_table readings readings_laws old new i j r whole;
      fault = public_fault readings readings_laws old new i j r whole;
      file = public_file readings readings_laws old new i j r whole;
      faulty = public_faulty readings readings_laws old new i j r whole;
      io = public_io readings old new i j r whole;
      kept = public_kept readings old new i j r whole;
      cut = public_cut readings old new i j r whole;
    }
