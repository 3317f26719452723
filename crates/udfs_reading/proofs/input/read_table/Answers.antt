use Rattle.udfs_reading.specs.Inputs.{tables}
use Rattle.udfs_reading.proofs.Outcomes.{tables_laws, public_written, public_written_v1}
use Rattle.udfs_reading.proofs.Public.{whole_from, public_table, public_fault, public_file, public_faulty, public_io, public_kept, public_cut}
use Rattle.udfs_reading.proofs.input.read_table.Goals as goal

pub returns : goal.returns
returns g c =
    let old = g.R.Source.remaining c.args.source.now in
    let new = g.R.Source.remaining c.read_accepted-outcome.new.source in
    let i = g.R.Source.faults c.args.source.now in
    let j = g.R.Source.faults c.read_accepted-outcome.new.source in
    let r = c.read_accepted-outcome.result in
    let said = c.read_accepted-outcome.ensures in
    let whole = whole_from tables old new i j r said.ok said.count said.err in
    record {
      table = public_table tables tables_laws old new i j r whole;
      fault = public_fault tables tables_laws old new i j r whole;
      file = public_file tables tables_laws old new i j r whole;
      faulty = public_faulty tables tables_laws old new i j r whole;
      io = public_io tables old new i j r whole;
      kept = public_kept tables old new i j r whole;
      cut = public_cut tables old new i j r whole;
      written = public_written old r (public_file tables tables_laws old new i j r whole);
      written_v1 = public_written_v1 old r (public_file tables tables_laws old new i j r whole);
    }
