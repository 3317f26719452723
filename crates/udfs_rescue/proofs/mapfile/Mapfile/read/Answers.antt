use Rattle.udfs_rescue.proofs.PieceLemmas.{read_outcome, read_io, read_kept, read_cut}
use Rattle.udfs_rescue.proofs.mapfile.Mapfile.read.Goals as goal

pub returns-clause-outcome : goal.returns-clause-outcome
returns-clause-outcome g c = read_outcome (g.R.Source.remaining c.args.source.now) (g.R.Source.remaining c.read_lines-outcome.new.source) (g.R.Source.faults c.args.source.now) (g.R.Source.faults c.read_lines-outcome.new.source) c.read_lines-outcome.result c.read_lines-outcome.ensures.reads

pub returns-clause-io : goal.returns-clause-io
returns-clause-io g c = read_io (g.R.Source.remaining c.args.source.now) (g.R.Source.remaining c.read_lines-outcome.new.source) (g.R.Source.faults c.args.source.now) (g.R.Source.faults c.read_lines-outcome.new.source) c.read_lines-outcome.result c.read_lines-outcome.ensures.reads

pub returns-clause-kept : goal.returns-clause-kept
returns-clause-kept g c = read_kept (g.R.Source.remaining c.args.source.now) (g.R.Source.remaining c.read_lines-outcome.new.source) (g.R.Source.faults c.args.source.now) (g.R.Source.faults c.read_lines-outcome.new.source) c.read_lines-outcome.result c.read_lines-outcome.ensures.reads

pub returns-clause-cut : goal.returns-clause-cut
returns-clause-cut g c = read_cut (g.R.Source.remaining c.args.source.now) (g.R.Source.remaining c.read_lines-outcome.new.source) (g.R.Source.faults c.args.source.now) (g.R.Source.faults c.read_lines-outcome.new.source) c.read_lines-outcome.result c.read_lines-outcome.ensures.reads
