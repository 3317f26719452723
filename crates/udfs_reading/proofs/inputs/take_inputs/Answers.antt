use Rattle.udfs_lattice.specs.Tables.{Table, join_tables}
use Rattle.udfs_reading.proofs.Good.{all_good, any_mixture, any_order, any_split, first_named}
use Rattle.udfs_reading.proofs.inputs.take_inputs.Goals as goal

pub returns-clause-good : goal.returns-clause-good
returns-clause-good g c = all_good (λ _ joined. (t : Table) → g.T.Taker.took c.args.taker.now t → g.T.Taker.took c.take_each-outcome.new.taker (join_tables t joined)) g.R.Source.remaining g.R.Source.faults c.args.inputs.now c.take_each-outcome.new.inputs c.take_each-outcome.result c.take_each-outcome.ensures.table c.take_each-outcome.ensures.fails

pub returns-clause-any_order : goal.returns-clause-any_order
returns-clause-any_order g c = any_order (λ _ joined. (t : Table) → g.T.Taker.took c.args.taker.now t → g.T.Taker.took c.take_each-outcome.new.taker (join_tables t joined)) g.R.Source.remaining c.args.inputs.now c.take_each-outcome.result c.take_each-outcome.ensures.table

pub returns-clause-any_split : goal.returns-clause-any_split
returns-clause-any_split g c = any_split (λ _ joined. (t : Table) → g.T.Taker.took c.args.taker.now t → g.T.Taker.took c.take_each-outcome.new.taker (join_tables t joined)) g.R.Source.remaining c.args.inputs.now c.take_each-outcome.result c.take_each-outcome.ensures.table

pub returns-clause-any_mixture : goal.returns-clause-any_mixture
returns-clause-any_mixture g c = any_mixture (λ _ joined. (t : Table) → g.T.Taker.took c.args.taker.now t → g.T.Taker.took c.take_each-outcome.new.taker (join_tables t joined)) g.R.Source.remaining c.args.inputs.now c.take_each-outcome.result c.take_each-outcome.ensures.table

pub returns-clause-first : goal.returns-clause-first
returns-clause-first g c = first_named (λ _ joined. (t : Table) → g.T.Taker.took c.args.taker.now t → g.T.Taker.took c.take_each-outcome.new.taker (join_tables t joined)) g.R.Source.remaining g.R.Source.faults c.args.inputs.now c.take_each-outcome.new.inputs c.take_each-outcome.result c.take_each-outcome.ensures.table c.take_each-outcome.ensures.fails
