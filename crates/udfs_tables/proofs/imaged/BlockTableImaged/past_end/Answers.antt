use Rattle.std.proofs.Common.{subst}
use Rattle.std.specs.Prelude.{MatchOption}
use Rattle.udfs_lattice.specs.Tables.{Table, state_of}
use Rattle.udfs_salvage.specs.Reports.{IsNothingPast, IsPastEnd}
use Rattle.udfs_tables.proofs.imaged.BlockTableImaged.past_end.Goals as goal

pub returns : goal.returns
returns c t same = subst (λ (u : Table). MatchOption c.past_end.result (IsNothingPast (state_of u) c.args.last) (λ n. IsPastEnd (state_of u) c.args.last n)) same c.past_end.ensures
