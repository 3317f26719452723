use Rattle.std.proofs.Common.{Ok, sym, ap, ◌∙◌}
use Rattle.udfs_rescue.proofs.StreamLemmas.{finish_ok, finish_none, finish_fails}
use Rattle.udfs_rescue.proofs.stream.MapReader.finish.Goals as goal

pub returns-clause-says : goal.returns-clause-says
returns-clause-says c = λ says s. finish_ok c.args.self c.end_line.new.self says c.in-Ok.ensures.ok s (sym c.is_empty.ensures ∙ c.if-is_empty.false) ∙ ap Ok (sym c.into_mapfile.ensures)

pub returns-then-is_empty-clause-says : goal.returns-then-is_empty-clause-says
returns-then-is_empty-clause-says c = λ says s. finish_none c.args.self c.end_line.new.self says c.in-Ok.ensures.ok s (sym c.is_empty.ensures ∙ c.if-is_empty.true)

pub returns-in-Err-clause-says : goal.returns-in-Err-clause-says
returns-in-Err-clause-says c = λ says s. finish_fails c.args.self says c.in-Err.e c.in-Err.ensures.err s
