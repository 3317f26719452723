use Rattle.udfs_reports.proofs.summary.print_summary.Goals as goal

pub returns-in-Ok-clause-printed : goal.returns-in-Ok-clause-printed
returns-in-Ok-clause-printed g c told t holds = rw (← c.given_by-given.ensures) (c.in-Ok.ensures.printed told t holds)

pub returns-in-Err-clause-printed : goal.returns-in-Err-clause-printed
returns-in-Err-clause-printed g c told t holds = rw (← c.given_by-given.ensures) (c.in-Err.ensures.printed told t holds)
