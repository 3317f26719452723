use Rattle.udfs_reports.proofs.page.PageText.write.Goals as goal

pub returns-clause-wrote : goal.returns-clause-wrote
returns-clause-wrote g c told t holds = (c.in-Ok.ensures.printed told t holds).given
