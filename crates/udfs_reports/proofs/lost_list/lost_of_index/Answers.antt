use Rattle.udfs_reports.proofs.ToldVolumes.{if_err_by, if_ok_by}
use Rattle.udfs_reports.proofs.lost_list.lost_of_index.Goals as goal

pub returns-in-Ok-clause-printed : goal.returns-in-Ok-clause-printed
returns-in-Ok-clause-printed g c = if_ok_by c.in-Ok.told (λ whole tells told table fits took. tells told table (c.new-blocks.ensures table told fits took)) c.in-Ok.ensures.printed

pub returns-in-Ok-clause-refused : goal.returns-in-Ok-clause-refused
returns-in-Ok-clause-refused g c = if_err_by c.in-Ok.told (λ refusal refused told table fits took. refused told table (c.new-blocks.ensures table told fits took)) c.in-Ok.ensures.refused

pub returns-in-Err-clause-unread : goal.returns-in-Err-clause-unread
returns-in-Err-clause-unread g c told table fits took = c.in-Err.ensures.begun told table (c.new-blocks.ensures table told fits took)
