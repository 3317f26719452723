use Rattle.udfs_rescue.specs.Lines.{mark}
use Rattle.udfs_rescue.specs.Writing.{made_by, mark_line, status_line}
use Rattle.udfs_rescue.proofs.writing.write_heading.Goals as goal

pub returns-then-is_marked : goal.returns-then-is_marked
unfolding made_by mark_line status_line mark
returns-then-is_marked g c = rw c.if-is_marked.true c.push.ensures

pub returns-else-is_marked : goal.returns-else-is_marked
unfolding made_by status_line
returns-else-is_marked g c = rw c.if-is_marked.false c.push-else-is_marked.ensures
