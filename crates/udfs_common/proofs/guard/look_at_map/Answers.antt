use Rattle.std.proofs.Common.{rules}
use Rattle.udfs_rescue.specs.Lines.{mark}
use Rattle.udfs_rescue.specs.Writing.{made_by, mark_line}
use Rattle.udfs_common.specs.Guarding.{domain_kind}
use Rattle.udfs_common.proofs.guard.look_at_map.Goals as goal

pub returns-clause-free : goal.returns-clause-free
unfolding domain_kind made_by mark_line mark
returns-clause-free g c = search rules

pub returns-clause-spared : goal.returns-clause-spared
unfolding domain_kind made_by mark_line mark
returns-clause-spared g c is tells = c.in_ok-found.ensures.spared is tells
