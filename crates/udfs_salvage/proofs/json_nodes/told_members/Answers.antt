use Rattle.std.proofs.Common.{refl}
use Rattle.udfs_salvage.specs.JsonNodes.{told_members}
use Rattle.udfs_salvage.proofs.json_nodes.told_members.Goals as goal

pub returns : goal.returns
unfolding told_members
returns c = rw (
  c.in_ok-put-6.ensures.ok,
  c.in_ok-put-5.ensures.ok,
  c.in_ok-put-4.ensures.ok,
  c.in_ok-put-3.ensures.ok,
  c.in_ok-put-2.ensures.ok,
  c.in_ok-put.ensures.ok,
  c.new-members.ensures.empty,
  c.in_ok-holes.ensures,
  c.in_ok-kind.ensures,
  c.in_ok-missing.ensures,
  c.in_ok-modified.ensures,
  c.size_value-size.ensures,
  c.in_ok-standing.ensures,
) refl
