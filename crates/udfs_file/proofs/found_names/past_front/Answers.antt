use Rattle.std.proofs.Common.{◌∙◌, sym}
use Rattle.udfs_file.proofs.FoundLemmas.{front_left, front_passed}
use Rattle.udfs_file.proofs.found_names.past_front.Goals as goal

pub front-preserved : goal.front-preserved
front-preserved g c told = sym (front_passed c.front.cursor c.next.new.self c.in_ok-told.told (c.in_ok-told.ensures.step told) (c.in_ok-told.ensures.directory told) (sym c.is_id.ensures ∙ c.if-not-is_id.false)) ∙ c.front.invariant told

pub returns-then-not-is_id-clause-behind : goal.returns-then-not-is_id-clause-behind
returns-then-not-is_id-clause-behind g c told = front_left c.front.cursor c.next.new.self c.in_ok-told.told (c.in_ok-told.ensures.step told) (c.in_ok-told.ensures.directory told) (sym c.is_id.ensures ∙ c.if-not-is_id.true) ∙ c.front.invariant told
