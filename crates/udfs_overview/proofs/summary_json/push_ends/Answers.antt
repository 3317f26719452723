use Rattle.udfs_overview.specs.SummaryPieces.{ends_piece}
use Rattle.udfs_overview.proofs.SummaryObjects.{seven_behind}
use Rattle.udfs_overview.proofs.summary_json.push_ends.Goals as goal

pub returns : goal.returns
unfolding ends_piece
returns c =
    seven_behind c.push_text-3.result _ _ _ _ _ _ _ _ _ _ _ _ _ _ _ c.in_ok-push_profile.ensures c.in_ok-push_text.ensures c.in_ok-push_remarks.ensures c.in_ok-push_revision.ensures c.in_ok-push_text-2.ensures c.in_ok-push_unnamed.ensures c.push_text-3.ensures
