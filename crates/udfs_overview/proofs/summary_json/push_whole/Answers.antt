use Rattle.udfs_overview.specs.SummaryPieces.{whole_piece}
use Rattle.udfs_overview.proofs.SummaryObjects.{four_behind}
use Rattle.udfs_overview.proofs.summary_json.push_whole.Goals as goal

pub returns : goal.returns
unfolding whole_piece
returns c =
    four_behind c.push_disc.result _ _ _ _ _ _ _ _ _ c.in_ok-push_truth.ensures c.in_ok-push_at_least.ensures c.in_ok-push_text.ensures c.push_disc.ensures
