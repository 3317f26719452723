use Rattle.std.proofs.Common.{◌∙◌, sym}
use Rattle.udfs_space.specs.Views.{view_by}
use Rattle.udfs_file.specs.Stretches.{cells_of}
use Rattle.udfs_file.proofs.MovedTags.{both_go}
use Rattle.udfs_file.proofs.directories.Dir.has_moved_tags_by.Goals as goal

pub steps-preserved : goal.steps-preserved
steps-preserved g c told = both_go (cells_of (view_by g.B.BlockStore.states c.args.view) c.args.body.now) c.steps.wide c.steps.strict c.next.new.self c.next-in-steps.new.self c.in_ok-read.read c.in_ok-kept.kept
    (c.steps.invariant told) (c.in_ok-read.ensures.step told) (c.in_ok-read.ensures.directory told) (sym c.is_id.ensures ∙ c.if-not-is_id.false)
    (c.in_ok-kept.ensures.step told) (c.in_ok-kept.ensures.directory told) (sym c.is_id-in-steps.ensures ∙ c.if-not-is_id-2.false)
