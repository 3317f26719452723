use Rattle.std.proofs.Common.{◌∙◌, ap, sym}
use Rattle.udfs_salvage.specs.Found.{volume_now}
use Rattle.udfs_salvage.specs.Reports.{all_whole}
use Rattle.udfs_salvage.proofs.Surveying.{survey_whole}
use Rattle.udfs_salvage.proofs.surveys.Survey.all_whole.Goals as goal

pub returns : goal.returns
returns g c = c.all_whole.ensures ∙ ap all_whole c.deref.ensures.value ∙ sym (survey_whole (g.B.BlockStore.states c.args.self.now.table.now) (volume_now c.args.self.now.volume) c.args.self.now.nodes.items)
