use Rattle.std.proofs.Common.{refl, ◌∙◌}
use Rattle.udfs_extraction.proofs.node_files.finish_file.Goals as goal

pub returns-in-Ok-sync_folder-clause-kept : goal.returns-in-Ok-sync_folder-clause-kept
returns-in-Ok-sync_folder-clause-kept g c is tells bytes told = record {
  held = c.sync_folder.ensures.others c.args.path.now ∙ c.in-Ok.ensures.holds bytes tells (c.requires.number tells) told;
  durable = λ d left. c.in-Ok.ensures.durable bytes _ tells (c.requires.number tells) told (c.in-Ok-sync_folder.ensures.durable d c.args.path.now left refl);
}
