use Rattle.std.proofs.Common.{◌∙◌, sym}
use Rattle.udfs_file.proofs.FrontLemmas.{nothing_behind}
use Rattle.udfs_file.proofs.directories.listed.Goals as goal

pub returns-then-is_empty-clause-entry : goal.returns-then-is_empty-clause-entry
returns-then-is_empty-clause-entry c = nothing_behind c.args.view.now.first.now c.args.view.now.second.now c.in_ok-entry.entry (sym c.is_empty.ensures ∙ c.if-is_empty.true) c.in_ok-entry.ensures
