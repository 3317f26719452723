use Rattle.std.proofs.Common.{◌∙◌, sym}
use Rattle.udfs_file.specs.Steps.{bytes_of}
use Rattle.udfs_file.proofs.StepLemmas.{unlisted, good_name}
use Rattle.udfs_file.proofs.cursors.named.Goals as goal

pub returns-then-not-is_listed-clause-value : goal.returns-then-not-is_listed-clause-value
returns-then-not-is_listed-clause-value c = unlisted (bytes_of c.args.view) c.requires.least c.requires.most (sym c.is_listed.ensures ∙ c.if-not-is_listed.true)

pub returns-clause-value : goal.returns-clause-value
returns-clause-value c = good_name (bytes_of c.args.view) c.requires.least c.requires.most (sym c.is_listed.ensures ∙ c.if-not-is_listed.false) (sym c.has_bad_name.ensures ∙ c.if-has_bad_name.false)
