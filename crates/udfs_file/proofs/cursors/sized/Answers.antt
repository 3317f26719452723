use Rattle.std.proofs.Common.{◌∙◌, sym, subst}
use Rattle.udfs_volume.specs.declared.profiles.Profile.TheVariants.{Strict}
use Rattle.udfs_file.specs.CellsLeft.{cells_left}
use Rattle.udfs_file.specs.Steps.{StepIs}
use Rattle.udfs_file.proofs.StepLemmas.{first_bytes, sized_whole}
use Rattle.udfs_file.proofs.cursors.sized.Goals as goal

pub returns-in-Bytes-clause-value : goal.returns-in-Bytes-clause-value
returns-in-Bytes-clause-value c = subst (StepIs c.checked.result)
    (sized_whole Strict (cells_left c.args.cells.now) c.args.size c.in-Bytes.view c.requires.least c.if-size-gt2048.false (sym c.holds.ensures ∙ c.if-not-holds.false) c.in-Bytes.ensures) c.checked.ensures.value

pub returns-in-Bytes-clause-bytes : goal.returns-in-Bytes-clause-bytes
returns-in-Bytes-clause-bytes c = first_bytes (cells_left c.args.cells.now) c.args.size c.in-Bytes.view c.checked.result (sym c.holds.ensures ∙ c.if-not-holds.false) c.in-Bytes.ensures c.checked.ensures.bytes
