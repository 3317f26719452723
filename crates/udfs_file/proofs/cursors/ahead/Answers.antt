use Rattle.std.proofs.Common.{◌∙◌, sym, ap, subst}
use Rattle.udfs_volume.specs.declared.profiles.Profile.TheVariants.{Strict}
use Rattle.udfs_file.specs.CellsLeft.{cells_left}
use Rattle.udfs_file.specs.Fronts.{sized_identifier}
use Rattle.udfs_file.specs.Steps.{StepIs}
use Rattle.udfs_file.proofs.StepLemmas.{step_none, step_cut, step_stopped, step_sized, head_length}
use Rattle.udfs_file.proofs.cursors.ahead.Goals as goal

pub returns-then-not-holds-clause-value : goal.returns-then-not-holds-clause-value
returns-then-not-holds-clause-value c = step_none Strict (cells_left c.args.cells.now) (sym c.holds.ensures ∙ c.if-not-holds.true)

pub returns-then-not-holds-2-clause-value : goal.returns-then-not-holds-2-clause-value
returns-then-not-holds-2-clause-value c = step_cut Strict (cells_left c.args.cells.now) (sym c.holds.ensures ∙ c.if-not-holds.false) (sym c.holds-2.ensures ∙ c.if-not-holds-2.true)

pub identifier_size-requires : goal.identifier_size-requires
identifier_size-requires c = head_length (cells_left c.args.cells.now) 38 c.in-Bytes.head (sym c.holds-2.ensures ∙ c.if-not-holds-2.false) c.in-Bytes.ensures

pub returns-in-Gap-clause-value : goal.returns-in-Gap-clause-value
returns-in-Gap-clause-value c = step_stopped Strict (cells_left c.args.cells.now) c.in-Gap.n (sym c.holds.ensures ∙ c.if-not-holds.false) (sym c.holds-2.ensures ∙ c.if-not-holds-2.false) c.in-Gap.ensures

pub returns-in-Bytes-clause-value : goal.returns-in-Bytes-clause-value
returns-in-Bytes-clause-value c = subst (StepIs c.sized.result) (ap (sized_identifier (cells_left c.args.cells.now)) c.identifier_size.ensures.value
    ∙ sym (step_sized Strict (cells_left c.args.cells.now) c.in-Bytes.head (sym c.holds.ensures ∙ c.if-not-holds.false) (sym c.holds-2.ensures ∙ c.if-not-holds-2.false) c.in-Bytes.ensures)) c.sized.ensures.value
