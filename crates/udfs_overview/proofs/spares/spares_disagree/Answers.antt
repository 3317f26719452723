use Rattle.std.proofs.Common.{◌∙◌, sym}
use Rattle.udfs_lattice.specs.Tables.{state_of}
use Rattle.udfs_salvage.specs.Found.{volume_now}
use Rattle.udfs_overview.proofs.SpareLaws.{none_lawful}
use Rattle.udfs_overview.proofs.spares.spares_disagree.Goals as goal

pub returns-clause-not_lawful : goal.returns-clause-not_lawful
returns-clause-not_lawful c =
    let s = c.args.survey.now in
    λ profile last report yes. none_lawful profile (state_of s.table.now) last (volume_now s.volume) report.volume_is (sym c.spares_disagree_in.ensures ∙ yes)
