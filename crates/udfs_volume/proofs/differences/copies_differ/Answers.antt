use Rattle.std.proofs.Common.{◌∙◌, sym}
use Rattle.udfs_lattice.specs.Tables.{state_of}
use Rattle.udfs_volume.specs.Differences.{copies_differ}
use Rattle.udfs_volume.proofs.ApartCopies.{copies_agree}
use Rattle.udfs_volume.proofs.Known.{true_false}
use Rattle.udfs_volume.proofs.differences.copies_differ.Goals as goal

pub returns-clause-not_lawful : goal.returns-clause-not_lawful
returns-clause-not_lawful c =
    let t = state_of c.args.table.now in
    λ yes volume is_volume lawful agrees. true_false (copies_differ c.args.profile t c.args.last) (sym (c.in-Ok.ensures.value tt) ∙ yes)
    (copies_agree c.args.profile t volume c.args.last is_volume lawful agrees)
