use Rattle.udfs_extraction.proofs.LostLemmas.{same_nothing}
use Rattle.udfs_extraction.proofs.unnamed.make_if_open.Goals as goal

pub returns-in_default-clause-crash : goal.returns-in_default-clause-crash
returns-in_default-clause-crash g c =
    let F = g.F.Files in
    same_nothing F c.args.files.now
