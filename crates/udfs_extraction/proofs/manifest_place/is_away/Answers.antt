use Rattle.std.proofs.Common.{◌≡◌, rules, subst}
use Rattle.udfs_extraction.specs.BarePaths.{bare}
use Rattle.udfs_extraction.specs.Manifests.{IsBeside}
use Rattle.udfs_extraction.proofs.manifest_place.is_away.Goals as goal

pub returns-in-Ok-true-clause-away : goal.returns-in-Ok-true-clause-away
returns-in-Ok-true-clause-away g c tells =
    let at : c.as_str.result.now ≡ g.F.Files.real c.args.files.now (bare c.args.folder.now) = search rules in
    subst (λ p. IsBeside p c.args.place.now) at (c.in-Ok-true.ensures.beside c.in-Ok-true.field-0-test)
