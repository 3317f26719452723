use Rattle.std.proofs.Common.{◌≡◌, rules, subst, sym}
use Rattle.udfs_common.specs.Blaming.{IsJudged}
use Rattle.udfs_words.specs.declared.input_path.InputPath.{InputPath}
use Rattle.udfs_words.specs.declared.input_path.InputPath.TheVariants.{Pair}
use Rattle.udfs_common.proofs.sources.open_one.Goals as goal

pub returns-in-Ok-open_both-clause-judged : goal.returns-in-Ok-open_both-clause-judged
returns-in-Ok-open_both-clause-judged g c =
    let same : c.args.path ≡ Pair c.in-Pair.image c.in-Pair.map = search rules in
    subst (λ (p : InputPath). IsJudged (λ path. g.F.Files.holds c.args.files.now (g.F.Files.real c.args.files.now path)) p c.in-Ok-open_both.source) (sym same) c.in-Ok-open_both.ensures.judged
