use Rattle.std.proofs.Common.{ap, ap₂, ◌∙◌}
use Rattle.std.proofs.lemmas.Result.{IfOk-weaker}
use Rattle.clap.specs.Words.{App, with_subcommand}
use Rattle.udfs_words.proofs.GrammarLemmas.{third_is_false}
use Rattle.udfs_words.proofs.words.add_command.Goals as goal

pub returns : goal.returns
returns c = λ app sub whole part is_plain.
    let old = rw c.in_ok-program.was at whole in
    let new = rw c.in_ok-command.was at part in
    IfOk-weaker c.subcommand.result _ _
    (λ made adds. adds.shape (third_is_false _ _ _ _ (ap (λ (a : App). a.top.is_plain) new ∙ is_plain)) ∙ ap₂ with_subcommand old (ap (λ (a : App). a.top) new)) c.subcommand.ensures
