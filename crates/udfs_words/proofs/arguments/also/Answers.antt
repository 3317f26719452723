use Rattle.std.proofs.Common.{◌∙◌, Bool, Bor, List, ap, map, ℕ}
use Rattle.std.proofs.lemmas.Result.{IfOk-weaker}
use Rattle.std.proofs.lemmas.List.{map-append}
use Rattle.clap.specs.Words.{rule_of}
use Rattle.clap.specs.declared.builder.arg.Arg.{Arg}
use Rattle.udfs_words.proofs.arguments.also.Goals as goal

pub returns : goal.returns
returns c =
    let arg = c.args.arg in
    IfOk-weaker c.alias.result _ _
    (λ more h. (
      ap rule_of h.0 ∙ ap (λ (names : List (List ℕ)). record (rule_of arg) { aliases = names })
          (ap (map (λ (alias : Bor (List ℕ) × Bool). alias.0.now)) h.1 ∙ map-append (λ (alias : Bor (List ℕ) × Bool). alias.0.now) arg.aliases.items _),
      ap (λ (a : Arg). a.global) h.0,
    )) c.alias.ensures
