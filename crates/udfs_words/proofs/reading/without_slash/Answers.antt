use Rattle.std.proofs.Common.{◌∙◌, Bor, List, ap, lit<, refl, ℕ}
use Rattle.std.proofs.lemmas.Str.Pattern.{strip_suffix_char}
use Rattle.udfs_words.proofs.SlashLemmas.{slash_stripped}
use Rattle.udfs_words.proofs.reading.without_slash.Goals as goal

pub returns : goal.returns
returns c =
    let path = c.args.path in
    ap (λ (b : Bor (List ℕ)). b.now) c.unwrap_or.ensures
    ∙ slash_stripped path.now c.strip_suffix.result (strip_suffix_char 47 path.now c.strip_suffix.result c.strip_suffix.ensures.cases (lit< tt)) path refl
