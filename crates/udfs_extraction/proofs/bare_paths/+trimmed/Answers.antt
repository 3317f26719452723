use Rattle.std.proofs.Common.{rules, ◌<◌, ◌∙◌, None, Some, length, ap, sym, lit<}
use Rattle.std.proofs.lemmas.Str.Pattern.{strip_suffix_char}
use Rattle.udfs_extraction.proofs.BarePathLemmas.{shorter, with_more, with_none}
use Rattle.udfs_extraction.specs.BarePaths.{trimmed}
use Rattle.udfs_extraction.proofs.bare_paths.+trimmed.Goals as goal

pub trimmed-requires : goal.trimmed-requires
trimmed-requires t c =
    let l : length c.in-Some.shorter.now < length c.args.path.now = shorter c.args.path.now c.in-Some.shorter.now (strip_suffix_char 47 c.args.path.now (Some c.in-Some.shorter) c.in-Some.ensures.cases (lit< tt)) in
    search (rules, l)

pub returns-in-None : goal.returns-in-None
returns-in-None t c = sym (with_none c.args.path.now (strip_suffix_char 47 c.args.path.now None c.in-None.ensures.cases (lit< tt)))

pub returns-in-Some : goal.returns-in-Some
returns-in-Some t c = c.trimmed.ensures ∙ sym (with_more c.in-Some.shorter.now) ∙ ap trimmed (sym (strip_suffix_char 47 c.args.path.now (Some c.in-Some.shorter) c.in-Some.ensures.cases (lit< tt)))
