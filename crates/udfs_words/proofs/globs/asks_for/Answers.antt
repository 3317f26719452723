use Rattle.std.proofs.Common.{◌∙◌, ap, map}
use Rattle.std.specs.List.{list_any}
use Rattle.std.specs.Str.{chars}
use Rattle.udfs_words.specs.Globs.{names_in}
use Rattle.udfs_words.proofs.GlobFronts.{asks}
use Rattle.udfs_words.proofs.globs.asks_for.Goals as goal

pub returns : goal.returns
returns c = asks (map (λ name. name.items) c.deref.result.now) (map (λ name. name.items) c.deref-2.result.now) (names_in (chars c.args.word.now)) (names_in (chars c.args.path.now))
    c.in_ok-row.row.items c.is_somewhere.result
    (ap (λ names. map (λ name. name.items) names) c.deref.ensures.value ∙ c.in_ok-pattern.ensures)
    (ap (λ names. map (λ name. name.items) names) c.deref-2.ensures.value ∙ c.in_ok-names.ensures)
    c.in_ok-row.ensures.fronts
    (c.is_somewhere.ensures ∙ ap (λ row. list_any (λ b. b) row) c.deref-3.ensures.value)
