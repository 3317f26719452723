use Rattle.std.specs.Prelude.{◌||◌}
use Rattle.std.proofs.Common.{◌∷◌, [], ◌++◌, ap, sym, ◌∙◌}
use Rattle.std.specs.Str.{bytes_eq}
use Rattle.udfs_rescue.specs.Lines.{mark, is_mark}
use Rattle.udfs_rescue.proofs.front.is_mark.Goals as goal

pub returns-then-eq : goal.returns-then-eq
unfolding mark is_mark
returns-then-eq c = c.if-eq.true ∙ ap (λ t. t || bytes_eq c.args.line.now (mark ++ 13 ∷ [])) (sym c.if-eq.true ∙ c.eq.ensures)

pub returns-else-eq : goal.returns-else-eq
unfolding mark is_mark
returns-else-eq c = c.eq-else-eq.ensures ∙ ap (λ t. t || bytes_eq c.args.line.now (mark ++ 13 ∷ [])) (sym c.if-eq.false ∙ c.eq.ensures)
