use Rattle.std.proofs.Common.{rules, sym, ◌∙◌}
use Rattle.udfs_osta.proofs.Showing.{none_left}
use Rattle.udfs_osta.proofs.pieces.EscapedBytes.next_piece.Goals as goal

pub returns-then-is_empty-clause-end : goal.returns-then-is_empty-clause-end
returns-then-is_empty-clause-end c = λ _. sym c.self.view_is ∙ none_left c.self.inside.dots c.self.inside.rest.now (search rules)
