use Rattle.std.proofs.Common.{List, ℕ, ◌≤◌, length, subst, sym, ap, ◌∙◌, drop}
use Rattle.udfs_reading.specs.Places.{Ahead}
use Rattle.udfs_reading.proofs.WindowLemmas.{taken_view}
use Rattle.udfs_reading.proofs.window.Window.take.Goals as goal

pub returns-clause-bytes : goal.returns-clause-bytes
returns-clause-bytes c =
    let n = c.args.count in
    let view = ap (λ (a : Ahead). a.bytes) c.self.view_is in
    taken_view c.self.inside.bytes c.self.inside.start c.self.inside.end n c.self.invariant.0 (subst (λ (l : List ℕ). n ≤ length l) (sym view) c.requires)
    ∙ ap (drop n) view
