use Rattle.std.proofs.Common.{◌≡◌, ◌∙◌, Bor, ℕ, List, ap, map, sym}
use Rattle.std.specs.Prelude.{◌||◌}
use Rattle.std.specs.List.{list_any}
use Rattle.udfs_salvage.specs.Choosing.{is_under}
use Rattle.udfs_salvage.specs.NodeTexts.{path_name}
use Rattle.udfs_salvage.proofs.InLineLists.{in_line_some}
use Rattle.udfs_salvage.proofs.in_line.is_in_line.Goals as goal

pub returns : goal.returns
returns c =
    let words : List (List ℕ) = map (λ (w : Bor (List ℕ)). w.now) c.args.only.now in
    let text : c.as_str.result.now ≡ path_name c.args.path.now = c.as_str.ensures.value ∙ c.in_ok-text.ensures in
    c.is_any_along.ensures ∙ ap (λ (t : List ℕ). list_any (λ (word : List ℕ). is_under word t || is_under t word) words) text
    ∙ in_line_some c.args.only.now c.args.path.now (sym c.is_empty.ensures ∙ c.if-is_empty.false)
