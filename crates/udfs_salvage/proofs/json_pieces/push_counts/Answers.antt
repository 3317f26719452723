use Rattle.std.proofs.Common.{◌≡◌, ◌∙◌, ◌++◌, ℕ, List, ap, append_assoc}
use Rattle.std.specs.Prelude.{codes}
use Rattle.std.specs.String.{string_bytes}
use Rattle.serde_json.specs.Written.{compact_text}
use Rattle.udfs_salvage.specs.JsonNodes.{count}
use Rattle.udfs_salvage.specs.JsonPieces.{counts_piece}
use Rattle.udfs_salvage.proofs.json_pieces.push_counts.Goals as goal

-- two pieces behind a text
two_pieces : (a b c f x h y : List ℕ) → b ≡ a ++ (f ++ x) → c ≡ b ++ (h ++ y) → c ≡ a ++ (f ++ (x ++ (h ++ y)))
two_pieces a b c f x h y first second =
    second
    ∙ ap (λ (z : List ℕ). z ++ (h ++ y)) first
    ∙ append_assoc a (f ++ x) (h ++ y)
    ∙ ap (λ (z : List ℕ). a ++ z) (append_assoc f x (h ++ y))

pub returns : goal.returns
unfolding counts_piece
returns g c told t holds =
    let old = string_bytes c.args.text.now in
    let between = string_bytes c.push_count.new.text in
    let first = c.in_ok-push_count.ensures ∙ ap (λ (n : ℕ). old ++ (codes "{\"conflict\":" ++ compact_text (count n))) (c.from.ensures ∙ c.conflicts.ensures told t holds) in
    let second = c.in_ok-push_count-2.ensures ∙ ap (λ (n : ℕ). between ++ (codes ",\"known\":" ++ compact_text (count n))) (c.from-2.ensures ∙ c.known.ensures told t holds) in
    two_pieces old between _ (codes "{\"conflict\":") _ (codes ",\"known\":") _ first second
