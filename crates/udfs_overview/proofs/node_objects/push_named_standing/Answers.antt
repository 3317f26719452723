use Rattle.std.proofs.Common.{◌++◌, ℕ, List, ap, append_assoc, codes, ◌∙◌}
use Rattle.std.proofs.lemmas.Result.{IfOk-weaker}
use Rattle.std.specs.String.{string_bytes}
use Rattle.udfs_overview.specs.NodeLists.{standing_json, standing_word}
use Rattle.udfs_overview.proofs.node_objects.push_named_standing.Goals as goal

pub returns : goal.returns
unfolding standing_json
returns c =
    let word = standing_word c.args.standing.now in
    IfOk-weaker c.push_standing.result _ _
    (λ done h. h ∙ (ap (λ (l : List ℕ). l ++ word) c.in_ok-push_str.ensures.bytes ∙ append_assoc (string_bytes c.args.text.now) (codes "\"standing\":\"") word)) c.push_standing.ensures
