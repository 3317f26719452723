use Rattle.std.proofs.Common.{◌∙◌, ap, sym, ◌++◌, ◌∷◌, [], arith, append_assoc, take}
use Rattle.std.specs.String.{string_bytes}
use Rattle.udfs_salvage.specs.NodeTexts.{names_text}
use Rattle.udfs_salvage.proofs.PathNames.{next_name, some_name}
use Rattle.udfs_salvage.proofs.appending.push_names.Goals as goal
use Rattle.udfs_salvage.proofs.appending.push_names.Goals.{in-Some+in_ok-push_name, in_default}

pub loop-index-preserved : goal.loop-index-preserved
loop-index-preserved c =
    let path = c.args.path.now in
    let i = c.loop-index.index in
    elim c.match-get.branch [
      | in-Some+in_ok-push_name w ↦ ap string_bytes w.text-is ∙ w.in_ok-push_name.ensures
          ∙ ap (λ t. t ++ names_text (w.in-Some.name.now ∷ [])) c.loop-index.invariant
          ∙ append_assoc (string_bytes c.args.text.now) (names_text (take i path)) (names_text (w.in-Some.name.now ∷ []))
          ∙ ap (λ t. string_bytes c.args.text.now ++ t) (sym (next_name path i w.in-Some.name.now w.in-Some.ensures))
      | in_default w ↦ absurd (some_name path i (let h = c.loop-index-test.true in let e = c.len-index-end.ensures in omega (arith, h, e)) w.in_default.ensures)
    ]
