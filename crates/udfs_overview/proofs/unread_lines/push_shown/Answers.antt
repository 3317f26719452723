use Rattle.std.proofs.Common.{◌≡◌, ◌∙◌, ◌++◌, ◌-◌, List, ap, length, map, subst, sym, ℕ}
use Rattle.std.specs.Borrow.{Bor}
use Rattle.std.specs.Prelude.{OnOk, flat_map, take}
use Rattle.std.specs.String.{string_bytes}
use Rattle.std.proofs.lemmas.List.{length-map, take-map}
use Rattle.udfs_overview.specs.TornLists.{more_line, shown_rows}
use Rattle.udfs_overview.specs.UnreadLists.{path_line, unread_rows}
use Rattle.udfs_overview.proofs.Chains.{last_appended}
use Rattle.udfs_overview.proofs.unread_lines.push_shown.Goals as goal

pub returns : goal.returns
unfolding unread_rows
returns c =
    let now : Bor (List (List ℕ)) → List (List ℕ) = λ path. path.now in
    let ps = c.args.paths.now in
    let r = c.push_more.result in
    let old = string_bytes c.args.text.now in
    let middle = string_bytes c.push_path_lines.new.text in
    let new = string_bytes c.push_more.new.text in
    last_appended r old middle new (flat_map path_line (take shown_rows (map now ps))) (more_line (length (map now ps) - shown_rows))
    (c.in_ok-push_path_lines.ensures ∙ ap (λ xs. old ++ flat_map path_line xs) (ap (map now) c.shown.ensures ∙ sym (take-map now shown_rows ps)))
    (subst (λ (n : ℕ). OnOk r (new ≡ middle ++ more_line n)) (c.saturating_sub.ensures ∙ ap (λ l. l - shown_rows) (sym (length-map ps now))) c.push_more.ensures)
