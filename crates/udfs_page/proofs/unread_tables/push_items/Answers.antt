use Rattle.std.proofs.Common.{◌∙◌, ◌++◌, List, ap, map, sym, ℕ}
use Rattle.std.specs.Borrow.{Bor}
use Rattle.std.specs.Prelude.{flat_map}
use Rattle.std.specs.String.{string_bytes}
use Rattle.std.proofs.lemmas.List.{take-map}
use Rattle.udfs_overview.specs.TornLists.{shown_rows}
use Rattle.udfs_page.specs.UnreadTables.{unread_item, unread_items}
use Rattle.udfs_page.proofs.Texts.{three}
use Rattle.udfs_page.proofs.unread_tables.push_items.Goals as goal

pub returns : goal.returns
unfolding unread_items
returns c =
    let now : Bor (List (List ℕ)) → List (List ℕ) = λ path. path.now in
    let ps = c.args.paths.now in
    three c.push_markup-2.result _ _ _ _ _ _ _ c.in_ok-push_markup.ensures
    (c.in_ok-push_each.ensures ∙ ap (λ xs. string_bytes c.push_markup.new.text ++ flat_map unread_item xs) (ap (map now) c.shown.ensures ∙ sym (take-map now shown_rows ps)))
    c.push_markup-2.ensures
