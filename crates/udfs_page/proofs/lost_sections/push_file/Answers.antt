use Rattle.std.proofs.Common.{◌∙◌, ◌++◌, ap}
use Rattle.std.specs.String.{string_bytes}
use Rattle.udfs_overview.specs.LostLists.{lost_word}
use Rattle.udfs_page.specs.LostSections.{file_html}
use Rattle.udfs_page.proofs.Texts.{seven}
use Rattle.udfs_page.proofs.lost_sections.push_file.Goals as goal

pub returns : goal.returns
unfolding file_html
returns c =
    seven c.push_markup-3.result _ _ _ _ _ _ _ _ _ _ _ _ _ _ _ c.in_ok-push_leaf_front.ensures c.in_ok-push_markup.ensures
    (c.in_ok-push_lost_word.ensures ∙ ap (λ icb. string_bytes c.push_markup.new.text ++ lost_word c.args.two icb) c.address.ensures) c.in_ok-push_markup-2.ensures c.in_ok-push_note.ensures c.in_ok-push_date.ensures c.push_markup-3.ensures
