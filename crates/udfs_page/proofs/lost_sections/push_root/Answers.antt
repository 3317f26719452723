use Rattle.std.proofs.Common.{◌∙◌, ◌++◌, ap}
use Rattle.std.specs.String.{string_bytes}
use Rattle.udfs_page.specs.LostSections.{root_html}
use Rattle.udfs_page.specs.Trees.{note_html}
use Rattle.udfs_page.proofs.Texts.{eight}
use Rattle.udfs_page.proofs.lost_sections.push_root.Goals as goal

pub returns : goal.returns
unfolding root_html
returns c =
    eight c.push_markup-3.result _ _ _ _ _ _ _ _ _ _ _ _ _ _ _ _ _ c.in_ok-push_folder_front.ensures c.in_ok-push_markup.ensures c.in_ok-push_lost_word.ensures c.in_ok-push_markup-2.ensures
    (c.in_ok-push_note.ensures ∙ ap (λ n. string_bytes c.push_markup-2.new.text ++ note_html c.args.tail c.args.standing.now n.kind n.size) c.node.view_is) c.in_ok-push_inside.ensures c.in_ok-push_in.ensures c.push_markup-3.ensures
