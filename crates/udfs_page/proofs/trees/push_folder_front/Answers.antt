use Rattle.std.proofs.Common.{◌∙◌, ◌++◌, ap, Bool}
use Rattle.std.specs.String.{string_bytes}
use Rattle.udfs_page.specs.Trees.{details_front}
use Rattle.udfs_page.proofs.Texts.{three}
use Rattle.udfs_page.proofs.trees.push_folder_front.Goals as goal

pub returns : goal.returns
returns c =
    three c.push_markup.result _ _ _ _ _ _ _ (c.in_ok-push_begin.ensures ∙ ap (λ (b : Bool). string_bytes c.args.text.now ++ details_front b) c.is_shut.ensures) c.in_ok-push_class_in.ensures c.push_markup.ensures
