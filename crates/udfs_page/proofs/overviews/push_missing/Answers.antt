use Rattle.udfs_page.proofs.Texts.{three}
use Rattle.udfs_page.proofs.overviews.push_missing.Goals as goal

pub returns : goal.returns
returns c =
    three c.push_other_folders.result _ _ _ _ _ _ _ c.in_ok-push_markup.ensures c.in_ok-push_path.ensures c.push_other_folders.ensures
