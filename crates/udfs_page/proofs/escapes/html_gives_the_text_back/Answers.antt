use Rattle.udfs_page.proofs.Html.{back}
use Rattle.udfs_page.proofs.escapes.html_gives_the_text_back.Goals as goal

pub returns : goal.returns
returns c = back
