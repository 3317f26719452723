use Rattle.udfs_page.proofs.Html.{inert}
use Rattle.udfs_page.proofs.escapes.html_injects_nothing.Goals as goal

pub returns : goal.returns
returns c = inert
