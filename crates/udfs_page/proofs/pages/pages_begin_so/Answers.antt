use Rattle.udfs_page.proofs.Beginnings.{begins_so}
use Rattle.udfs_page.proofs.pages.pages_begin_so.Goals as goal

pub returns : goal.returns
returns c = λ given called rules table last report answer. begins_so given called rules table last report answer
