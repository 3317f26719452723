use Rattle.udfs_extraction.proofs.LawLemmas.{reports_are_walked as law}
use Rattle.udfs_extraction.proofs.laws.reports_are_walked.Goals as goal

pub returns : goal.returns
returns c = law
