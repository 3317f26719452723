use Rattle.udfs_rescue.proofs.ReadMaps.{domain_is_refused, domain_reads_back}
use Rattle.udfs_rescue.proofs.laws.domains_are_marked.Goals as goal

pub returns-clause-refused : goal.returns-clause-refused
returns-clause-refused c = domain_is_refused

pub returns-clause-blocks : goal.returns-clause-blocks
returns-clause-blocks c = domain_reads_back
