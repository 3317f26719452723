use Rattle.udfs_extraction.proofs.FolderLemmas.{front_of}
use Rattle.udfs_extraction.proofs.naming.before_slash.Goals as goal

pub returns-in-Some : goal.returns-in-Some
returns-in-Some c = front_of c.args.path.now c.rsplit_once.result (c.in-Some.front, c.in-Some.field-0-1) c.in-Some.is c.rsplit_once.ensures.cases
