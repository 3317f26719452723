use Rattle.udfs_salvage.proofs.BodyBytes.{bytes_portion, zeros_portion, missing_portion}
use Rattle.udfs_salvage.proofs.body_bytes.push_portion.Goals as goal

pub returns-in-Bytes : goal.returns-in-Bytes
returns-in-Bytes g c = λ cs is n. rw (bytes_portion c.args.fill c.args.portion c.in-Bytes.bytes cs c.in-Bytes.is is) c.push_bytes.ensures

pub returns-in-Zeros : goal.returns-in-Zeros
returns-in-Zeros g c = λ cs is n. rw (zeros_portion c.args.fill c.args.portion c.in-Zeros.count cs c.in-Zeros.is is) c.push_same.ensures

pub returns-in-Missing : goal.returns-in-Missing
returns-in-Missing g c = λ cs is n. rw (missing_portion c.args.fill c.args.portion _ cs c.in-Missing.is is n) c.push_same-in-Missing.ensures
