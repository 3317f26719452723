use Rattle.std.proofs.Common.{◌≡◌, ap, rules}
use Rattle.std.specs.Prelude.{Err}
use Rattle.udfs_remarks.specs.NoReports.{salvage_refusal_of}
use Rattle.udfs_remarks.proofs.Untold.{untold}
use Rattle.udfs_remarks.proofs.looking.listed.Goals as goal

pub returns-in-Err-clause-refused : goal.returns-in-Err-clause-refused
returns-in-Err-clause-refused c =
    let is : c.refused_report.result ≡ salvage_refusal_of c.in-Err.error = search rules in
    let why = c.in-Err.ensures in
    rw (is) (untold c.args.profile c.args.table.now c.args.last c.in-Err.error (λ e. why.range.0 (ap (λ x. Err x) e)) (λ n e. (why.past n).0 (ap (λ x. Err x) e)) (λ e. why.too_many (ap (λ x. Err x) e)) why.of_no_lawful)
