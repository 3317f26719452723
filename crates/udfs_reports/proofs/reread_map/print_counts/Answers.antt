use Rattle.std.proofs.Common.{◌≡◌, ℕ, List, inr, refl, rules, subst}
use Rattle.udfs_reading.specs.Writing.{Failed}
use Rattle.udfs_reports.specs.Rereading.{domain_line}
use Rattle.udfs_reports.proofs.reread_map.print_counts.Goals as goal

pub returns-clause-refused : goal.returns-clause-refused
returns-clause-refused g c =
    let is : c.as_bytes.result.now ≡ domain_line c.args.group c.args.wanted.now c.args.known c.args.all = search rules in
    inr (refl, subst (λ (bytes : List ℕ). Failed (g.O.Sink.stream c.args.out.now) (g.O.Sink.stream c.write_all.new.sink) bytes) is c.in-Err-write_all.ensures)
