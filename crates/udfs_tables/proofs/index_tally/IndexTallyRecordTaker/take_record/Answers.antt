use Rattle.udfs_lattice.specs.declared.facts.Fact.TheVariants.{Known}
use Rattle.udfs_tables.proofs.EntryTables.{one_more_is_table}
use Rattle.udfs_tables.proofs.index_tally.IndexTallyRecordTaker.take_record.Goals as goal

pub returns-after-was_known-clause-next : goal.returns-after-was_known-clause-next
returns-after-was_known-clause-next g c done count h is less =
    let one = c.in-Ok.ensures.next done count h is less in
    record {
      one = one.one;
      is = one.is;
      front = one.front;
      took = λ t p. (one_more_is_table t one.one.0 (Known one.one.1) p.0 (one.is.number, one.is.block), one.took t p.1);
    }
