use Rattle.std.proofs.Common.{◌-◌, ◌/◌, ◌%◌, arith}
use Rattle.udfs_index.proofs.FrontLemmas.{end_read, header_read, read_fails, records_read}
use Rattle.udfs_index.proofs.stored_pair.StoredPairStored.read_at.Goals as goal

pub returns-then-at-lt-HEADER-clause-value : goal.returns-then-at-lt-HEADER-clause-value
returns-then-at-lt-HEADER-clause-value g c =
    header_read (g.S.Stored.content c.args.self.now.image) c.args.self.now.blocks c.count.result c.args.at c.give_header.result _ c.count.ensures.value c.if-at-lt-HEADER.true c.give_header.ensures.few c.give_header.ensures.value

pub returns-in-Some-clause-value : goal.returns-in-Some-clause-value
returns-in-Some-clause-value g c =
    let high = c.if-at-lt-HEADER.false in
    records_read (g.S.Stored.content c.args.self.now.image) c.args.self.now.blocks c.args.self.now.size ((c.args.at - 16) / 2052) c.in-Some.found.block c.in-Some.found.left c.args.at ((c.args.at - 16) % 2052) c.give_behind.result _
    c.args.self.now.told c.args.self.now.inside c.in-Some.ensures.some (omega (arith, high)) c.give_behind.ensures.value

pub returns-in-Some-clause-fails : goal.returns-in-Some-clause-fails
returns-in-Some-clause-fails g c =
    read_fails (g.S.Stored.content c.args.self.now.image) (g.S.Stored.fails c.args.self.now.image) c.args.self.now.blocks c.args.self.now.size ((c.args.at - 16) / 2052) c.in-Some.found.block c.in-Some.found.left c.give_behind.result
    c.args.self.now.told c.args.self.now.inside c.in-Some.ensures.some c.give_behind.ensures.fails

pub returns-in-None-clause-end : goal.returns-in-None-clause-end
returns-in-None-clause-end g c =
    let high = c.if-at-lt-HEADER.false in
    end_read (g.S.Stored.content c.args.self.now.image) c.args.self.now.blocks c.args.self.now.size ((c.args.at - 16) / 2052) c.args.at _ _ c.args.self.now.told c.args.self.now.inside c.in-None.ensures.none (omega (arith, high))
