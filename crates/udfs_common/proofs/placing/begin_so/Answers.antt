use Rattle.std.proofs.Common.{◌≡◌, bytes_eq, false, length, rules, take, true}
use Rattle.udfs_common.proofs.PlacingLemmas.{front_found, no_front}
use Rattle.udfs_common.proofs.placing.begin_so.Goals as goal

pub returns-then-bytes-front-clause-no : goal.returns-then-bytes-front-clause-no
returns-then-bytes-front-clause-no c is more same =
    let differ : bytes_eq (take (length c.args.front.now) c.args.bytes.now) c.args.front.now ≡ false = search rules in
    no_front c.args.bytes.now c.args.front.now more differ same

pub returns-then-bytes-front-clause-so : goal.returns-then-bytes-front-clause-so
returns-then-bytes-front-clause-so c is =
    let same : bytes_eq (take (length c.args.front.now) c.args.bytes.now) c.args.front.now ≡ true = search rules in
    front_found c.args.bytes.now c.args.front.now same
