use Rattle.std.proofs.Common.{rules, ◌<◌, ◌≤◌, arith, length}
use Rattle.udfs_extraction.specs.ShortNames.{front_count}
use Rattle.udfs_extraction.proofs.ShortNameLemmas.{no_front, taken_front}
use Rattle.udfs_extraction.proofs.short_names.front_count.Goals as goal

pub loop-rest-preserved : goal.loop-rest-preserved
loop-rest-preserved c =
    let inv = c.loop-rest.invariant in
    let some : 0 < length c.loop-rest.rest.now = search rules in
    let front = c.front_size-taken.ensures some in
    let fits : c.front_size-taken.result.1 ≤ c.loop-rest.left = search rules in
    let step = taken_front c.loop-rest.left c.front_size-taken.result.0 c.front_size-taken.result.1 c.loop-rest.rest.now c.split_at.result.1.now some front.0 front.1 fits c.split_at.ensures.back in
    (omega (arith, inv.0, step), omega (arith, inv.1, c.split_at.ensures.back_len))

pub returns-after-loop-rest-clause-value : goal.returns-after-loop-rest-clause-value
unfolding front_count
returns-after-loop-rest-clause-value c = search rules

pub returns-then-size-left-clause-value : goal.returns-then-size-left-clause-value
returns-then-size-left-clause-value c =
    let inv = c.loop-rest.invariant in
    let some : 0 < length c.loop-rest.rest.now = search rules in
    let front = c.front_size-taken.ensures some in
    let over : c.loop-rest.left < c.front_size-taken.result.1 = search rules in
    let none = no_front c.loop-rest.left c.front_size-taken.result.1 c.loop-rest.rest.now some front.1 over in
    omega (arith, inv.0, none)
