use Rattle.std.proofs.Common.{◌≡◌, ◌+◌, ◌-◌, ◌∙◌, arith, length, refl}
use Rattle.udfs_common.proofs.TakingLemmas.{not_taken, put_counts, put_many, rest_next, taken_end, taken_start, taken_then}
use Rattle.udfs_common.proofs.taking.take_sources.Goals as goal

pub loop-place-init : goal.loop-place-init
loop-place-init g c = record { many = refl; rest = refl; counts = refl; taken = taken_start _ c.args.paths.now c.args.sources.now _ c.args.force _ refl }

pub loop-place-preserved : goal.loop-place-preserved
loop-place-preserved g c =
    let i = c.loop-place.invariant in
    let n = c.loop-place.place in
    let now = c.loop-place.sources in
    let one : n + 1 - n ≡ 1 = omega arith in
    let less = c.loop-place-test.true in
    let counts = c.in-Ok.ensures.counts in
    record {
      many = put_many _ n (n + 1 - n) now c.take_next.new.one counts ∙ i.many;
      rest = rest_next _ n (n + 1 - n) c.args.sources.now now c.take_next.new.one one less counts i.rest;
      counts = put_counts _ n (n + 1 - n) now c.take_next.new.one counts ∙ i.counts;
      taken = taken_then _ c.args.paths.now c.args.sources.now now n (n + 1 - n) c.args.force _ _ _ one less i.rest i.taken c.in-Ok.ensures.table;
    }

pub returns-in-Err-clause-blamed : goal.returns-in-Err-clause-blamed
returns-in-Err-clause-blamed g c =
    let i = c.loop-place.invariant in
    let n = c.loop-place.place in
    let one : n + 1 - n ≡ 1 = omega arith in
    not_taken _ _ c.args.paths.now c.args.sources.now c.loop-place.sources _ n (n + 1 - n) c.args.force _ _ c.in-Err.refusal one c.loop-place-test.true i.rest i.counts i.taken c.in-Err.ensures.blamed

pub returns-clause-table : goal.returns-clause-table
returns-clause-table g c =
    let end = c.loop-place-test.false in
    let high = c.loop-place.auto.place-end in
    let last : c.loop-place.place ≡ length c.args.sources.now = omega (arith, end, high) in
    taken_end _ c.args.paths.now c.args.sources.now c.loop-place.place c.args.force _ _ last c.loop-place.invariant.taken

pub returns-clause-counts : goal.returns-clause-counts
returns-clause-counts g c = c.loop-place.invariant.counts
