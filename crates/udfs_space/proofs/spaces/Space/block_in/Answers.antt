use Rattle.std.proofs.Common.{sym, ap, arith, ◌≤◌}
use Rattle.std.specs.Prelude.{option_map}
use Rattle.udfs_space.specs.Places.{length_of}
use Rattle.udfs_space.proofs.Standing.{absent}
use Rattle.udfs_space.proofs.spaces.Space.block_in.Goals as goal

pub returns-then-block-from-clause-value : goal.returns-then-block-from-clause-value
returns-then-block-from-clause-value g c told =
    let high : length_of c.args.self.now c.args.reference ≤ c.args.block = omega (arith, c.if-block-from.true, c.from.ensures, c.size.ensures.value) in
    sym (ap (option_map _) (absent c.args.self.now c.args.reference c.args.block high))
