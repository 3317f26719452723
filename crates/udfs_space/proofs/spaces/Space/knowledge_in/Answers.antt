use Rattle.std.proofs.Common.{ℕ, sym, ap, arith, ◌≤◌}
use Rattle.std.specs.Prelude.{option_map}
use Rattle.udfs_lattice.specs.States.{State}
use Rattle.udfs_lattice.specs.Stores.{known_as}
use Rattle.udfs_space.specs.Places.{length_of}
use Rattle.udfs_space.proofs.Standing.{absent}
use Rattle.udfs_space.proofs.spaces.Space.knowledge_in.Goals as goal

pub returns-then-block-from-clause-value : goal.returns-then-block-from-clause-value
returns-then-block-from-clause-value g c told =
    let high : length_of c.args.self.now c.args.reference ≤ c.args.block = omega (arith, c.if-block-from.true, c.from.ensures, c.size.ensures.value) in
    sym (ap (λ found. option_map (λ (at : ℕ × State). (at.0, known_as at.1)) (option_map (λ (n : ℕ). (n, g.B.BlockStore.states c.args.blocks.now n)) found)) (absent c.args.self.now c.args.reference c.args.block high))
