use Rattle.std.proofs.Common.{◌≡◌, ◌+◌, ◌%◌, ◌<◌, ◌≤◌, ap, subst, arith}
use Rattle.std.proofs.lemmas.Nat.{mod_below}
use Rattle.udfs_space.proofs.Beside.{beside_packet}
use Rattle.udfs_space.proofs.spans.Span.beside.Goals as goal

pub returns-clause-beside : goal.returns-clause-beside
returns-clause-beside c =
    let less : c.args.block % c.self.inside.packet < c.self.inside.packet = mod_below c.args.block c.self.inside.packet c.self.invariant.packet in
    let packet : c.self.inside.packet ≡ c.args.self.now.packet = ap (λ s. s.packet) c.self.view_is in
    let size : c.self.inside.length ≡ c.args.self.now.size = ap (λ s. s.size) c.self.view_is in
    let near : c.args.block % c.self.inside.packet + c.min.result ≤ c.self.inside.packet = omega (arith, less, c.min.ensures) in
    beside_packet c.args.self.now c.args.block c.min.result (subst (λ p. c.args.block % p + c.min.result ≤ p) packet near) (omega (arith, size, c.min.ensures, c.if-block-self.false))
