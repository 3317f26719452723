use Rattle.std.proofs.Common.{◌∙◌, ◌+◌, ◌/◌, ◌%◌, sym, arith, ⊎_elim, inl, inr}
use Rattle.std.proofs.lemmas.Bool.{cases_lt}
use Rattle.udfs_lattice.proofs.PacketTables.{state_beside, unknown_packet}
use Rattle.udfs_lattice.proofs.table.BlockTable.unknown_ahead.Goals as goal

pub returns-in_default-clause-unknown : goal.returns-in_default-clause-unknown
returns-in_default-clause-unknown c j d = unknown_packet c.self.inside.packets c.args.self.now (c.args.n / 32) c.self.invariant c.self.view_is c.in_default.ensures.value (c.args.n + j) (omega (arith, d))

pub returns-clause-unknown : goal.returns-clause-unknown
returns-clause-unknown c j d = state_beside c.self.inside.packets c.args.self.now c.args.n j c.in-Some.packet.now c.self.invariant c.self.view_is c.in-Some.ensures.value (omega (arith, d, c.unknown_from.ensures.most))
    ∙ c.unknown_from.ensures.unknown j d

pub returns-clause-end : goal.returns-clause-end
returns-clause-end c = ⊎_elim
    inl
    (λ h. ⊎_elim
    (λ near. inr (λ z. h (sym (state_beside c.self.inside.packets c.args.self.now c.args.n c.unknown_from.result c.in-Some.packet.now c.self.invariant c.self.view_is c.in-Some.ensures.value near) ∙ z)))
    (λ far. inl (omega (arith, far, c.unknown_from.ensures.most)))
    (cases_lt (c.args.n % 32 + c.unknown_from.result) 32))
    c.unknown_from.ensures.end
