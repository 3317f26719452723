use Rattle.std.proofs.Math.Logic.{∥∥₁_map}
use Rattle.udfs_extraction.proofs.DigestLemmas.{taken_more, taken_still}
use Rattle.udfs_extraction.proofs.digesting.Digesting.take.Goals as goal

pub invariant_of-self : goal.invariant_of-self
invariant_of-self g c = record { taken = ∥∥₁_map c.args.self.now.taken (λ taken tells. taken_more _ _ _ _ _ c.in-Ok.ensures.bytes c.update.ensures (taken tells)) }

pub invariant_of-self-in-Err-1 : goal.invariant_of-self-in-Err-1
invariant_of-self-in-Err-1 g c = record { taken = ∥∥₁_map c.args.self.now.taken (λ taken tells. taken_still _ _ _ c.in-Err.ensures.bytes (taken tells)) }
