use Rattle.std.proofs.Common.{refl}
use Rattle.std.proofs.lemmas.Option.{slice_get_read}
use Rattle.udfs_lattice.specs.declared.facts.Fact.TheVariants.{Conflict}
use Rattle.udfs_index.proofs.SlotLemmas.{slots_set}
use Rattle.udfs_index.proofs.places.Places.dispute.Goals as goal

pub returns-clause-ok : goal.returns-clause-ok
returns-clause-ok c = slots_set c.args.self.now.packets.items c.reach.new.packets.items c.args.n c.index_mut.result.now c.dispute.new.self Conflict c.in_ok-reach.ensures.same c.in_ok-reach.ensures.reached (slice_get_read _ _ _ _ refl c.in_ok-reach.ensures.reached c.index_mut.ensures.value) c.dispute.ensures
