use Rattle.std.proofs.Common.{◌/◌, ◌<◌, ◌≤◌, length, refl, rules}
use Rattle.std.proofs.lemmas.Option.{slice_get_read}
use Rattle.udfs_lattice.specs.declared.facts.Fact.TheVariants.{Unknown}
use Rattle.udfs_index.proofs.SlotLemmas.{slots_set, slots_unsaid}
use Rattle.udfs_index.proofs.places.Places.forget.Goals as goal

pub returns-then-number-len : goal.returns-then-number-len
returns-then-number-len c =
    let within : c.args.n / 32 < length c.args.self.now.packets.items = search rules in
    slots_set c.args.self.now.packets.items c.args.self.now.packets.items c.args.n c.index_mut.result.now c.forget.new.self Unknown (λ q. refl) within (slice_get_read _ _ _ _ refl within c.index_mut.ensures.value) c.forget.ensures

pub returns-else-number-len : goal.returns-else-number-len
returns-else-number-len c =
    let past : length c.args.self.now.packets.items ≤ c.args.n / 32 = search rules in
    slots_unsaid c.args.self.now.packets.items c.args.n past
