use Rattle.std.proofs.Common.{◌≡◌, ◌∷◌, ◌<◌, refl, rules}
use Rattle.udfs_memory.specs.Keeping.{start_of}
use Rattle.udfs_memory.specs.Noted.{call_of}
use Rattle.udfs_memory.specs.Standing.{stands_on}
use Rattle.udfs_memory.proofs.memory_calls.MemoryCalls.act.Goals as goal

pub invariant_of-self-2 : goal.invariant_of-self-2
invariant_of-self-2 c =
    let old = c.args.self.now in
    let more : c.insert.new.self.items ≡ record { number = old.count; what = c.in-Ok.what } ∷ old.kept.items = search rules in
    let longer : c.then-self.result.calls ≡ call_of c.args.deed.now ∷ old.history.calls = search rules in
    let below : old.count < 18446744073709551615 = search rules in
    let all = stands_on (start_of old.stored.now) old.kept.items c.insert.new.self.items old.history.calls c.then-self.result.calls old.count (call_of c.args.deed.now) (record { number = old.count; what = c.in-Ok.what })
    more longer c.in-Ok.ensures refl below (record { nodes = old.nodes; contents = old.contents; counted = old.counted; lawful = old.lawful }) c.requires in
    record { nodes = all.nodes; contents = all.contents; counted = all.counted; lawful = all.lawful }
