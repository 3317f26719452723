use Rattle.std.proofs.Common.{◌≤◌, ◌∙◌, arith, sym, refl}
use Rattle.udfs_index.specs.AnyStored.{stored_in}
use Rattle.udfs_index.proofs.IndexLemmas.{told_all}
use Rattle.udfs_tables.proofs.ImagedLemmas.{behind_first, behind_more, least_behind, nothing_behind, some_conflict, some_known}
use Rattle.udfs_tables.proofs.imaged.IndexedImaged.past_end.Goals as goal

pub loop-block-init : goal.loop-block-init
loop-block-init g c = behind_first c.args.self.now.index.now.places.packets.items c.args.last _ refl

pub loop-block-preserved : goal.loop-block-preserved
loop-block-preserved g c = behind_more c.args.self.now.index.now.places.packets.items c.args.last c.loop-block.block (sym c.slot.ensures ∙ c.in-Unknown.is) c.loop-block.invariant

pub returns-in-Known : goal.returns-in-Known
returns-in-Known g c t shows =
    let all = told_all (stored_in g.S.Stored.content) c.args.self.now.index.now.inputs.items shows.0 in
    least_behind all.0 c.args.self.now.index.now.places.packets.items t c.args.last c.loop-block.block (shows.2.says all.0 all.1) c.loop-block.invariant (some_known (sym c.slot.ensures ∙ c.in-Known.is))

pub returns-in-Conflict : goal.returns-in-Conflict
returns-in-Conflict g c t shows =
    let all = told_all (stored_in g.S.Stored.content) c.args.self.now.index.now.inputs.items shows.0 in
    least_behind all.0 c.args.self.now.index.now.places.packets.items t c.args.last c.loop-block.block (shows.2.says all.0 all.1) c.loop-block.invariant (some_conflict (sym c.slot.ensures ∙ c.in-Conflict.is))

pub returns : goal.returns
returns g c t shows =
    let all = told_all (stored_in g.S.Stored.content) c.args.self.now.index.now.inputs.items shows.0 in
    let over : c.end-block-end.result ≤ c.loop-block.block = omega (arith, c.loop-block-test.false) in
    nothing_behind all.0 c.args.self.now.index.now.places.packets.items t c.args.last c.loop-block.block c.end-block-end.result shows.1 (shows.2.says all.0 all.1) c.loop-block.invariant over c.end-block-end.ensures.rest
