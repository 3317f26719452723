use Rattle.std.proofs.Common.{refl, rules}
use Rattle.std.proofs.lemmas.Option.{slice_get_read, slice_get_past}
use Rattle.udfs_lattice.specs.States.{is_conflict, is_known}
use Rattle.udfs_index.proofs.PackLemmas.{known_shown, conflict_shown, unshown}
use Rattle.udfs_index.proofs.packing.masks_of.Goals as goal

pub returns-in-Some-clause-known : goal.returns-in-Some-clause-known
returns-in-Some-clause-known c wholes t shown =
    let found = c.in-Some.ensures.lookup in
    let p = c.in-Some.packet.now in
    let got = slice_get_read c.args.packets.now _ c.args.index p refl found.3.0 found.1 in
    known_shown wholes c.args.packets.now t c.args.index c.masks.result.0 p shown got (search rules) c.masks.ensures.known

pub returns-in-Some-clause-conflict : goal.returns-in-Some-clause-conflict
returns-in-Some-clause-conflict c wholes t shown =
    let found = c.in-Some.ensures.lookup in
    let p = c.in-Some.packet.now in
    let got = slice_get_read c.args.packets.now _ c.args.index p refl found.3.0 found.1 in
    conflict_shown wholes c.args.packets.now t c.args.index c.masks.result.1 p shown got (search rules) c.masks.ensures.conflict

pub returns-in-None-clause-known : goal.returns-in-None-clause-known
returns-in-None-clause-known c wholes t shown =
    let found = c.in-None.ensures.lookup in
    unshown is_known wholes c.args.packets.now t c.args.index refl shown (slice_get_past c.args.packets.now c.args.index found.3)

pub returns-in-None-clause-conflict : goal.returns-in-None-clause-conflict
returns-in-None-clause-conflict c wholes t shown =
    let found = c.in-None.ensures.lookup in
    unshown is_conflict wholes c.args.packets.now t c.args.index refl shown (slice_get_past c.args.packets.now c.args.index found.3)
