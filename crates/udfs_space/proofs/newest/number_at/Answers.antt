use Rattle.std.proofs.Common.{◌∙◌, sym, ap, drop}
use Rattle.udfs_tag.specs.Tags.{is_valid}
use Rattle.udfs_space.proofs.Ranks.{ReadsAlone, number-unread, number-whole}
use Rattle.udfs_space.proofs.newest.number_at.Goals as goal

pub returns-in_default-clause-value : goal.returns-in_default-clause-value
returns-in_default-clause-value g c told =
    let t = g.B.BlockStore.states c.args.blocks.now in
    let size = c.args.map.now.size in
    let alone = c.in_ok-alone.alone in
    let r : ReadsAlone t size c.args.place alone.size alone.tables.items = record { sizes = c.in_ok-alone.ensures.size; tables = c.in_ok-alone.ensures.tables } in
    sym (number-unread t size c.args.place alone.size alone.tables.items r (rw c.in_default.is at (c.in_ok-bytes.ensures.holes told)))

pub returns-clause-value : goal.returns-clause-value
returns-clause-value g c told =
    let t = g.B.BlockStore.states c.args.blocks.now in
    let size = c.args.map.now.size in
    let alone = c.in_ok-alone.alone in
    let r : ReadsAlone t size c.args.place alone.size alone.tables.items = record { sizes = c.in_ok-alone.ensures.size; tables = c.in_ok-alone.ensures.tables } in
    number-whole t size c.args.place alone.size alone.tables.items c.in-Some.bytes.items c.behind-content.result.now c.behind.result.now c.read_u32.result r
    (rw c.in-Some.is at (c.in_ok-bytes.ensures.holes told)) (rw c.in-Some.is at (c.in_ok-bytes.ensures.value told))
    (ap (λ bytes. is_valid bytes c.args.place 0) (sym c.deref.ensures.value) ∙ sym c.is_valid.ensures.value ∙ c.if-not-is_valid.false)
    (c.behind-content.ensures.value ∙ ap (drop 16) c.deref-2.ensures.value) c.behind.ensures.value c.read_u32.ensures
