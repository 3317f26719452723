use Rattle.std.proofs.Common.{◌∙◌, ap, sym, Some}
use Rattle.udfs_lattice.specs.States.{fact_now}
use Rattle.udfs_file.specs.Addresses.{address_fault}
use Rattle.udfs_space.specs.Views.{view_by}
use Rattle.udfs_lost.proofs.EntryLemmas.{bad_entry, disputed_block, entry_block, faulty_block, no_block, unknown_block}
use Rattle.udfs_lost.proofs.entries.entry_at.Goals as goal

pub returns-in-Some-clause-value : goal.returns-in-Some-clause-value
returns-in-Some-clause-value g c told = let v = view_by g.B.BlockStore.states c.args.view in
    bad_entry v c.args.icb c.in-Some.field-0 (c.in-Some.ensures (g.B.BlockStore.states c.args.view.blocks.now) ∙ ap (address_fault v) c.entry_address.ensures)

pub returns-in-None-2-clause-value : goal.returns-in-None-2-clause-value
returns-in-None-2-clause-value g c told = let v = view_by g.B.BlockStore.states c.args.view in
    no_block v c.args.icb (c.in-None.ensures (g.B.BlockStore.states c.args.view.blocks.now) ∙ ap (address_fault v) c.entry_address.ensures) (rw c.in-None-2.is at (c.in_ok-block_at-in-None.ensures.value told))

pub returns-in-Unknown-clause-value : goal.returns-in-Unknown-clause-value
returns-in-Unknown-clause-value g c told = let v = view_by g.B.BlockStore.states c.args.view in
    unknown_block v c.args.icb c.in-Some-2.field-0-0 (c.in-None.ensures (g.B.BlockStore.states c.args.view.blocks.now) ∙ ap (address_fault v) c.entry_address.ensures)
    (ap (λ f. Some (c.in-Some-2.field-0-0, fact_now f)) (sym c.in-Unknown.is) ∙ rw c.in-Some-2.is at (c.in_ok-block_at-in-None.ensures.value told))

pub returns-in-Conflict-clause-value : goal.returns-in-Conflict-clause-value
returns-in-Conflict-clause-value g c told = let v = view_by g.B.BlockStore.states c.args.view in
    disputed_block v c.args.icb c.in-Some-2.field-0-0 (c.in-None.ensures (g.B.BlockStore.states c.args.view.blocks.now) ∙ ap (address_fault v) c.entry_address.ensures)
    (ap (λ f. Some (c.in-Some-2.field-0-0, fact_now f)) (sym c.in-Conflict.is) ∙ rw c.in-Some-2.is at (c.in_ok-block_at-in-None.ensures.value told))

pub returns-in-Ok-clause-value : goal.returns-in-Ok-clause-value
returns-in-Ok-clause-value g c told = let v = view_by g.B.BlockStore.states c.args.view in
    entry_block v c.args.icb c.in-Some-2.field-0-0 c.in-Known.bytes.now c.in-Ok.entry (c.in-None.ensures (g.B.BlockStore.states c.args.view.blocks.now) ∙ ap (address_fault v) c.entry_address.ensures)
    (ap (λ f. Some (c.in-Some-2.field-0-0, fact_now f)) (sym c.in-Known.is) ∙ rw c.in-Some-2.is at (c.in_ok-block_at-in-None.ensures.value told)) c.in-Ok.ensures.0 c.in-Ok.ensures.1

pub returns-in-Err-clause-value : goal.returns-in-Err-clause-value
returns-in-Err-clause-value g c told = let v = view_by g.B.BlockStore.states c.args.view in
    faulty_block v c.args.icb c.in-Some-2.field-0-0 c.in-Known.bytes.now c.in-Err.field-0 (c.in-None.ensures (g.B.BlockStore.states c.args.view.blocks.now) ∙ ap (address_fault v) c.entry_address.ensures)
    (ap (λ f. Some (c.in-Some-2.field-0-0, fact_now f)) (sym c.in-Known.is) ∙ rw c.in-Some-2.is at (c.in_ok-block_at-in-None.ensures.value told)) c.in-Err.ensures
