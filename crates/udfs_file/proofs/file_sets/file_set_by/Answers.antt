use Rattle.std.proofs.Common.{◌≡◌, ◌∙◌, ap, sym, subst, ℕ, Option, None}
use Rattle.udfs_lattice.specs.States.{State}
use Rattle.udfs_space.specs.Places.{View, block_at, block_now}
use Rattle.udfs_space.specs.Views.{view_by}
use Rattle.udfs_tag.specs.Fields.{first_address}
use Rattle.udfs_tag.specs.declared.layouts.LbAddr.{LbAddr}
use Rattle.udfs_tag.specs.declared.layouts.LongAd.{LongAd}
use Rattle.udfs_volume.specs.Answers.{Answer, IsHoles}
use Rattle.udfs_volume.specs.Seen.{Sees}
use Rattle.udfs_file.specs.Addresses.{address_fault, file_set, file_set_at}
use Rattle.udfs_file.specs.declared.faults.NodeFault.{NodeFault}
use Rattle.udfs_file.proofs.Telling.{tells_file_set}
use Rattle.udfs_volume.specs.declared.faults.VolumeFault.TheVariants.{FileSet}
use Rattle.udfs_volume.specs.declared.seen.Seen.TheVariants.{Fault}
use Rattle.udfs_file.proofs.file_sets.file_set_by.Goals as goal

-- what is told of the block is what the definition tells
same_set : (v : View) (a : LongAd) (at : LbAddr) (block : Option (ℕ × State)) → block ≡ block_at v at.reference at.block → at ≡ first_address a → None ≡ address_fault v a
    → file_set_at a None block ≡ file_set v a
unfolding file_set
same_set v a at block e l f = ap (file_set_at a None) (e ∙ ap (λ (x : LbAddr). block_at v x.reference x.block) l) ∙ ap (λ (o : Option NodeFault). file_set_at a o (block_at v a.reference a.block)) f

pub returns-in-Some-clause-value : goal.returns-in-Some-clause-value
unfolding file_set
returns-in-Some-clause-value g c told = ap (λ (o : Option NodeFault). file_set_at c.args.address o (block_at (view_by g.B.BlockStore.states c.args.view) c.args.address.reference c.args.address.block))
    (sym (c.in-Some.ensures (g.B.BlockStore.states c.args.view.blocks.now)))

pub returns-in-Some-clause-complete : goal.returns-in-Some-clause-complete
unfolding file_set
returns-in-Some-clause-complete g c told = tells_file_set (view_by g.B.BlockStore.states c.args.view) c.args.address (Fault FileSet)
    (ap (λ (o : Option NodeFault). file_set_at c.args.address o (block_at (view_by g.B.BlockStore.states c.args.view) c.args.address.reference c.args.address.block))
    (sym (c.in-Some.ensures (g.B.BlockStore.states c.args.view.blocks.now))))
    (λ refused. absurd (let no : ⊥ = cc in no))

pub returns-in_ok-block-in-None-clause-value : goal.returns-in_ok-block-in-None-clause-value
returns-in_ok-block-in-None-clause-value g c told = subst (Sees (λ a. a) c.file_set_at.result)
    (same_set (view_by g.B.BlockStore.states c.args.view) c.args.address c.address.result (block_now c.in_ok-block-in-None.block) (c.in_ok-block-in-None.ensures.value told) c.address.ensures (c.in-None.ensures (g.B.BlockStore.states c.args.view.blocks.now)))
    c.file_set_at.ensures.value

pub returns-in_ok-block-in-None-clause-memory : goal.returns-in_ok-block-in-None-clause-memory
returns-in_ok-block-in-None-clause-memory g c told refused = subst (λ (a : Answer LongAd). IsHoles a)
    (same_set (view_by g.B.BlockStore.states c.args.view) c.args.address c.address.result (block_now c.in_ok-block-in-None.block) (c.in_ok-block-in-None.ensures.value told) c.address.ensures (c.in-None.ensures (g.B.BlockStore.states c.args.view.blocks.now)))
    (c.file_set_at.ensures.memory refused)

pub returns-in_ok-block-in-None-clause-complete : goal.returns-in_ok-block-in-None-clause-complete
returns-in_ok-block-in-None-clause-complete g c told = tells_file_set (view_by g.B.BlockStore.states c.args.view) c.args.address c.file_set_at.result
    (returns-in_ok-block-in-None-clause-value g c told) (returns-in_ok-block-in-None-clause-memory g c told)
