use Rattle.std.proofs.Common.{◌≡◌, refl, sym, subst}
use Rattle.udfs_volume.specs.Answers.{found}
use Rattle.udfs_volume.specs.Seen.{Sees, GoesOn}
use Rattle.udfs_volume.specs.Sequence.{anchor}
use Rattle.udfs_volume.specs.declared.seen.Seen.TheVariants.{Holes, Fault, OutOfMemory}
use Rattle.udfs_lattice.proofs.StoreResults.{if_ok}
use Rattle.udfs_volume.proofs.Early.{SequenceClauses, sequence_got, sequence_stopped}
use Rattle.udfs_volume.proofs.sequences.sequence_in.Goals as goal

pub returns-in-Got : goal.returns-in-Got
returns-in-Got g c =
    let t = g.B.BlockStore.states c.args.blocks.now in
    let is : g.B.BlockStore.tells → anchor t c.args.last ≡ found c.in-Got.extents = λ told. subst (λ s. Sees (λ extents. extents) s (anchor t c.args.last)) c.in-Got.is (c.in_ok-extents.ensures.value told) in
    let all = sequence_got g.B.BlockStore.tells c.args.profile t c.args.last c.in-Got.extents c.sequence_at.result c.requires.from is c.sequence_at.ensures.value c.sequence_at.ensures.memory in
    record {
      value = if_ok c.sequence_at.result _ _ (λ seen clauses told. (clauses told).value) all;
      rising = if_ok c.sequence_at.result _ _ (λ seen clauses told. (clauses told).rising) all;
      no_anchor = if_ok c.sequence_at.result _ _ (λ seen clauses told. (clauses told).no_anchor) all;
      extents = if_ok c.sequence_at.result _ _ (λ seen clauses told. (clauses told).extents) all;
      fails = c.sequence_at.ensures.fails;
    }

pub returns-in-Holes : goal.returns-in-Holes
returns-in-Holes g c =
    let t = g.B.BlockStore.states c.args.blocks.now in
    let all : g.B.BlockStore.tells → SequenceClauses c.args.profile t c.args.last (Holes c.in-Holes.holes) = λ told.
    sequence_stopped c.args.profile t c.args.last c.in_ok-extents.field-0 (Holes c.in-Holes.holes) c.requires.from (c.in_ok-extents.ensures.value told) (c.in_ok-extents.ensures.memory told)
    (subst (λ s. GoesOn s (λ e s. ⊥) (Holes c.in-Holes.holes)) (sym c.in-Holes.is) refl) in
    record {
      value = λ told. (all told).value;
      rising = λ told. (all told).rising;
      no_anchor = λ told. (all told).no_anchor;
      extents = λ told. (all told).extents;
      fails = tt;
    }

pub returns-in-Fault : goal.returns-in-Fault
returns-in-Fault g c =
    let t = g.B.BlockStore.states c.args.blocks.now in
    let all : g.B.BlockStore.tells → SequenceClauses c.args.profile t c.args.last (Fault c.in-Fault.fault) = λ told.
    sequence_stopped c.args.profile t c.args.last c.in_ok-extents.field-0 (Fault c.in-Fault.fault) c.requires.from (c.in_ok-extents.ensures.value told) (c.in_ok-extents.ensures.memory told)
    (subst (λ s. GoesOn s (λ e s. ⊥) (Fault c.in-Fault.fault)) (sym c.in-Fault.is) refl) in
    record {
      value = λ told. (all told).value;
      rising = λ told. (all told).rising;
      no_anchor = λ told. (all told).no_anchor;
      extents = λ told. (all told).extents;
      fails = tt;
    }

pub returns-in-OutOfMemory : goal.returns-in-OutOfMemory
returns-in-OutOfMemory g c =
    let t = g.B.BlockStore.states c.args.blocks.now in
    let all : g.B.BlockStore.tells → SequenceClauses c.args.profile t c.args.last OutOfMemory = λ told.
    sequence_stopped c.args.profile t c.args.last c.in_ok-extents.field-0 OutOfMemory c.requires.from (c.in_ok-extents.ensures.value told) (c.in_ok-extents.ensures.memory told)
    (subst (λ s. GoesOn s (λ e s. ⊥) OutOfMemory) (sym c.in-OutOfMemory.is) refl) in
    record {
      value = λ told. (all told).value;
      rising = λ told. (all told).rising;
      no_anchor = λ told. (all told).no_anchor;
      extents = λ told. (all told).extents;
      fails = tt;
    }
