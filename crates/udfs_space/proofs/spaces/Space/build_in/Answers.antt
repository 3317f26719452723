use Rattle.std.proofs.Common.{refl, sym, subst, All}
use Rattle.udfs_volume.specs.declared.seen.Seen.TheVariants.{Got, Holes, Fault}
use Rattle.udfs_volume.specs.Laws.{IsBoundedPartition}
use Rattle.udfs_volume.specs.LayoutParts.{partition_now, parts_now}
use Rattle.udfs_space.proofs.Building.{all_bounded, space_by}
use Rattle.udfs_space.proofs.Telling.{SpaceClauses, space_clauses}
use Rattle.udfs_space.proofs.spaces.Space.build_in.Goals as goal

pub spans-requires-clause-bounded : goal.spans-requires-clause-bounded
spans-requires-clause-bounded g c = subst (All (λ p. IsBoundedPartition c.args.parts.now.last (partition_now p))) (sym c.deref.ensures.value)
    (all_bounded (IsBoundedPartition c.args.parts.now.last) partition_now c.args.parts.now.partitions.items c.requires.bounded.of_each)

pub returns-in-Ok-Got : goal.returns-in-Ok-Got
returns-in-Ok-Got g c =
    let t = g.B.BlockStore.states c.args.blocks.now in
    let l = parts_now c.args.parts.now in
    let all : g.B.BlockStore.tells → SpaceClauses t l (Got (record { spans = c.in-Ok-Got.spans.items; profile = c.args.parts.now.profile })) = λ told. space_clauses t l (Got (record { spans = c.in-Ok-Got.spans.items; profile = c.args.parts.now.profile })) c.requires.bounded
    (space_by t l partition_now c.deref.result.now c.args.parts.now.partitions.items _ c.deref.ensures.value refl
    (rw c.in-Ok-Got.field-0-is at (c.in-Ok-Got.ensures.value told))) in
    record {
      value = λ told. (all told).value;
      lawful = λ told. (all told).lawful;
      rising = λ told. (all told).rising;
      within = λ told. (all told).within;
      fails = tt;
    }

pub returns-in-Ok-Holes : goal.returns-in-Ok-Holes
returns-in-Ok-Holes g c =
    let t = g.B.BlockStore.states c.args.blocks.now in
    let l = parts_now c.args.parts.now in
    let all : g.B.BlockStore.tells → SpaceClauses t l (Holes c.in-Ok-Holes.listed) = λ told. space_clauses t l (Holes c.in-Ok-Holes.listed) c.requires.bounded
    (space_by t l partition_now c.deref.result.now c.args.parts.now.partitions.items _ c.deref.ensures.value refl
    (rw c.in-Ok-Holes.field-0-is at (c.in-Ok-Holes.ensures.value told))) in
    record {
      value = λ told. (all told).value;
      lawful = λ told. (all told).lawful;
      rising = λ told. (all told).rising;
      within = λ told. (all told).within;
      fails = tt;
    }

pub returns-in-Ok-Fault : goal.returns-in-Ok-Fault
returns-in-Ok-Fault g c =
    let t = g.B.BlockStore.states c.args.blocks.now in
    let l = parts_now c.args.parts.now in
    let all : g.B.BlockStore.tells → SpaceClauses t l (Fault c.in-Ok-Fault.fault) = λ told. space_clauses t l (Fault c.in-Ok-Fault.fault) c.requires.bounded
    (space_by t l partition_now c.deref.result.now c.args.parts.now.partitions.items _ c.deref.ensures.value refl
    (rw c.in-Ok-Fault.field-0-is at (c.in-Ok-Fault.ensures.value told))) in
    record {
      value = λ told. (all told).value;
      lawful = λ told. (all told).lawful;
      rising = λ told. (all told).rising;
      within = λ told. (all told).within;
      fails = tt;
    }
