use Rattle.std.proofs.Common.{◌≡◌, subst}
use Rattle.udfs_lattice.proofs.StoreResults.{if_ok}
use Rattle.udfs_volume.specs.Answers.{faulty}
use Rattle.udfs_volume.specs.Laws.{IsBounded}
use Rattle.udfs_volume.specs.Layout.{main_layout_by}
use Rattle.udfs_volume.specs.LayoutParts.{parts_now}
use Rattle.udfs_volume.specs.Seen.{IfGot, Sees}
use Rattle.udfs_volume.specs.declared.seen.Seen.TheVariants.{Got, Holes, OutOfMemory}
use Rattle.udfs_volume.proofs.Told.{LayoutClauses, layout_or, layout_seen}
use Rattle.udfs_volume.proofs.layouts.layout_in.Goals as goal

pub returns-in-Got : goal.returns-in-Got
returns-in-Got g c =
    let all : g.B.BlockStore.tells → LayoutClauses c.args.profile (g.B.BlockStore.states c.args.blocks.now) c.args.last (Got c.in-Got.parts) = λ told.
    let was = c.in_ok-parts.ensures in
    layout_seen c.args.profile (g.B.BlockStore.states c.args.blocks.now) c.args.last c.in_ok-parts.field-0 (Got c.in-Got.parts) c.requires.from c.in-Got.is tt (was.value told) (was.no_anchor told) (was.extents told) in
    record {
      value = λ told. (all told).value;
      lawful = λ told. (all told).lawful;
      bounded = subst (λ s. IfGot s (λ parts. IsBounded c.args.last (parts_now parts))) c.in-Got.is c.in_ok-parts.ensures.bounded;
      rising = λ told. (all told).rising;
      no_anchor = λ told. (all told).no_anchor;
      extents = λ told. (all told).extents;
      fails = tt;
    }

pub returns-in-Holes : goal.returns-in-Holes
returns-in-Holes g c =
    let all : g.B.BlockStore.tells → LayoutClauses c.args.profile (g.B.BlockStore.states c.args.blocks.now) c.args.last (Holes c.in-Holes.holes) = λ told.
    let was = c.in_ok-parts.ensures in
    layout_seen c.args.profile (g.B.BlockStore.states c.args.blocks.now) c.args.last c.in_ok-parts.field-0 (Holes c.in-Holes.holes) c.requires.from c.in-Holes.is tt (was.value told) (was.no_anchor told) (was.extents told) in
    record {
      value = λ told. (all told).value;
      lawful = λ told. (all told).lawful;
      bounded = tt;
      rising = λ told. (all told).rising;
      no_anchor = λ told. (all told).no_anchor;
      extents = λ told. (all told).extents;
      fails = tt;
    }

pub returns-in-Fault : goal.returns-in-Fault
returns-in-Fault g c =
    let t = g.B.BlockStore.states c.args.blocks.now in
    let is : g.B.BlockStore.tells → main_layout_by c.args.profile t c.args.last ≡ faulty c.in-Fault.fault = λ told.
    subst (λ s. Sees parts_now s (main_layout_by c.args.profile t c.args.last)) c.in-Fault.is (c.in_ok-parts.ensures.value told) in
    let all = layout_or g.B.BlockStore.tells c.args.profile t c.args.last c.in-Fault.fault c.or_reserve.result c.requires.from is c.or_reserve.ensures.value c.or_reserve.ensures.early in
    record {
      value = if_ok c.or_reserve.result _ _ (λ seen clauses told. (clauses told).value) all;
      lawful = if_ok c.or_reserve.result _ _ (λ seen clauses told. (clauses told).lawful) all;
      bounded = c.or_reserve.ensures.bounded;
      rising = if_ok c.or_reserve.result _ _ (λ seen clauses told. (clauses told).rising) all;
      no_anchor = if_ok c.or_reserve.result _ _ (λ seen clauses told. (clauses told).no_anchor) all;
      extents = if_ok c.or_reserve.result _ _ (λ seen clauses told. (clauses told).extents) all;
      fails = c.or_reserve.ensures.fails;
    }

pub returns-in-OutOfMemory : goal.returns-in-OutOfMemory
returns-in-OutOfMemory g c =
    let all : g.B.BlockStore.tells → LayoutClauses c.args.profile (g.B.BlockStore.states c.args.blocks.now) c.args.last (OutOfMemory) = λ told.
    let was = c.in_ok-parts.ensures in
    layout_seen c.args.profile (g.B.BlockStore.states c.args.blocks.now) c.args.last c.in_ok-parts.field-0 (OutOfMemory) c.requires.from c.in-OutOfMemory.is tt (was.value told) (was.no_anchor told) (was.extents told) in
    record {
      value = λ told. (all told).value;
      lawful = λ told. (all told).lawful;
      bounded = tt;
      rising = λ told. (all told).rising;
      no_anchor = λ told. (all told).no_anchor;
      extents = λ told. (all told).extents;
      fails = tt;
    }
