use Rattle.std.proofs.Common.{◌∙◌, sym, refl}
use Rattle.udfs_volume.specs.LayoutParts.{partition_now, parts_now}
use Rattle.udfs_lawfulness.specs.declared.answers.Reason.TheVariants.{Anchors}
use Rattle.udfs_lawfulness.proofs.Contradicted.{contradicted}
use Rattle.udfs_lawfulness.proofs.Judged.{end_inside}
use Rattle.udfs_lawfulness.proofs.Steps.{all_fit, found_no_fault, holes_no_fault}
use Rattle.udfs_lawfulness.proofs.structures.structures_by.Goals as goal

pub returns-in-Some-clause-judged : goal.returns-in-Some-clause-judged
returns-in-Some-clause-judged g c told = contradicted c.args.profile (g.B.BlockStore.states c.args.blocks.now) c.args.last (Anchors c.in-Some.one c.in-Some.other) (sym (c.in_ok-apart.ensures.value told) ∙ c.in-Some.is)

pub with_parts-requires-clause-inside : goal.with_parts-requires-clause-inside
with_parts-requires-clause-inside g c told = let M = g.B.BlockStore.states c.args.blocks.now in
    end_inside c.args.profile M c.args.last c.requires.to (found_no_fault c.args.profile M c.args.last (parts_now c.in-Got.parts) (rw c.in-Got.is at (c.in_ok-seen.ensures.value told)))

pub with_parts-requires-clause-fit : goal.with_parts-requires-clause-fit
with_parts-requires-clause-fit g c = all_fit c.args.last (parts_now c.in-Got.parts) partition_now c.in-Got.parts.partitions.items refl c.requires.to (rw c.in-Got.is at c.in_ok-seen.ensures.bounded)

pub without_parts-requires-clause-inside : goal.without_parts-requires-clause-inside
without_parts-requires-clause-inside g c told = let M = g.B.BlockStore.states c.args.blocks.now in
    end_inside c.args.profile M c.args.last c.requires.to (holes_no_fault c.args.profile M c.args.last c.in-Holes.field-0.items (rw c.in-Holes.is at (c.in_ok-seen.ensures.value told)))
