use Rattle.std.proofs.Common.{subst, ap}
use Rattle.udfs_volume.specs.LayoutParts.{partition_now}
use Rattle.udfs_volume.specs.Laws.{IsBoundedMap}
use Rattle.udfs_volume.specs.Parts.{map_now}
use Rattle.udfs_space.specs.Sparing.{counted}
use Rattle.udfs_space.proofs.Counted.{map_type1}
use Rattle.udfs_space.proofs.Tables.{fit_all, span-type1}
use Rattle.udfs_space.proofs.spans.Span.build.Goals as goal

pub spared_by_counted-requires-clause-fit : goal.spared_by_counted-requires-clause-fit
spared_by_counted-requires-clause-fit g c = fit_all c.args.last c.in-Sparable.map.packet c.in-Sparable.map.size c.in-Sparable.map.tables.items c.requires.last
    (subst (λ k. IsBoundedMap c.args.last (map_now k)) c.in-Sparable.is c.requires.bounded.bounded_map)

pub returns-in-Type1-clause-value : goal.returns-in-Type1-clause-value
returns-in-Type1-clause-value g c told = let t = g.B.BlockStore.states c.args.blocks.now in
    span-type1 t c.args.last (counted c.args.profile t (partition_now c.args.partition.now)) c.new.result.items (map_type1 c.args.profile t (map_now c.args.partition.now.kind) (ap map_now c.in-Type1.is)) c.new.ensures.items
