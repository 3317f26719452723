use Rattle.std.proofs.Common.{ap, map, refl}
use Rattle.udfs_volume.specs.Answers.{found}
use Rattle.udfs_lost.specs.PlacedVolumes.{placed_now}
use Rattle.udfs_salvage.specs.Listings.{full_in}
use Rattle.udfs_extraction.specs.LostPlaces.{stand_in}
use Rattle.udfs_extraction.specs.LostTrees.{nodes_report}
use Rattle.udfs_extraction.proofs.lost_places.as_opened.Goals as goal

pub returns : goal.returns
returns g c =
    let volume = found (stand_in (placed_now c.args.placed)) in
    let M = g.B.BlockStore.states c.args.blocks.now in
    record { of = (ap (λ nodes. nodes_report M volume (map (full_in M volume) nodes)) c.new.ensures.items, refl) }
