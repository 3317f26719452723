-- A lawful volume has lawful structures.
use Rattle.udfs_salvage.proofs.Opens.{FoundBy, found_by}
use Rattle.udfs_lattice.specs.Volumes.{complete}
use Rattle.udfs_lawfulness.specs.Lawful.{LawfulHasStructures, NoLawfulAgrees}

pub lawful_has_structures : LawfulHasStructures
lawful_has_structures P V N lawful =
    let of = lawful.is_volume in
    let by : FoundBy P (complete V N) N of.found_is = found_by P (complete V N) N of.found_is of.finds in
    record { layout_is = of.found_is.layout; finds = by.layout_is; layout = of.layout; sparing = of.sparing }

pub no_lawful_agrees : NoLawfulAgrees
no_lawful_agrees P T N none V lawful = none V lawful.is_volume.volume_is (lawful_has_structures P V N lawful)
