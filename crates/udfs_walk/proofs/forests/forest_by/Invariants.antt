use Rattle.udfs_walk.proofs.forests.forest_by.Given as goal

abbrev pub ghosts-begun_forest : goal.ghosts-begun_forest
ghosts-begun_forest g a = record { name = a.blank.name; parts = a.blank.parts }
