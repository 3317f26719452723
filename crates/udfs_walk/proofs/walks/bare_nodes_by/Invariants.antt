use Rattle.udfs_walk.proofs.walks.bare_nodes_by.Given as goal

abbrev pub ghosts-begun_nodes : goal.ghosts-begun_nodes
ghosts-begun_nodes g a = record { name = a.blank.name; parts = a.blank.parts }
