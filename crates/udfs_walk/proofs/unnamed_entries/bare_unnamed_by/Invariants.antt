use Rattle.udfs_walk.proofs.unnamed_entries.bare_unnamed_by.Given as goal

abbrev pub ghosts-begun_unnamed : goal.ghosts-begun_unnamed
ghosts-begun_unnamed g a = record { name = a.blank.name; parts = a.blank.parts }
