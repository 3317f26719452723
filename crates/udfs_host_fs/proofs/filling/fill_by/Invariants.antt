use Rattle.udfs_host_fs.proofs.filling.fill_by.Given as goal

abbrev pub ghosts-do_at : goal.ghosts-do_at
ghosts-do_at g a = record { number = g.H.Handle.number a.handle }
