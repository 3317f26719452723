use Rattle.udfs_words.proofs.words.with_end.Goals as goal

pub returns : goal.returns
returns c = λ app is.
    let h1 = c.add_arg-command.ensures _ _ is c.last.ensures in
    let h2 = c.add_arg-command-2.ensures _ _ h1 c.disc_size.ensures in
    c.add_arg.ensures _ _ h2 c.size_map.ensures
