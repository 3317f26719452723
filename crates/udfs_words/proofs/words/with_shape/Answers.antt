use Rattle.udfs_words.proofs.words.with_shape.Goals as goal

pub returns : goal.returns
returns c = λ app is.
    let h1 = c.add_arg-command.ensures _ _ is c.flag.ensures in
    let h2 = c.add_arg-command-2.ensures _ _ h1 c.null.ensures in
    let h3 = c.add_arg-command-3.ensures _ _ h2 c.flag-2.ensures in
    let h4 = c.add_arg-command-4.ensures _ _ h3 c.flag-3.ensures in
    c.add_arg.ensures _ _ h4 c.flag-4.ensures
