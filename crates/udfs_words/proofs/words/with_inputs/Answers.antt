use Rattle.udfs_words.proofs.words.with_inputs.Goals as goal

pub returns : goal.returns
returns c = λ app is.
    let h1 = c.add_arg-command.ensures _ _ is c.verbose.ensures in
    let h2 = c.add_arg-command-2.ensures _ _ h1 c.quiet.ensures in
    let h3 = c.add_arg-command-3.ensures _ _ h2 c.pair_inputs.ensures in
    c.add_arg.ensures _ _ h3 c.inputs.ensures
