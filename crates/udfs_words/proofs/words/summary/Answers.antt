use Rattle.udfs_words.proofs.words.summary.Goals as goal

pub returns : goal.returns
returns c =
    let h1 = c.with_end-command.ensures _ c.bare-command.ensures in
    let h2 = c.add_arg-command.ensures _ _ h1 c.profile.ensures in
    let h3 = c.add_arg-command-2.ensures _ _ h2 c.flag.ensures in
    let h4 = c.add_arg-command-3.ensures _ _ h3 c.joining.ensures in
    c.with_inputs.ensures _ h4
