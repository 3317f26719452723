use Rattle.udfs_words.proofs.words.list.Goals as goal

pub returns : goal.returns
returns c =
    let h1 = c.with_end-command.ensures _ c.bare-command.ensures in
    let h2 = c.add_arg-command.ensures _ _ h1 c.profile.ensures in
    let h3 = c.with_shape-command.ensures _ h2 in
    let h4 = c.add_arg-command-2.ensures _ _ h3 c.flag.ensures in
    let h5 = c.add_arg-command-3.ensures _ _ h4 c.flag-2.ensures in
    let h6 = c.add_arg-command-4.ensures _ _ h5 c.joining.ensures in
    c.with_inputs.ensures _ h6
