use Rattle.udfs_words.proofs.words.forget.Goals as goal

pub returns : goal.returns
returns c =
    let h1 = c.add_arg-command.ensures _ _ c.bare-command.ensures c.in_ok-out.ensures in
    let h2 = c.add_arg-command-2.ensures _ _ h1 c.flag.ensures in
    let h3 = c.add_arg-command-3.ensures _ _ h2 c.blocks-2.ensures in
    let h4 = c.add_arg-command-4.ensures _ _ h3 c.force.ensures in
    c.with_inputs.ensures _ h4
