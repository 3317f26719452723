use Rattle.udfs_words.proofs.words.with_files.Goals as goal

pub returns : goal.returns
returns c = λ app is.
    let h1 = c.add_arg-command.ensures _ _ is c.folder.ensures in
    let h2 = c.add_arg-command-2.ensures _ _ h1 c.flag.ensures in
    let h3 = c.add_arg-command-3.ensures _ _ h2 c.only.ensures in
    c.add_arg.ensures _ _ h3 c.manifest.ensures
