use Rattle.std.proofs.Common.{refl}
use Rattle.udfs_words.proofs.words.first_commands.Goals as goal

pub returns : goal.returns
returns c =
    let h1 = c.add_command-whole.ensures _ _ c.program.ensures c.merge.ensures refl in
    let h2 = c.add_command-whole-2.ensures _ _ h1 c.report.ensures refl in
    let h3 = c.add_command-whole-3.ensures _ _ h2 c.reread.ensures refl in
    c.add_command.ensures _ _ h3 c.extract.ensures refl
