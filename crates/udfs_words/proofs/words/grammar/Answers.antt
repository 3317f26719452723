use Rattle.std.proofs.Common.{refl}
use Rattle.udfs_words.proofs.words.grammar.Goals as goal

pub returns : goal.returns
returns c =
    let h1 = c.add_command-whole.ensures _ _ c.first_commands.ensures c.forget.ensures refl in
    let h2 = c.add_command-whole-2.ensures _ _ h1 c.list.ensures refl in
    let h3 = c.add_command-whole-3.ensures _ _ h2 c.summary.ensures refl in
    let h4 = c.add_command-whole-4.ensures _ _ h3 c.image.ensures refl in
    c.add_command.ensures _ _ h4 c.page.ensures refl
