use Rattle.std.proofs.Common.{◌++◌}
use Rattle.std.specs.String.{string_bytes}
use Rattle.std.specs.Str.Iter.{chars_rest}
use Rattle.std.proofs.lemmas.Str.{IsUtf8-past_char}
use Rattle.udfs_page.specs.Escapes.{html_lines}
use Rattle.udfs_page.proofs.Lines.{lines_appended, lines_ended}
use Rattle.udfs_page.proofs.escapes.push_lines.Goals as goal

pub loop-character-preserved : goal.loop-character-preserved
loop-character-preserved c =
    let bs = chars_rest c.loop-character.character-iterator in
    let rest = chars_rest c.next.new.self in
    let whole = string_bytes c.args.text.now ++ html_lines c.args.shown.now in
    record {
      all = lines_appended whole (string_bytes c.loop-character.text) (string_bytes c.push_line_character.new.text) bs rest c.in-Some.character
          c.loop-character.invariant.rest c.in-Some.ensures.steps.0 c.in_ok-push_line_character.ensures c.loop-character.invariant.all;
      rest = IsUtf8-past_char bs rest c.in-Some.character c.loop-character.invariant.rest c.in-Some.ensures.steps.0;
    }

pub returns : goal.returns
returns c =
    lines_ended (string_bytes c.args.text.now ++ html_lines c.args.shown.now) (string_bytes c.loop-character.text) (chars_rest c.loop-character.character-iterator)
    c.in-None.ensures.steps.0.0 c.loop-character.invariant.all
