use Rattle.std.proofs.Common.{◌++◌}
use Rattle.std.specs.String.{string_bytes}
use Rattle.std.specs.Str.Iter.{chars_rest}
use Rattle.std.proofs.lemmas.Str.{IsUtf8-past_char}
use Rattle.udfs_page.specs.Escapes.{html_text}
use Rattle.udfs_page.proofs.Html.{html_appended, html_ended}
use Rattle.udfs_page.proofs.escapes.push_html.Goals as goal

pub loop-character-preserved : goal.loop-character-preserved
loop-character-preserved c =
    let bs = chars_rest c.loop-character.character-iterator in
    let rest = chars_rest c.next.new.self in
    let whole = string_bytes c.args.text.now ++ html_text c.args.shown.now in
    record {
      all = html_appended whole (string_bytes c.loop-character.text) (string_bytes c.push_character.new.text) bs rest c.in-Some.character
          c.loop-character.invariant.rest c.in-Some.ensures.steps.0 c.in_ok-push_character.ensures c.loop-character.invariant.all;
      rest = IsUtf8-past_char bs rest c.in-Some.character c.loop-character.invariant.rest c.in-Some.ensures.steps.0;
    }

pub returns : goal.returns
returns c =
    html_ended (string_bytes c.args.text.now ++ html_text c.args.shown.now) (string_bytes c.loop-character.text) (chars_rest c.loop-character.character-iterator)
    c.in-None.ensures.steps.0.0 c.loop-character.invariant.all
