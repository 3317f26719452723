use Rattle.std.proofs.Common.{◌≡◌, ◌++◌}
use Rattle.std.specs.String.{string_bytes}
use Rattle.std.specs.Str.{IsUtf8}
use Rattle.std.specs.Str.Iter.{chars_rest}
use Rattle.udfs_page.specs.Escapes.{html_lines}
use Rattle.udfs_page.proofs.escapes.push_lines.Given as goal

-- the HTML so far and that of the rest are that of the whole text
abbrev pub invariant-loop-character : goal.invariant-loop-character
invariant-loop-character l = record {
  all : string_bytes l.text ++ html_lines (chars_rest l.character-iterator) ≡ string_bytes l.fn.text ++ html_lines l.shown;
  rest : IsUtf8 (chars_rest l.character-iterator);
}
