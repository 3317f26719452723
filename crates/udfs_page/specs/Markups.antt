-- The page's own text, and figures in it.
--     markup words      text of the page's own, unchanged
--     figure n          a number in decimal digits
--     shown_name text   a name or a path, by itself
use Rattle.std.specs.Prelude.{ℕ, List, ◌++◌, codes, decimal}
use Rattle.udfs_page.specs.Escapes.{html_text}

-- what the page itself says; what a disc says goes through `html_text`
unfoldable pub markup : List ℕ → List ℕ
markup words = words

-- a number in decimal digits
unfoldable pub figure : ℕ → List ℕ
figure n = decimal n

-- a name from the disc, or a path, isolated by `<bdi>`: its direction does not affect the text around it
abbrev pub shown_name : List ℕ → List ℕ
shown_name text = markup (codes "<bdi>") ++ html_text text ++ markup (codes "</bdi>")
