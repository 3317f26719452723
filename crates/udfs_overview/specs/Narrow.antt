-- Paths on a line of a terminal: a long one is cut in the middle.
--     narrow wide text     the text, or its beginning and its end, in so many columns
use Rattle.std.specs.Prelude.{ℕ, ◌+◌, ◌*◌, ◌-◌, nat_le, nat_lt, List, [], ◌∷◌, ◌++◌, chars, codes, sum_by, if◌then◌else◌}
use Rattle.std.specs.Str.{encode_utf8_all}

-- how many columns a character may take: two, where it is not of ASCII
abbrev pub cost : ℕ → ℕ
cost c = if nat_lt c 128 then 1 else 2

-- how many columns these may take
abbrev pub cost_of : List ℕ → ℕ
cost_of cs = sum_by cost cs

-- those at the beginning that take no more than this many
unfoldable pub front_in : ℕ → List ℕ → List ℕ
front_in n [] = []
front_in n (c ∷ cs) = if nat_le (cost c) n then c ∷ front_in (n - cost c) cs else []

-- those at the end that do
unfoldable pub back_in : ℕ → List ℕ → List ℕ
back_in n [] = []
back_in n (c ∷ cs) = if nat_le (cost_of (c ∷ cs)) n then c ∷ cs else back_in n cs

-- the beginning and the end, with dots between them
unfoldable pub cut : ℕ → List ℕ → List ℕ
cut half cs = encode_utf8_all (front_in half cs) ++ codes "..." ++ encode_utf8_all (back_in half cs)

-- a text that takes no more than twice this many columns and three, or is cut to them
unfoldable pub narrow : ℕ → List ℕ → List ℕ
narrow half text = if nat_le (cost_of (chars text)) (2 * half + 3) then text else cut half (chars text)
