-- A folder's path, as it is looked up.
--     trimmed path      it has no `/` at its end
--     bare path         the same, but of a path that has nothing else
use Rattle.std.specs.Prelude.{◌==◌, ℕ, List, [], ◌∷◌, if◌then◌else◌}

-- a byte and what was left of those behind it; a `/` (47) stays only before something
abbrev pub before : ℕ → List ℕ → List ℕ
before c [] = if c == 47 then [] else c ∷ []
before c (d ∷ path) = c ∷ d ∷ path

-- a path without any `/` at its end
abbrev pub trimmed : List ℕ → List ℕ
trimmed [] = []
trimmed (c ∷ path) = before c (trimmed path)

-- the path where nothing was left of it
abbrev pub or_whole : List ℕ → List ℕ → List ℕ
or_whole path [] = path
or_whole path (c ∷ rest) = c ∷ rest

-- a path without any `/` at its end, but that of the root
abbrev pub bare : List ℕ → List ℕ
bare path = or_whole path (trimmed path)
