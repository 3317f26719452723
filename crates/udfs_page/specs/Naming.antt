-- How a page is called, and where it is written.
--     CalledWords            its title, if one was given, and its path
--     called_now called      the same of the code
use Rattle.std.specs.Prelude.{ℕ, List, Option, option_map}
use Rattle.udfs_page.specs.declared.naming.Called.{Called}

-- its title, and its path
pub record CalledWords : Type 0 where
  pub title : Option (List ℕ)
  pub out : List ℕ

-- the same of the code
abbrev pub called_now : Called → CalledWords
called_now c = record { title = option_map (λ text. text.now) c.title; out = c.out.now }
