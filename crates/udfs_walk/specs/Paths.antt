-- Paths as code keeps them: the names that lead to a directory, which all paths in it share, and a name in it.
--     shared names      the names
--     own name          the name in the directory, if there is one
use Rattle.std.specs.Prelude.{List, [], ◌∷◌, map, Option, Some, None}
use Rattle.std.specs.Rc.{rc_value}
use Rattle.std.specs.declared.rc.Rc.{Rc}

module _ {X Z : Type 0} where
  -- the names of the directory, without the counted references in which they are kept
  abbrev pub shared : List (Rc X Z) → List X
  shared names = map rc_value names

  -- a list of the last name alone; the empty list if there is no name
  abbrev pub own : Option (Rc X Z) → List X
  own None = []
  own (Some name) = rc_value name ∷ []
