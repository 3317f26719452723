-- How far into a list the first steps of a pattern reach. Only private contracts cite these.
--     starts n            before any step: no thing is passed, of n
--     next_row step row xs   after one more step
--     some_fits           what is left behind some place that is reached is what further steps stand for
use Rattle.std.specs.Prelude.{ℕ, suc, zero, ◌&&◌, ◌||◌, Bool, false, List, [], ◌∷◌, map}
use Rattle.udfs_words.specs.Globs.{Any, One, Step, fits}

-- this many places that are not reached
abbrev pub unreached : ℕ → List Bool
unreached zero = []
unreached (suc n) = false ∷ unreached n

-- both are so, place by place
abbrev pub both : List Bool → List Bool → List Bool
both [] hits = []
both (r ∷ row) [] = []
both (r ∷ row) (h ∷ hits) = (r && h) ∷ both row hits

-- reached before some place, or at it
abbrev pub spread_from : Bool → List Bool → List Bool
spread_from b [] = []
spread_from b (r ∷ row) = (b || r) ∷ spread_from (b || r) row

-- the places that one more step reaches
abbrev pub next_row : {A : Type 0} → Step A → List Bool → List A → List Bool
next_row Any row xs = spread_from false row
next_row (One takes) row xs = false ∷ both row (map takes xs)

-- what is behind a place that is reached fits the steps
abbrev pub some_fits : {A : Type 0} → List Bool → List (Step A) → List A → Bool
some_fits [] steps xs = false
some_fits (r ∷ row) steps [] = r && fits steps []
some_fits (r ∷ row) steps (x ∷ xs) = (r && fits steps (x ∷ xs)) || some_fits row steps xs

-- the last place is reached, or, where there is none, it is so before
abbrev pub last_from : Bool → List Bool → Bool
last_from b [] = b
last_from b (r ∷ row) = last_from r row
