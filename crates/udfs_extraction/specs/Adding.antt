-- What was added to a list.
--     Adds P old new     all that is in the list now was there, or this holds of it
use Rattle.std.specs.Prelude.{◌⊎◌, List, Contains}

-- from an old list to a new one: each element of the new one was in the old one, or this holds of it
abbrev pub Adds : {A : Type 0} → (A → Type 0) → List A → List A → Type 0
Adds {A} P old new = (x : A) → Contains new x → Contains old x ⊎ P x
