-- What an index took of the inputs that it looks into.
use Rattle.std.specs.Prelude.{◌≡◌, ℕ, ◌-◌, ◌+◌, ◌/◌, ◌%◌, ◌^◌, ◌<◌, List, length, take, map, Option, None, Some, get_or}
use Rattle.std.specs.Borrow.{Bor}
use Rattle.udfs_lattice.specs.Tables.{Table}
use Rattle.udfs_index.specs.declared.packet.Packet.{Packet}
use Rattle.udfs_index.specs.Slots.{slot_at}
use Rattle.udfs_index.specs.Places.{behind, from_place, bytes_at, IsInside, Says}

-- what each input holds, where that is known
abbrev pub contents_of : {S : Type 0} → (S → Option (List ℕ)) → List (Bor S) → List (Option (List ℕ))
contents_of content inputs = map (λ i. content i.now) inputs

-- the input that is taken, which is the last one, from where it was begun
abbrev pub input_by : List (Option (List ℕ)) → Option ℕ → Option (List ℕ)
input_by contents None = None
input_by contents (Some base) = behind base (get_or contents (length contents - 1) None)

-- each place is in an input, and where the bytes of all inputs are known, these make the table
pub record Took (contents : List (Option (List ℕ))) (packets : List Packet) (t : Table) : Type 0 where
  pub inside : (n : ℕ) → IsInside (length contents) (slot_at packets n)
  pub says : Says contents packets t

-- the place of what comes after the first `at` bytes of the input that is taken, counted from where it was begun
pub record IsPlaceOf (inputs : ℕ) (begun : Option ℕ) (at place : ℕ) : Type 0 where
  pub base : ℕ
  pub from : begun ≡ Some base
  pub some : 0 < inputs
  pub input : place / 2 ^ 44 ≡ inputs - 1
  pub offset : place % 2 ^ 44 ≡ base + at

-- where the bytes of all inputs are known, these are there, from the place on
abbrev pub IsFrontAt : List (Option (List ℕ)) → ℕ → List ℕ → Type 0
IsFrontAt contents place front = (wholes : List (List ℕ)) → contents ≡ map Some wholes → front ≡ take (length front) (from_place wholes place)

-- where the bytes of all inputs are known, these are at the place
abbrev pub IsAtPlace : List (Option (List ℕ)) → ℕ → List ℕ → Type 0
IsAtPlace contents place there = (wholes : List (List ℕ)) → contents ≡ map Some wholes → bytes_at wholes place ≡ there
