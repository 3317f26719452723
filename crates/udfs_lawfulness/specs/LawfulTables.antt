-- How the standard describes a descriptor: by a table, of which each row gives the byte position (BP) of a field and how many bytes it
-- has. Nothing is decoded here: a field is a part of the bytes, and a number is what its bytes add up to.
--     Row                      a row of a table
--     IsField bytes row field  the bytes of a row
--     IsNumber field n         the number in a field, the lowest byte first (ECMA-167 1/7.1)
--     Holds bytes row n        the field of a row holds a number
--     FollowOn start rows end  the rows of a table leave out no byte, and none is in two of them
--     HasBits low count n bits   these are `count` bits of a number, from bit `low` on
use Rattle.std.specs.Prelude.{◌≡◌, ℕ, ◌+◌, ◌*◌, ◌^◌, ◌<◌, List, [], ◌∷◌, ◌++◌, length}

-- a row of a table: the field's byte position, and how many bytes it has
pub record Row : Type 0 where
  pub position : ℕ
  pub count : ℕ

-- the row of a field at this byte position, of this many bytes
abbrev pub row : ℕ → ℕ → Row
row position count = record { position = position; count = count }

-- the bytes of a row: as many as it says, after as many as its position says
pub record IsField (bytes : List ℕ) (r : Row) (field : List ℕ) : Type 0 where
  pub front : List ℕ
  pub rest : List ℕ
  pub whole : bytes ≡ front ++ (field ++ rest)
  pub before : length front ≡ r.position
  pub size : length field ≡ r.count

-- the number in these bytes, the lowest byte first (ECMA-167 1/7.1)
abbrev pub IsNumber : List ℕ → ℕ → Type 0
IsNumber [] n = n ≡ 0
IsNumber (b ∷ bs) n = (high : ℕ) × IsNumber bs high × (n ≡ b + 256 * high)

-- the field of a row holds this number
abbrev pub Holds : List ℕ → Row → ℕ → Type 0
Holds bytes r n = (field : List ℕ) × IsField bytes r field × IsNumber field n

-- each row begins where the one before it ends, from `start` to `end`
abbrev pub FollowOn : ℕ → List Row → ℕ → Type 0
FollowOn start [] end = start ≡ end
FollowOn start (r ∷ rs) end = (r.position ≡ start) × FollowOn (start + r.count) rs end

-- bits `low` to `low + count - 1` of a number are the number `bits`
pub record HasBits (low count n bits : ℕ) : Type 0 where
  pub above : ℕ
  pub below : ℕ
  pub is : n ≡ (above * 2 ^ count + bits) * 2 ^ low + below
  pub few : bits < 2 ^ count
  pub rest : below < 2 ^ low
