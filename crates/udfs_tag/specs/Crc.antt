-- The CRC of descriptors (ECMA-167 3/7.2.6): the remainder of the covered bits, the most significant first and
-- followed by 16 zero bits, in division by x^16 + x^12 + x^5 + 1 over the field of two elements.
--     IsRemainder p r     p is a multiple of the generator plus r, and the degree of r is below 16
--     message bytes       the polynomial of the bytes' bits, followed by 16 zero bits
--     crc_of bytes        the remainder of the message, by long division
--
-- A number represents a polynomial: its bit i is the coefficient of x^i. A sum is `bit_xor`, and a
-- product with x^k is `* 2 ^ k`. A quotient is the list of its coefficients, that of x^0 first.
use Rattle.std.specs.Prelude.{◌≡◌, ℕ, zero, suc, ◌+◌, ◌*◌, ◌^◌, ◌<◌, Bool, List, [], ◌∷◌, ◌++◌, length, replicate, fold, bit_xor, if◌then◌else◌}
use Rattle.std.specs.Int.{bit_at}
use Rattle.std.specs.List.{flat_map}

-- x^16 + x^12 + x^5 + 1
abbrev pub generator : ℕ
generator = 2 ^ 16 + 2 ^ 12 + 2 ^ 5 + 1

-- the product of g with the polynomial that has these coefficients, that of x^0 first
abbrev pub times : List Bool → ℕ → ℕ
times [] g = 0
times (c ∷ cs) g = bit_xor (if c then g else 0) (times cs g * 2)

-- r is the remainder of p in division by the generator: p is a multiple of it plus r, and r has 16 coefficients
pub record IsRemainder (p r : ℕ) : Type 0 where
  pub quotient : List Bool
  pub smaller : r < 2 ^ 16
  pub whole : p ≡ bit_xor (times quotient generator) r

-- the bits of a byte, the most significant first
abbrev pub byte_bits : ℕ → List ℕ
byte_bits b =
    bit_at b 7 ∷ bit_at b 6 ∷ bit_at b 5 ∷ bit_at b 4 ∷ bit_at b 3 ∷ bit_at b 2 ∷ bit_at b 1 ∷ bit_at b 0 ∷ []

-- the polynomial with these coefficients, the highest first
unfoldable pub polynomial : List ℕ → ℕ
polynomial cs = fold (λ a c. a * 2 + c) 0 cs

-- the bits of the bytes, most significant first and followed by 16 zero bits
abbrev pub message : List ℕ → ℕ
message bytes = polynomial (flat_map byte_bits bytes ++ replicate 16 0)

-- long division: takes the multiples of the generator out of a polynomial of degree below 16 + k,
-- from the highest power down
unfoldable pub reduced : ℕ → ℕ → ℕ
reduced zero p = p
reduced (suc k) p = reduced k (bit_xor p (bit_at p (16 + k) * (generator * 2 ^ k)))

-- the CRC: the remainder of the message
unfoldable pub crc_of : List ℕ → ℕ
crc_of bytes = reduced (8 * length bytes) (message bytes)
