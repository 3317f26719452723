-- The fields of a file: a number and its four bytes, and the magic.
use Rattle.std.proofs.Common.{◌≡◌, ◌≢◌, ℕ, ◌^◌, ◌<◌, Bool, true, false, not, eqb, List, ◌++◌, length, get_or, refl, ◌∙◌, arith}
use Rattle.std.specs.Int.{w32, from_le_bytes}
use Rattle.std.proofs.lemmas.Nat.{le_bytes_4}
use Rattle.std.proofs.lemmas.Bool.{false≢true}
use Rattle.std.proofs.lemmas.Bool.Decides.{Decides-eqb}
use Rattle.std.proofs.lemmas.Slice.Eq.{slice_eq-Decides}
use Rattle.std.specs.Cmp.Lexicographic.{pointwise}
use Rattle.byteorder.specs.Endian.{little_number}
use Rattle.byteorder.specs.Numbers.{little_number-reads_back}
use Rattle.udfs_reading.specs.Format.{number, value_of}

pub length-number : (n : ℕ) → length (number n) ≡ 4
unfolding number
length-number n = refl

-- a number is read back, whatever follows it
pub value_of-number : (n : ℕ) (rest : List ℕ) → n < 2 ^ 32 → value_of (number n ++ rest) ≡ n
unfolding number value_of
value_of-number n rest h = little_number-reads_back 4 n rest h

-- four bytes are those of their number
pub number-value : (bytes : List ℕ) (n : ℕ) → length bytes ≡ 4 → ((i : ℕ) → get_or bytes i 0 < 256) → n ≡ little_number 4 bytes → number n ≡ bytes
unfolding number
number-value bytes n len fits e =
    let same : little_number 4 bytes ≡ from_le_bytes w32 bytes = omega arith in
    le_bytes_4 bytes n len fits (e ∙ same)

-- what the code's test says of the magic
not_true : (b : Bool) → false ≡ not b → true ≡ b
not_true true e = refl
not_true false e = absurd cc

not_false : (b : Bool) → true ≡ not b → false ≡ b
not_false true e = absurd cc
not_false false e = refl

pub same_bytes : (xs ys : List ℕ) → false ≡ not (pointwise eqb xs ys) → xs ≡ ys
same_bytes xs ys e = (slice_eq-Decides Decides-eqb xs ys true (not_true _ e)).0 refl

pub other_bytes : (xs ys : List ℕ) → true ≡ not (pointwise eqb xs ys) → xs ≢ ys
other_bytes xs ys e same = false≢true ((not_false _ e) ∙ (slice_eq-Decides Decides-eqb xs ys _ refl).1 same)
