-- All bytes are a file or have a first fault. Here: a number's four bytes, and the header, which is the same in each format.
use Rattle.std.proofs.Common.{◌≡◌, ◌≢◌, ℕ, ◌+◌, ◌^◌, ◌<◌, ◌≤◌, List, ◌++◌, length, take, drop, get_or, refl, sym, ap, subst, ◌∙◌, append_assoc, arith, inr, ⊎_elim, get_or-take, get_or-drop, length-take-le, take-append-drop}
use Rattle.std.specs.Prelude.{◌⊎◌}
use Rattle.std.proofs.lemmas.Bool.{cases_lt}
use Rattle.std.proofs.lemmas.List.{get_or_past}
use Rattle.std.proofs.lemmas.List.Elements.{All-from_get_or}
use Rattle.udfs_lattice.specs.States.{IsBlock}
use Rattle.udfs_reading.specs.declared.error.ReadingFault.TheVariants.{Magic, BlockSize, Truncated}
use Rattle.udfs_reading.specs.Format.{number, value_of, header, Format, AtMagic, AtBlockSize, AtCount}
use Rattle.udfs_reading.specs.Kind.{kind, AreBytes, HasOutcome}
use Rattle.udfs_reading.proofs.Numbers.{number-value}

-- each number of the list is a byte, and so is what stands past its end
abbrev pub Small : List ℕ → Type 0
Small bytes = (i : ℕ) → get_or bytes i 0 < 256

pub small : (bytes : List ℕ) → AreBytes bytes → Small bytes
small bytes h i = ⊎_elim (λ lt. h i 0 lt) (λ le. let past : get_or bytes i 0 ≡ 0 = get_or_past bytes i 0 le in omega arith) (cases_lt i (length bytes))

pub small-drop : (n : ℕ) (bytes : List ℕ) → Small bytes → Small (drop n bytes)
small-drop n bytes h i = let at = get_or-drop n bytes i 0 in let low = h (n + i) in omega arith

pub small-take : (n : ℕ) (bytes : List ℕ) → n ≤ length bytes → Small bytes → Small (take n bytes)
small-take n bytes le h i =
    ⊎_elim
    (λ lt. let at = get_or-take n bytes i 0 lt in let low = h i in omega arith)
    (λ past. let many = length-take-le n bytes le in let none : get_or (take n bytes) i 0 ≡ 0 = get_or_past (take n bytes) i 0 (omega arith) in omega arith)
    (cases_lt i n)

-- the first 2048 bytes are those of a block
pub some_block : (bytes : List ℕ) → 2048 ≤ length bytes → Small bytes → IsBlock (take 2048 bytes)
some_block bytes le h = record { whole = length-take-le 2048 bytes le; bytes = All-from_get_or (λ x. x < 256) (take 2048 bytes) 0 (λ i lt. small-take 2048 bytes le h i) }

pub value_fits : (bytes : List ℕ) → Small bytes → value_of bytes < 2 ^ 32
unfolding value_of
value_fits bytes h = let a = h 0 in let b = h 1 in let c = h 2 in let d = h 3 in omega arith

value-take : (bytes : List ℕ) → value_of bytes ≡ value_of (take 4 bytes)
unfolding value_of
value-take bytes =
    let a = get_or-take 4 bytes 0 0 (omega arith) in let b = get_or-take 4 bytes 1 0 (omega arith) in
    let c = get_or-take 4 bytes 2 0 (omega arith) in let d = get_or-take 4 bytes 3 0 (omega arith) in omega arith

first_four : (bytes : List ℕ) → length bytes ≡ 4 → Small bytes → number (value_of bytes) ≡ bytes
unfolding value_of
first_four bytes len h = number-value bytes (value_of bytes) len h refl

-- four bytes are a number
pub four : (bytes : List ℕ) → 4 ≤ length bytes → Small bytes → bytes ≡ number (value_of bytes) ++ drop 4 bytes
four bytes le h =
    sym (take-append-drop 4 bytes)
    ∙ ap (λ (l : List ℕ). l ++ drop 4 bytes) (sym (ap number (value-take bytes) ∙ first_four (take 4 bytes) (length-take-le 4 bytes le) (small-take 4 bytes le h)))

-- ---- the header

module _ (F : Format) (behind : (count : ℕ) (rest : List ℕ) → count < 2 ^ 32 → Small rest → HasOutcome (kind F) (header F.magic count ++ rest)) where
  some_count : (rest : List ℕ) → Small rest → HasOutcome (kind F) ((F.magic ++ number 2048) ++ rest)
  some_count rest h =
      ⊎_elim
      (λ cut. inr (Truncated, 0, record { spot = AtCount; is_spot = tt; rest = rest; split = refl; here = cut; which = refl }))
      (λ whole. let n = value_of rest in
      subst (HasOutcome (kind F)) (append_assoc (F.magic ++ number 2048) (number n) (drop 4 rest) ∙ ap (λ (l : List ℕ). (F.magic ++ number 2048) ++ l) (sym (four rest whole h)))
      (behind n (drop 4 rest) (value_fits rest h) (small-drop 4 rest h)))
      (cases_lt (length rest) 4)

  some_size : (rest : List ℕ) → Small rest → HasOutcome (kind F) (F.magic ++ rest)
  some_size rest h =
      ⊎_elim
      (λ cut. inr (Truncated, 0, record { spot = AtBlockSize; is_spot = tt; rest = rest; split = refl; here = cut; which = refl }))
      (λ whole. ⊎_elim
      (λ low. inr (BlockSize, 0, record { spot = AtBlockSize; is_spot = tt; rest = rest; split = refl; here = (whole, λ e. omega arith); which = refl }))
      (λ least. ⊎_elim
      (λ high. inr (BlockSize, 0, record { spot = AtBlockSize; is_spot = tt; rest = rest; split = refl; here = (whole, λ e. omega arith); which = refl }))
      (λ most. let is : value_of rest ≡ 2048 = omega arith in
      subst (HasOutcome (kind F)) (append_assoc F.magic (number 2048) (drop 4 rest) ∙ ap (λ (l : List ℕ). F.magic ++ l) (ap (λ (n : ℕ). number n ++ drop 4 rest) (sym is) ∙ sym (four rest whole h)))
      (some_count (drop 4 rest) (small-drop 4 rest h)))
      (cases_lt 2048 (value_of rest)))
      (cases_lt (value_of rest) 2048))
      (cases_lt (length rest) 4)

  -- all bytes are a file of the format or have a first fault, if those behind a header do
  pub some_outcome : ((xs ys : List ℕ) → (xs ≡ ys) ⊎ (xs ≢ ys)) → (bytes : List ℕ) → AreBytes bytes → HasOutcome (kind F) bytes
  some_outcome same bytes are =
      ⊎_elim
      (λ cut. inr (Truncated, 0, record { spot = AtMagic; is_spot = tt; rest = bytes; split = refl; here = cut; which = refl }))
      (λ whole. ⊎_elim
      (λ is. subst (HasOutcome (kind F)) (ap (λ (l : List ℕ). l ++ drop 8 bytes) (sym is) ∙ take-append-drop 8 bytes) (some_size (drop 8 bytes) (small-drop 8 bytes (small bytes are))))
      (λ other. inr (Magic, 0, record { spot = AtMagic; is_spot = tt; rest = bytes; split = refl; here = (whole, other); which = refl }))
      (same (take 8 bytes) F.magic))
      (cases_lt (length bytes) 8)
