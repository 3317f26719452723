-- To judge bytes is to cut them into fields. A file and a fault are both what the judge says, so no bytes have two
-- outcomes. Here: the header, which is the same in each format, and what follows from a judge.
use Rattle.std.proofs.Common.{◌≡◌, ◌≢◌, ℕ, ◌^◌, ◌<◌, ◌≤◌, Bool, true, false, cond, ltb, List, ◌∷◌, [], ◌++◌, length, take, drop, Result, Ok, Err, refl, sym, ap, ◌∙◌, append_assoc, arith, length-append}
use Rattle.std.specs.Prelude.{nat_lt, ◌==◌, if◌then◌else◌}
use Rattle.std.specs.Str.{bytes_eq}
use Rattle.std.proofs.lemmas.Bool.{le-ltb, lt-ltb, eq-eqb, ne_eqb}
use Rattle.std.proofs.lemmas.Slice.Eq.{bytes_eq-Decides}
use Rattle.std.proofs.lemmas.List.{take_at, drop_at}
use Rattle.udfs_reading.specs.declared.error.ReadingFault.{ReadingFault}
use Rattle.udfs_reading.specs.declared.error.ReadingFault.TheVariants.{Magic, BlockSize, Truncated}
use Rattle.udfs_reading.specs.Format.{number, value_of, header, Format, Spot, AtMagic, AtBlockSize, AtCount, In, IsSpot, before, record_of, FaultHere, HasFault}
use Rattle.udfs_reading.proofs.Numbers.{length-number, value_of-number}

-- what was found, or the first fault and its record
abbrev pub Judged : Type 0 → Type 0
Judged X = Result (List X) (ReadingFault × ℕ)

judge_count : {X : Type 0} → (ℕ → List ℕ → Judged X) → List ℕ → Judged X
judge_count body bytes = if nat_lt (length bytes) 4 then Err (Truncated, 0) else body (value_of bytes) (drop 4 bytes)

judge_size : {X : Type 0} → (ℕ → List ℕ → Judged X) → List ℕ → Judged X
judge_size body bytes =
    if nat_lt (length bytes) 4 then Err (Truncated, 0)
    else if value_of bytes == 2048 then judge_count body (drop 4 bytes)
    else Err (BlockSize, 0)

-- the judge of a format, by its magic and the judge of what stands behind a header of so many records
pub judge : {X : Type 0} → List ℕ → (ℕ → List ℕ → Judged X) → List ℕ → Judged X
judge magic body bytes =
    if nat_lt (length bytes) 8 then Err (Truncated, 0)
    else if bytes_eq (take 8 bytes) magic then judge_size body (drop 8 bytes)
    else Err (Magic, 0)

never_true : (b : Bool) → (b ≡ true → ⊥) → b ≡ false
never_true true h = absurd (h refl)
never_true false h = refl

pub number_long : (n : ℕ) (rest : List ℕ) → ltb (length (number n ++ rest)) 4 ≡ false
number_long n rest = le-ltb _ _ (omega (arith, length-append (number n) rest, length-number n))

module _ {X : Type 0} (magic : List ℕ) (body : ℕ → List ℕ → Judged X) where
  judge_cut : (bytes : List ℕ) → length bytes < 8 → judge magic body bytes ≡ Err (Truncated, 0)
  unfolding judge
  judge_cut bytes h = rw (lt-ltb (length bytes) 8 h) refl

  judge_not_magic : (bytes : List ℕ) → 8 ≤ length bytes → take 8 bytes ≢ magic → judge magic body bytes ≡ Err (Magic, 0)
  unfolding judge
  judge_not_magic bytes h differs =
      rw (le-ltb (length bytes) 8 h, never_true (bytes_eq (take 8 bytes) magic) (λ e. differs ((bytes_eq-Decides (take 8 bytes) magic).0 e))) refl

  judge_magic : length magic ≡ 8 → (rest : List ℕ) → judge magic body (magic ++ rest) ≡ judge_size body rest
  unfolding judge
  judge_magic eight rest =
      let long : ltb (length (magic ++ rest)) 8 ≡ false = le-ltb _ _ (omega (arith, length-append magic rest, eight)) in
      let same : bytes_eq (take 8 (magic ++ rest)) magic ≡ true = (bytes_eq-Decides _ _).1 (take_at magic rest 8 eight) in
      rw (long, same, drop_at magic rest 8 eight) refl

  size_cut : (bytes : List ℕ) → length bytes < 4 → judge_size body bytes ≡ Err (Truncated, 0)
  unfolding judge_size
  size_cut bytes h = rw (lt-ltb (length bytes) 4 h) refl

  size_wrong : (bytes : List ℕ) → 4 ≤ length bytes → value_of bytes ≢ 2048 → judge_size body bytes ≡ Err (BlockSize, 0)
  unfolding judge_size
  size_wrong bytes h differs = rw (le-ltb (length bytes) 4 h, ne_eqb (value_of bytes) 2048 differs) refl

  size_right : (rest : List ℕ) → judge_size body (number 2048 ++ rest) ≡ judge_count body rest
  unfolding judge_size
  size_right rest =
      rw (number_long 2048 rest, eq-eqb (value_of (number 2048 ++ rest)) 2048 (value_of-number 2048 rest (omega arith)), drop_at (number 2048) rest 4 (length-number 2048)) refl

  count_cut : (bytes : List ℕ) → length bytes < 4 → judge_count body bytes ≡ Err (Truncated, 0)
  unfolding judge_count
  count_cut bytes h = rw (lt-ltb (length bytes) 4 h) refl

  count_right : (n : ℕ) (rest : List ℕ) → n < 2 ^ 32 → judge_count body (number n ++ rest) ≡ body n rest
  unfolding judge_count
  count_right n rest h = rw (number_long n rest, value_of-number n rest h, drop_at (number n) rest 4 (length-number n)) refl

  pub judge_header : length magic ≡ 8 → (n : ℕ) (rest : List ℕ) → n < 2 ^ 32 → judge magic body (header magic n ++ rest) ≡ body n rest
  judge_header eight n rest h =
      ap (judge magic body) (append_assoc (magic ++ number 2048) (number n) rest ∙ append_assoc magic (number 2048) (number n ++ rest))
      ∙ judge_magic eight (number 2048 ++ (number n ++ rest)) ∙ size_right (number n ++ rest) ∙ count_right n rest h

module _ {X : Type 0} (F : Format) (body : ℕ → List ℕ → Judged X) (eight : length F.magic ≡ 8) where
  -- what the judge says of a fault in a record
  abbrev pub JudgesPlaces : Type 0
  JudgesPlaces = (p : F.Place) (rest : List ℕ) (fault : ReadingFault) → F.IsPlace p → FaultHere F (In p) rest fault → judge F.magic body (F.before p ++ rest) ≡ Err (fault, F.record_of p)

  judge_at : JudgesPlaces → (spot : Spot F.Place) (rest : List ℕ) (fault : ReadingFault) → IsSpot F spot → FaultHere F spot rest fault → judge F.magic body (before F spot ++ rest) ≡ Err (fault, record_of F spot)
  judge_at places AtMagic rest Truncated p h = judge_cut F.magic body rest h
  judge_at places AtMagic rest Magic p h = judge_not_magic F.magic body rest h.0 h.1
  judge_at places AtMagic rest _ p h = absurd h.1
  judge_at places AtBlockSize rest Truncated p h = judge_magic F.magic body eight rest ∙ size_cut F.magic body rest h
  judge_at places AtBlockSize rest BlockSize p h = judge_magic F.magic body eight rest ∙ size_wrong F.magic body rest h.0 h.1
  judge_at places AtBlockSize rest _ p h = absurd h.1
  judge_at places AtCount rest Truncated p h =
      ap (judge F.magic body) (append_assoc F.magic (number 2048) rest) ∙ judge_magic F.magic body eight (number 2048 ++ rest) ∙ size_right F.magic body rest ∙ count_cut F.magic body rest h
  judge_at places AtCount rest _ p h = absurd h.1
  judge_at places (In place) rest fault p h = places place rest fault p h

  pub judge_fault : JudgesPlaces → (bytes : List ℕ) (fault : ReadingFault) (number : ℕ) → HasFault F bytes fault number → judge F.magic body bytes ≡ Err (fault, number)
  judge_fault places bytes fault number h =
      ap (judge F.magic body) h.split ∙ judge_at places h.spot h.rest fault h.is_spot h.here ∙ ap (λ (n : ℕ). Err (fault, n)) (sym h.which)

-- ---- what follows from one answer

pub one_list : {X : Type 0} (j : Judged X) (xs ys : List X) → j ≡ Ok xs → j ≡ Ok ys → xs ≡ ys
one_list j xs ys h k = let e = sym h ∙ k in cc

pub list_or_fault : {X : Type 0} (j : Judged X) (xs : List X) (fault : ReadingFault × ℕ) → j ≡ Ok xs → j ≡ Err fault → ⊥
list_or_fault j xs fault h k = let e = sym h ∙ k in cc

pub one_fault : {X : Type 0} (j : Judged X) (f g : ReadingFault) (m n : ℕ) → j ≡ Err (f, m) → j ≡ Err (g, n) → (f ≡ g) × (m ≡ n)
one_fault j f g m n h k =
    let e = sym h ∙ k in
    let x : ReadingFault × ℕ = (f, m) in
    let y : ReadingFault × ℕ = (g, n) in
    let p : x ≡ y = cc in
    (ap (λ (q : ReadingFault × ℕ). q.0) p, ap (λ (q : ReadingFault × ℕ). q.1) p)

-- ---- lists that are put in front

abbrev pub with_first : {X : Type 0} → X → Judged X → Judged X
with_first r (Ok rs) = Ok (r ∷ rs)
with_first r (Err e) = Err e

abbrev pub with_all : {X : Type 0} → List X → Judged X → Judged X
with_all [] j = j
with_all (r ∷ rs) j = with_first r (with_all rs j)

pub all_err : {X : Type 0} (rs : List X) (e : ReadingFault × ℕ) → with_all rs (Err e) ≡ Err e
all_err [] e = refl
all_err (r ∷ rs) e = ap (with_first r) (all_err rs e)

pub all_ok : {X : Type 0} (rs : List X) → with_all rs (Ok []) ≡ Ok rs
all_ok [] = refl
all_ok (r ∷ rs) = ap (with_first r) (all_ok rs)

-- ---- the number of a fault is at least `low`

abbrev AtLeast : {X : Type 0} → ℕ → Judged X → Type 0
AtLeast low (Ok rs) = Unit {0}
AtLeast low (Err e) = low ≤ e.1

pub record IsFrom {X : Type 0} (low : ℕ) (j : Judged X) : Type 0 where
  pub is : AtLeast low j

pub from_ok : {X : Type 0} (low : ℕ) (rs : List X) → IsFrom low (Ok rs)
from_ok low rs = record { is = tt }

pub from_err : {X : Type 0} (low k : ℕ) (fault : ReadingFault) → low ≤ k → IsFrom {X = X} low (Err (fault, k))
from_err low k fault h = record { is = h }

pub first_keeps : {X : Type 0} (low : ℕ) (r : X) (j : Judged X) → IsFrom low j → IsFrom low (with_first r j)
first_keeps low r (Ok rs) h = record { is = tt }
first_keeps low r (Err e) h = record { is = h.is }

pub from_either : {X : Type 0} (low : ℕ) (b : Bool) (x y : Judged X) → IsFrom low x → IsFrom low y → IsFrom low (cond b x y)
from_either low true x y p q = p
from_either low false x y p q = q
