-- What a table says of bytes is what the decoders read at the same byte position.
use Rattle.std.proofs.Common.{◌≡◌, refl, sym, ◌∙◌, ap, subst, ◌⊎◌, inl, inr, ◌^◌, ℕ, ◌+◌, ◌-◌, ◌*◌, ◌<◌, ◌≤◌, List, [], ◌∷◌, ◌++◌, length, take, drop, get_or, arith}
use Rattle.std.specs.Prelude.{zero, suc}
use Rattle.std.proofs.lemmas.Bool.{cases_lt}
use Rattle.std.proofs.lemmas.List.Elements.{All-take, All-drop, All-same}
use Rattle.std.proofs.lemmas.List.{get_or_past, take_at, drop_at, take-append-drop, length-append, length-take-le, length-drop, drop-take, drop-drop, get_or-drop}
use Rattle.byteorder.specs.Endian.{little_number}
use Rattle.byteorder.specs.Numbers.{little_from-cons, little_from-lt, little_from-take}
use Rattle.udfs_tag.specs.Fields.{part}
use Rattle.udfs_lawfulness.specs.EcmaLaws.{AreBytes}
use Rattle.udfs_lawfulness.specs.LawfulTables.{row, IsField, IsNumber, Holds}

-- a field lies in the bytes
pub field_fits : (bytes : List ℕ) (p c : ℕ) (field : List ℕ) → IsField bytes (row p c) field → p + c ≤ length bytes
field_fits bytes p c field h = omega (arith, ap length h.whole, length-append h.front (field ++ h.rest), length-append field h.rest)

-- and is what is read there
pub field_is : (bytes : List ℕ) (p c : ℕ) (field : List ℕ) → IsField bytes (row p c) field → part bytes p c ≡ field
field_is bytes p c field h = ap (λ x. take c (drop p x)) h.whole ∙ ap (take c) (drop_at h.front (field ++ h.rest) p h.before) ∙ take_at field h.rest c h.size

-- what is read is a field
pub field_of : (bytes : List ℕ) (p c : ℕ) → p + c ≤ length bytes → IsField bytes (row p c) (part bytes p c)
field_of bytes p c l = record {
  front = take p bytes;
  rest = drop c (drop p bytes);
  whole = sym (ap (λ x. take p bytes ++ x) (take-append-drop c (drop p bytes)) ∙ take-append-drop p bytes);
  before = length-take-le p bytes (omega arith);
  size = length-take-le c (drop p bytes) (omega (arith, length-drop p bytes));
}

-- a field that is read is that field
pub field_by : (bytes : List ℕ) (p c : ℕ) (field : List ℕ) → p + c ≤ length bytes → field ≡ part bytes p c → IsField bytes (row p c) field
field_by bytes p c field l e = subst (IsField bytes (row p c)) (sym e) (field_of bytes p c l)

number_is : (field : List ℕ) (n : ℕ) → IsNumber field n → little_number (length field) field ≡ n
number_is [] n h = sym h
number_is (b ∷ bs) n (high, h, e) = ap (λ x. b + 256 * x) (little_from-cons 0 (length bs) b bs ∙ number_is bs high h) ∙ sym e

number_of : (field : List ℕ) → IsNumber field (little_number (length field) field)
number_of [] = refl
number_of (b ∷ bs) = (little_number (length bs) bs, number_of bs, ap (λ x. b + 256 * x) (little_from-cons 0 (length bs) b bs))

-- a number lies in the bytes
pub holds_fits : (bytes : List ℕ) (p c n : ℕ) → Holds bytes (row p c) n → p + c ≤ length bytes
holds_fits bytes p c n (field, f, e) = field_fits bytes p c field f

-- and is what is read there
pub holds_is : (bytes : List ℕ) (p c n : ℕ) → Holds bytes (row p c) n → little_number c (drop p bytes) ≡ n
holds_is bytes p c n (field, f, e) = sym (little_from-take 0 c c (drop p bytes) (omega arith)) ∙ ap (little_number c) (field_is bytes p c field f)
    ∙ ap (λ k. little_number k field) (sym f.size) ∙ number_is field n e

-- what is read is held
pub holds_of : (bytes : List ℕ) (p c : ℕ) → p + c ≤ length bytes → Holds bytes (row p c) (little_number c (drop p bytes))
holds_of bytes p c l = (part bytes p c, f, subst (IsNumber (part bytes p c)) (ap (λ k. little_number k (part bytes p c)) f.size ∙ little_from-take 0 c c (drop p bytes) (omega arith)) (number_of (part bytes p c)))
  where
    f : IsField bytes (row p c) (part bytes p c)
    f = field_of bytes p c l

-- a number that is read is held
pub holds_by : (bytes : List ℕ) (p c n : ℕ) → p + c ≤ length bytes → little_number c (drop p bytes) ≡ n → Holds bytes (row p c) n
holds_by bytes p c n l e = subst (Holds bytes (row p c)) e (holds_of bytes p c l)

-- one byte
byte_read : (bytes : List ℕ) (p : ℕ) → little_number 1 (drop p bytes) ≡ get_or bytes p 0
byte_read bytes p = let e : get_or (drop p bytes) 0 0 ≡ get_or bytes (p + 0) 0 = get_or-drop p bytes 0 0 in
    let f : get_or bytes (p + 0) 0 ≡ get_or bytes p 0 = ap (λ k. get_or bytes k 0) (omega arith) in
    let g : little_number 1 (drop p bytes) ≡ get_or (drop p bytes) 0 0 = omega arith in
    g ∙ e ∙ f

pub byte_is : (bytes : List ℕ) (p n : ℕ) → Holds bytes (row p 1) n → get_or bytes p 0 ≡ n
byte_is bytes p n h = sym (byte_read bytes p) ∙ holds_is bytes p 1 n h

pub byte_by : (bytes : List ℕ) (p n : ℕ) → p + 1 ≤ length bytes → get_or bytes p 0 ≡ n → Holds bytes (row p 1) n
byte_by bytes p n l e = holds_by bytes p 1 n l (byte_read bytes p ∙ e)

-- ---- a field of a field
-- a number at a position of a field is that number at a later position of the bytes
in_part : (bytes : List ℕ) (p c q w : ℕ) → q + w ≤ c → little_number w (drop q (part bytes p c)) ≡ little_number w (drop (p + q) bytes)
in_part bytes p c q w l = ap (λ k. little_number w (drop q (take k (drop p bytes)))) k ∙ ap (little_number w) (drop-take q (c - q) (drop p bytes))
    ∙ little_from-take 0 w (c - q) (drop q (drop p bytes)) (omega arith) ∙ ap (little_number w) (drop-drop q p bytes)
  where
    k : c ≡ q + (c - q)
    k = omega arith

pub inner_is : (bytes : List ℕ) (p c q w n : ℕ) (field : List ℕ) → IsField bytes (row p c) field → Holds field (row q w) n → little_number w (drop (p + q) bytes) ≡ n
inner_is bytes p c q w n field f h = sym (in_part bytes p c q w fits) ∙ ap (λ x. little_number w (drop q x)) (field_is bytes p c field f) ∙ holds_is field q w n h
  where
    fits : q + w ≤ c
    fits = omega (arith, f.size, holds_fits field q w n h)

pub inner_of : (bytes : List ℕ) (p c q w : ℕ) → p + c ≤ length bytes → q + w ≤ c → Holds (part bytes p c) (row q w) (little_number w (drop (p + q) bytes))
inner_of bytes p c q w l k = holds_by (part bytes p c) q w (little_number w (drop (p + q) bytes)) (omega (arith, (field_of bytes p c l).size)) (in_part bytes p c q w k)

pub inner_by : (bytes : List ℕ) (p c q w n : ℕ) → p + c ≤ length bytes → q + w ≤ c → little_number w (drop (p + q) bytes) ≡ n → Holds (part bytes p c) (row q w) n
inner_by bytes p c q w n l k e = subst (Holds (part bytes p c) (row q w)) e (inner_of bytes p c q w l k)

-- and so is a field of a field
pub inner_part : (bytes : List ℕ) (p c q w : ℕ) → q + w ≤ c → part (part bytes p c) q w ≡ part bytes (p + q) w
inner_part bytes p c q w l = ap (λ k. take w (drop q (take k (drop p bytes)))) k ∙ ap (take w) (drop-take q (c - q) (drop p bytes))
    ∙ shorter ∙ ap (take w) (drop-drop q p bytes)
  where
    k : c ≡ q + (c - q)
    k = omega arith

    twice : (m n : ℕ) (xs : List ℕ) → m ≤ n → take m (take n xs) ≡ take m xs
    twice zero n xs l = refl
    twice (suc m) zero xs l = absurd (let z : ⊥ = omega (arith, l) in z)
    twice (suc m) (suc n) [] l = refl
    twice (suc m) (suc n) (x ∷ xs) l = ap (λ ys. x ∷ ys) (twice m n xs (omega arith))

    shorter : take w (take (c - q) (drop q (drop p bytes))) ≡ take w (drop q (drop p bytes))
    shorter = twice w (c - q) (drop q (drop p bytes)) (omega arith)

-- ---- bytes
-- bytes, by what is read at any place
pub bytes_below : (bytes : List ℕ) → AreBytes bytes → (i : ℕ) → get_or bytes i 0 < 256
bytes_below bytes h i = go (cases_lt i (length bytes))
  where
    go : (i < length bytes) ⊎ (length bytes ≤ i) → get_or bytes i 0 < 256
    go (inl l) = h i 0 l
    go (inr l) = let e : get_or bytes i 0 ≡ 0 = get_or_past bytes i 0 l in omega arith

-- a number of bytes is below a power of 256
pub number_below : (bytes : List ℕ) → AreBytes bytes → (p c : ℕ) → little_number c (drop p bytes) < 256 ^ c
number_below bytes h p c = little_from-lt 0 c (drop p bytes) (bytes_below (drop p bytes) (All-drop (λ x. x < 256) p bytes h))

-- a part of bytes is bytes
pub field_bytes : (bytes : List ℕ) (p c : ℕ) (field : List ℕ) → AreBytes bytes → IsField bytes (row p c) field → AreBytes field
field_bytes bytes p c field h f = All-same (λ x. x < 256) field (part bytes p c) (sym (field_is bytes p c field f)) (All-take (λ x. x < 256) c (drop p bytes) (All-drop (λ x. x < 256) p bytes h))

-- a number at a position of a part is that number in what is left from there
pub front_number : (bytes : List ℕ) (p c q w : ℕ) → q + w ≤ c → little_number w (drop q (part bytes p c)) ≡ little_number w (drop q (drop p bytes))
front_number bytes p c q w l = in_part bytes p c q w l ∙ sym (ap (little_number w) (drop-drop q p bytes))
