-- Allocation descriptors are read as their tables give them.
use Rattle.std.proofs.Common.{◌≡◌, sym, ◌∙◌, ap, subst, ℕ, ◌+◌, ◌/◌, ◌%◌, ◌^◌, ◌<◌, ◌≤◌, List, length, drop, arith}
use Rattle.udfs_tag.specs.Fields.{part, uint16_at, uint32_at, long_ad_of, short_ad_of}
use Rattle.udfs_tag.specs.declared.layouts.LongAd.{LongAd}
use Rattle.udfs_tag.specs.declared.layouts.ShortAd.{ShortAd}
use Rattle.udfs_lawfulness.specs.Extents.{IsExtentAd, IsLongAd, IsShortAd, IsTypedLength}
use Rattle.udfs_lawfulness.specs.EcmaLaws.{AreBytes, ExtentAdLaw, LongAdLaw, ShortAdLaw}
use Rattle.udfs_lawfulness.specs.LawfulTables.{row, HasBits, IsField}
use Rattle.udfs_lawfulness.proofs.Reading.{field_is, front_number, field_bytes, field_of, holds_is, holds_of, inner_is, inner_of, number_below}

-- the low 30 bits of a number, and those above them
low_bits : (n bits : ℕ) → HasBits 0 30 n bits → n % 2 ^ 30 ≡ bits
low_bits n bits h = omega (arith, h.is, h.few, h.rest)

high_bits : (n bits : ℕ) → n < 2 ^ 32 → HasBits 30 2 n bits → n / 2 ^ 30 ≡ bits
high_bits n bits l h = omega (arith, h.is, h.few, h.rest)

-- a length with a type, both ways
length_is : (bytes : List ℕ) (kind count : ℕ) → AreBytes bytes → IsTypedLength bytes (row 0 4) kind count → (uint32_at bytes 0 / 2 ^ 30 ≡ kind) × (uint32_at bytes 0 % 2 ^ 30 ≡ count)
length_is bytes kind count b h = (
  ap (λ n. n / 2 ^ 30) (holds_is bytes 0 4 h.field h.field_is) ∙ high_bits h.field kind (subst (λ n. n < 2 ^ 32) (holds_is bytes 0 4 h.field h.field_is) (number_below bytes b 0 4)) h.kind_is,
  ap (λ n. n % 2 ^ 30) (holds_is bytes 0 4 h.field h.field_is) ∙ low_bits h.field count h.count_is,
)

length_of : (bytes : List ℕ) → AreBytes bytes → 4 ≤ length bytes → IsTypedLength bytes (row 0 4) (uint32_at bytes 0 / 2 ^ 30) (uint32_at bytes 0 % 2 ^ 30)
length_of bytes b l = record {
  field = uint32_at bytes 0;
  field_is = holds_of bytes 0 4 (omega (arith, l));
  count_is = record { above = uint32_at bytes 0 / 2 ^ 30; below = 0; is = omega arith; few = omega arith; rest = omega arith };
  kind_is = let small : uint32_at bytes 0 < 2 ^ 32 = number_below bytes b 0 4 in record { above = 0; below = uint32_at bytes 0 % 2 ^ 30; is = omega arith; few = omega (arith, small); rest = omega arith };
}

pub extent_ad_law : ExtentAdLaw
extent_ad_law bytes l d = (
  λ e. subst (IsExtentAd bytes) (sym e) (record { length_is = holds_of bytes 0 4 (omega (arith, l)); block_is = holds_of bytes 4 4 (omega (arith, l)) }),
  λ h. let n : uint32_at bytes 0 ≡ d.length = holds_is bytes 0 4 d.length h.length_is in let b : uint32_at bytes 4 ≡ d.block = holds_is bytes 4 4 d.block h.block_is in
      λ i. record { length = sym n i; block = sym b i },
)

-- a short descriptor, both ways
pub short_is : (bytes : List ℕ) (d : ShortAd) → AreBytes bytes → IsShortAd bytes d → d ≡ short_ad_of bytes
short_is bytes d b h = let n : (uint32_at bytes 0 / 2 ^ 30 ≡ d.kind) × (uint32_at bytes 0 % 2 ^ 30 ≡ d.length) = length_is bytes d.kind d.length b h.length_is in
    let at : uint32_at bytes 4 ≡ d.block = holds_is bytes 4 4 d.block h.block_is in
    λ i. record { kind = sym n.0 i; length = sym n.1 i; block = sym at i }

pub short_of : (bytes : List ℕ) → AreBytes bytes → 8 ≤ length bytes → IsShortAd bytes (short_ad_of bytes)
short_of bytes b l = record { length_is = length_of bytes b (omega (arith, l)); block_is = holds_of bytes 4 4 (omega (arith, l)) }

pub short_ad_law : ShortAdLaw
short_ad_law bytes b l d = (λ e. subst (IsShortAd bytes) (sym e) (short_of bytes b l), λ h. short_is bytes d b h)

-- a long one, both ways
pub long_is : (bytes : List ℕ) (d : LongAd) → AreBytes bytes → IsLongAd bytes d → d ≡ long_ad_of bytes
long_is bytes d b h = let n : (uint32_at bytes 0 / 2 ^ 30 ≡ d.kind) × (uint32_at bytes 0 % 2 ^ 30 ≡ d.length) = length_is bytes d.kind d.length b h.length_is in
    let at : uint32_at bytes 4 ≡ d.block = inner_is bytes 4 6 0 4 d.block h.address h.address_is h.location_is.block_is in
    let of : uint16_at bytes 8 ≡ d.reference = inner_is bytes 4 6 4 2 d.reference h.address h.address_is h.location_is.reference_is in
    λ i. record { kind = sym n.0 i; length = sym n.1 i; block = sym at i; reference = sym of i }

pub long_of_bytes : (bytes : List ℕ) → AreBytes bytes → 10 ≤ length bytes → IsLongAd bytes (long_ad_of bytes)
long_of_bytes bytes b l = record {
  length_is = length_of bytes b (omega (arith, l));
  address = part bytes 4 6;
  address_is = field_of bytes 4 6 (omega (arith, l));
  location_is = record { block_is = inner_of bytes 4 6 0 4 (omega (arith, l)) (omega arith); reference_is = inner_of bytes 4 6 4 2 (omega (arith, l)) (omega arith) };
}

pub long_ad_law : LongAdLaw
long_ad_law bytes b l d = (λ e. subst (IsLongAd bytes) (sym e) (long_of_bytes bytes b (omega (arith, l))), λ h. long_is bytes d b h)

-- a long descriptor in a row of sixteen bytes, both ways
long_same : (bytes : List ℕ) (p c : ℕ) → 10 ≤ c → long_ad_of (part bytes p c) ≡ long_ad_of (drop p bytes)
long_same bytes p c l = λ i. record { kind = n i / 2 ^ 30; length = n i % 2 ^ 30; block = b i; reference = r i }
  where
    n : uint32_at (part bytes p c) 0 ≡ uint32_at (drop p bytes) 0
    n = front_number bytes p c 0 4 (omega arith)

    b : uint32_at (part bytes p c) 4 ≡ uint32_at (drop p bytes) 4
    b = front_number bytes p c 4 4 (omega arith)

    r : uint16_at (part bytes p c) 8 ≡ uint16_at (drop p bytes) 8
    r = front_number bytes p c 8 2 (omega arith)

pub long_in_row : (bytes : List ℕ) (p : ℕ) (d : LongAd) → AreBytes bytes → p + 16 ≤ length bytes → long_ad_of (drop p bytes) ≡ d → IsLongAd (part bytes p 16) d
long_in_row bytes p d b l e = subst (IsLongAd (part bytes p 16)) (long_same bytes p 16 (omega arith) ∙ e)
    (long_of_bytes (part bytes p 16) (field_bytes bytes p 16 (part bytes p 16) b (field_of bytes p 16 l)) (omega (arith, (field_of bytes p 16 l).size)))

pub long_from_row : (bytes : List ℕ) (p : ℕ) (field : List ℕ) (d : LongAd) → AreBytes bytes → IsField bytes (row p 16) field → IsLongAd field d → long_ad_of (drop p bytes) ≡ d
long_from_row bytes p field d b f h = sym (long_same bytes p 16 (omega arith)) ∙ ap long_ad_of (field_is bytes p 16 field f) ∙ sym (long_is field d (field_bytes bytes p 16 field b f) h)
