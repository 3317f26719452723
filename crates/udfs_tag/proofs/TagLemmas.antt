-- A tag apart from what follows it.
use Rattle.std.proofs.Common.{◌≡◌, ℕ, ◌+◌, ◌%◌, ◌≤◌, nat_lt, List, ◌++◌, length, take, drop, get_or, sum, refl, ap, ◌∙◌, arith}
use Rattle.std.proofs.lemmas.List.{take-append-le, drop-append-le, drop_at, get_or_append_left, length-append, length-drop}
use Rattle.std.proofs.lemmas.Bool.Decides.{nat_tests}
use Rattle.byteorder.specs.Endian.{little_number}
use Rattle.byteorder.specs.Numbers.{little_from-append}
use Rattle.std.specs.Prelude.{Result}
use Rattle.udfs_tag.specs.declared.tags.Tag.{Tag}
use Rattle.udfs_tag.specs.declared.tags.TagFault.{TagFault}
use Rattle.udfs_tag.specs.Fields.{uint16_at, uint32_at}
use Rattle.udfs_tag.specs.Tags.{checksum_of, covered_len, tag_of}
use Rattle.udfs_tag.specs.Steps.{verdict}

-- a number in the header
header_number : (n i : ℕ) (header rest : List ℕ) → i + n ≤ length header → little_number n (drop i (header ++ rest)) ≡ little_number n (drop i header)
header_number n i header rest h =
    ap (little_number n) (drop-append-le i header rest (omega arith))
    ∙ little_from-append n (drop i header) rest (omega (arith, length-drop i header))

-- the sum of the header
header_sum : (header rest : List ℕ) → length header ≡ 16 → checksum_of (header ++ rest) ≡ checksum_of header
header_sum header rest h =
    let front : take 4 (header ++ rest) ≡ take 4 header = take-append-le 4 header rest (omega arith) in
    let back : take 11 (drop 5 (header ++ rest)) ≡ take 11 (drop 5 header) =
    ap (take 11) (drop-append-le 5 header rest (omega arith)) ∙ take-append-le 11 (drop 5 header) rest (omega (arith, length-drop 5 header)) in
    ap (λ x. (sum x + sum (take 11 (drop 5 (header ++ rest)))) % 256) front
    ∙ ap (λ x. (sum (take 4 header) + sum x) % 256) back

-- a test of lengths, of the whole and of the rest
same_test : (a b n k : ℕ) → a ≡ n + k → nat_lt a (n + b) ≡ nat_lt k b
same_test a b n k e = grind (arith, nat_tests)

-- the tag of a header and a rest is that of both together
pub verdict-tag_of : (header rest : List ℕ) (place : ℕ) → length header ≡ 16 → verdict header rest place ≡ tag_of (header ++ rest) place
unfolding verdict tag_of
verdict-tag_of header rest place h =
    let check : get_or (header ++ rest) 4 0 ≡ get_or header 4 0 = get_or_append_left header rest 0 4 (omega arith) in
    let total = header_sum header rest h in
    let version : uint16_at (header ++ rest) 2 ≡ uint16_at header 2 = header_number 2 2 header rest (omega arith) in
    let count : covered_len (header ++ rest) ≡ covered_len header = header_number 2 10 header rest (omega arith) in
    let stored : uint16_at (header ++ rest) 8 ≡ uint16_at header 8 = header_number 2 8 header rest (omega arith) in
    let location : uint32_at (header ++ rest) 12 ≡ uint32_at header 12 = header_number 4 12 header rest (omega arith) in
    let identifier : uint16_at (header ++ rest) 0 ≡ uint16_at header 0 = header_number 2 0 header rest (omega arith) in
    let after : drop 16 (header ++ rest) ≡ rest = drop_at header rest 16 h in
    let short : nat_lt (length (header ++ rest)) (16 + covered_len header) ≡ nat_lt (length rest) (covered_len header) =
    same_test (length (header ++ rest)) (covered_len header) 16 (length rest) (omega (arith, length-append header rest)) in
    rw (check, total, version, count, short, stored, after, location, identifier) refl

-- an answer over a header and a rest is one over the whole bytes
pub found : (r : Result Tag TagFault) (bytes header rest : List ℕ) (place : ℕ) → length header ≡ 16 → header ++ rest ≡ bytes → r ≡ verdict header rest place → r ≡ tag_of bytes place
found r bytes header rest place h e v = v ∙ verdict-tag_of header rest place h ∙ ap (λ x. tag_of x place) e
