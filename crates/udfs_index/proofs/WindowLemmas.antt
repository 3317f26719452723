-- Blocks that are copied from a window.
use Rattle.std.proofs.Common.{◌≡◌, ℕ, ◌+◌, ◌-◌, ◌/◌, ◌%◌, ◌^◌, ◌≤◌, List, [], ◌++◌, take, drop, get_or, length, Option, min, sym, ap, ◌∙◌, arith}
use Rattle.std.proofs.lemmas.List.{length-take, take-append-le, take-take, drop-take}
use lib.Seq.{drop-drop}
use Rattle.udfs_index.specs.Places.{from_place}
use Rattle.udfs_index.specs.Index.{IsFrontAt, IsAtPlace}

-- a block is whole in so long a front
block_in : (bytes : List ℕ) (k span : ℕ) → k + 2048 ≤ span → take 2048 (drop k (take span bytes)) ≡ take 2048 (drop k bytes)
block_in bytes k span fits =
    let z : span ≡ k + (span - k) = omega (arith, fits) in
    ap (λ (x : ℕ). take 2048 (drop k (take x bytes))) z ∙ ap (take 2048) (drop-take k (span - k) bytes) ∙ take-take 2048 (span - k) (drop k bytes) (omega (arith, fits))

-- a block that is in the window stands there
pub served : (contents : List (Option (List ℕ))) (from len place at : ℕ) (bytes : List ℕ) → len ≤ length bytes → IsFrontAt contents from (take len bytes) → place / 2 ^ 44 ≡ from / 2 ^ 44 → place % 2 ^ 44 ≡ from % 2 ^ 44 + at → at + 2048 ≤ len
    → IsAtPlace contents place (take 2048 (drop at bytes))
served contents from len place at bytes fits front input is within wholes told =
    let w = get_or wholes (from / 2 ^ 44) [] in
    let many : length (take len bytes) ≡ min len (length bytes) = length-take len bytes in
    let all : length (take len bytes) ≡ len = omega (arith, many, fits) in
    ap (λ (k : ℕ). take 2048 (drop (place % 2 ^ 44) (get_or wholes k []))) input
    ∙ ap (λ (k : ℕ). take 2048 (drop k w)) is
    ∙ ap (take 2048) (sym (drop-drop at (from % 2 ^ 44) w))
    ∙ sym (block_in (from_place wholes from) at len within)
    ∙ ap (λ (k : ℕ). take 2048 (drop at (take k (from_place wholes from)))) (sym all)
    ∙ ap (λ (l : List ℕ). take 2048 (drop at l)) (sym (front wholes told))
    ∙ block_in bytes at len within

-- and so does the first one of what was read
pub served_first : (contents : List (Option (List ℕ))) (place : ℕ) (read rest : List ℕ) → 2048 ≤ length read → IsFrontAt contents place read → IsAtPlace contents place (take 2048 (read ++ rest))
served_first contents place read rest some front wholes told =
    sym (take-take 2048 (length read) (from_place wholes place) some) ∙ ap (take 2048) (sym (front wholes told)) ∙ sym (take-append-le 2048 read rest some)
