-- The count of a header is read back, whatever follows it.
use Rattle.std.proofs.Common.{◌≡◌, ℕ, ◌^◌, ◌<◌, List, ◌++◌, length, drop, sym, ap, ◌∙◌, append_assoc, arith, length-append}
use Rattle.std.proofs.lemmas.List.{drop_at}
use Rattle.udfs_reading.specs.Format.{number, value_of, header}
use Rattle.udfs_reading.proofs.Numbers.{length-number, value_of-number}

count_at : (magic : List ℕ) (n : ℕ) (rest : List ℕ) → length magic ≡ 8 → n < 2 ^ 32 → value_of (drop 12 (header magic n ++ rest)) ≡ n
count_at magic n rest eight fits =
    let front : List ℕ = magic ++ number 2048 in
    let long : length front ≡ 12 = omega (arith, length-append magic (number 2048), length-number 2048, eight) in
    ap (λ (l : List ℕ). value_of (drop 12 l)) (append_assoc front (number n) rest)
    ∙ ap value_of (drop_at front (number n ++ rest) 12 long) ∙ value_of-number n rest fits

pub same_count : (magic : List ℕ) (m n : ℕ) (xs ys : List ℕ) → length magic ≡ 8 → m < 2 ^ 32 → n < 2 ^ 32 → header magic m ++ xs ≡ header magic n ++ ys → m ≡ n
same_count magic m n xs ys eight fits also h = sym (count_at magic m xs eight fits) ∙ ap (λ (l : List ℕ). value_of (drop 12 l)) h ∙ count_at magic n ys eight also
