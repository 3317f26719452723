-- What two byte strings one behind the other begin with.
use Rattle.std.proofs.Common.{◌≡◌, ◌∙◌, ap, ℕ, ◌-◌, arith, true, false, List, ◌++◌, drop, length, sym, take, bytes_eq}
use Rattle.std.proofs.Math.Seq.{drop-append_seam, take-append_seam}
use Rattle.std.proofs.lemmas.List.{append_assoc, length-drop, take-append-drop, take_all}
use Rattle.std.proofs.lemmas.Slice.Eq.{bytes_eq-Decides}

-- the front is found
pub no_front : (bytes front more : List ℕ) → bytes_eq (take (length front) bytes) front ≡ false → bytes ≡ front ++ more → ⊥
no_front bytes front more differ is = absurd (apart (sym differ ∙ (bytes_eq-Decides (take (length front) bytes) front).1 (ap (λ (l : List ℕ). take (length front) l) is ∙ take-append_seam front more)))
  where
    apart : false ≡ true → ⊥
    apart e = cc

-- and where it is found the bytes begin with it
pub front_found : (bytes front : List ℕ) → bytes_eq (take (length front) bytes) front ≡ true → (more : List ℕ) × (bytes ≡ front ++ more)
front_found bytes front same =
    (drop (length front) bytes, sym (take-append-drop (length front) bytes) ∙ ap (λ (l : List ℕ). l ++ drop (length front) bytes) ((bytes_eq-Decides (take (length front) bytes) front).0 same))

-- the front is found at the front, and a middle behind it
pub found_behind : (bytes front middle more : List ℕ) → take (length bytes - length front) (drop (length front) bytes) ≡ middle ++ more → (rest : List ℕ) → bytes ≡ front ++ rest → bytes ≡ front ++ middle ++ more
found_behind bytes front middle more is rest begins =
    let all : take (length bytes - length front) (drop (length front) bytes) ≡ drop (length front) bytes = take_all (length bytes - length front) (drop (length front) bytes) (omega (arith, length-drop (length front) bytes)) in
    let behind : rest ≡ middle ++ more = sym (ap (λ (l : List ℕ). drop (length front) l) begins ∙ drop-append_seam front rest) ∙ sym all ∙ is in
    begins ∙ ap (λ (l : List ℕ). front ++ l) behind ∙ sym (append_assoc front middle more)

-- and what is behind it
pub rest_of : (bytes front middle more : List ℕ) → bytes ≡ front ++ middle ++ more → drop (length front) bytes ≡ middle ++ more
rest_of bytes front middle more is = ap (λ (l : List ℕ). drop (length front) l) (is ∙ append_assoc front middle more) ∙ drop-append_seam front (middle ++ more)

-- up to its end
pub rest_taken : (bytes front middle more : List ℕ) → bytes ≡ front ++ middle ++ more → take (length bytes - length front) (drop (length front) bytes) ≡ middle ++ more
rest_taken bytes front middle more is =
    take_all (length bytes - length front) (drop (length front) bytes) (omega (arith, length-drop (length front) bytes)) ∙ rest_of bytes front middle more is
