-- One byte more of the front of a line.
use Rattle.std.proofs.Common.{◌≡◌, ℕ, ◌≤◌, ◌<◌, List, [], ◌∷◌, ◌++◌, length, take, sym, ap, ◌∙◌, arith, length-take, length-append}
use Rattle.std.proofs.lemmas.List.{take-append-le}
use Rattle.udfs_rescue.proofs.HeldLemmas.{whole}

-- it is kept
pub front_more : (kept line : List ℕ) (b : ℕ) → length kept < 68 → kept ≡ take 68 line → kept ++ b ∷ [] ≡ take 68 (line ++ b ∷ [])
front_more kept line b h e =
    let short : length line < 68 = omega (arith, h, ap length e, length-take 68 line) in
    ap (λ l. l ++ b ∷ []) (e ∙ whole 68 line (omega (arith, short))) ∙ sym (whole 68 (line ++ b ∷ []) (omega (arith, short, length-append line (b ∷ []))))

-- or enough are
pub front_full : (kept line : List ℕ) (b : ℕ) → 68 ≤ length kept → kept ≡ take 68 line → kept ≡ take 68 (line ++ b ∷ [])
front_full kept line b h e = e ∙ sym (take-append-le 68 line (b ∷ []) (omega (arith, h, ap length e, length-take 68 line)))
