-- What the first known copy of a block tells of the table's blocks.
use Rattle.std.proofs.Common.{◌≡◌, refl, sym, ◌∙◌, ap, ℕ, true, false, List, Option, Some, None}
use Rattle.std.specs.Prelude.{is_none, option_map}
use Rattle.udfs_lattice.specs.Volumes.{Blocks, first_known}
use Rattle.udfs_space.specs.Sparing.{copies, piece, place_of}

is_none-map : (o : Option (ℕ × List ℕ)) → is_none o ≡ is_none (option_map (λ (known : ℕ × List ℕ). known.0) o)
is_none-map None = refl
is_none-map (Some x) = refl

is_none-bytes : (o : Option (ℕ × List ℕ)) → is_none o ≡ is_none (option_map (λ (known : ℕ × List ℕ). known.1) o)
is_none-bytes None = refl
is_none-bytes (Some x) = refl

piece-bytes : (o : Option (ℕ × List ℕ)) (x : List ℕ) → Some x ≡ option_map (λ (known : ℕ × List ℕ). known.1) o → x ≡ piece o
piece-bytes None x e = absurd (let no : ⊥ = cc in no)
piece-bytes (Some y) x e = let same : x ≡ y.1 = cc in same

-- the number, or 0
abbrev pub or_zero : Option ℕ → ℕ
or_zero None = 0
or_zero (Some n) = n

pub copy-none : (b : Blocks) (ds ts : List ℕ) (k : ℕ) (r : Option (List ℕ)) → ds ≡ ts → r ≡ option_map (λ known. known.1) (first_known b (copies ds k)) → r ≡ None
    → is_none (first_known b (copies ts k)) ≡ true
copy-none b ds ts k r d e n = ap (λ x. is_none (first_known b (copies x k))) (sym d) ∙ is_none-bytes (first_known b (copies ds k)) ∙ ap is_none (sym e) ∙ ap is_none n

pub copy-some : (b : Blocks) (ds ts : List ℕ) (k : ℕ) (r : Option (List ℕ)) (x : List ℕ) → ds ≡ ts → r ≡ option_map (λ known. known.1) (first_known b (copies ds k)) → r ≡ Some x
    → is_none (first_known b (copies ts k)) ≡ false
copy-some b ds ts k r x d e n = ap (λ x. is_none (first_known b (copies x k))) (sym d) ∙ is_none-bytes (first_known b (copies ds k)) ∙ ap is_none (sym e) ∙ ap is_none n

pub copy-piece : (b : Blocks) (ds ts : List ℕ) (k : ℕ) (r : Option (List ℕ)) (x : List ℕ) → ds ≡ ts → r ≡ option_map (λ known. known.1) (first_known b (copies ds k)) → r ≡ Some x
    → x ≡ piece (first_known b (copies ts k))
copy-piece b ds ts k r x d e n = piece-bytes (first_known b (copies ds k)) x (sym n ∙ e) ∙ ap (λ x. piece (first_known b (copies x k))) d

pub known-none : (b : Blocks) (ds ts : List ℕ) (k : ℕ) (r : Option ℕ) → ds ≡ ts → r ≡ option_map (λ known. known.0) (first_known b (copies ds k)) → r ≡ None
    → is_none (first_known b (copies ts k)) ≡ true
known-none b ds ts k r d e n = ap (λ x. is_none (first_known b (copies x k))) (sym d) ∙ is_none-map (first_known b (copies ds k)) ∙ ap is_none (sym e) ∙ ap is_none n

pub known-some : (b : Blocks) (ds ts : List ℕ) (k : ℕ) (r : Option ℕ) (x : ℕ) → ds ≡ ts → r ≡ option_map (λ known. known.0) (first_known b (copies ds k)) → r ≡ Some x
    → is_none (first_known b (copies ts k)) ≡ false
known-some b ds ts k r x d e n = ap (λ x. is_none (first_known b (copies x k))) (sym d) ∙ is_none-map (first_known b (copies ds k)) ∙ ap is_none (sym e) ∙ ap is_none n

-- the place of the first known copy, or 0
pub place-map : (o : Option (ℕ × List ℕ)) (r : Option ℕ) → r ≡ option_map (λ known. known.0) o → or_zero r ≡ place_of o
place-map None r e = ap or_zero e
place-map (Some x) r e = ap or_zero e
