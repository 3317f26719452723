-- The text of a time without the fraction of its second, by the ending that it has or has not.
use Rattle.std.proofs.Common.{◌≡◌, ◌≢◌, ◌-◌, ◌++◌, ℕ, Bool, true, false, List, codes, drop, length, take, ap, arith, cond, refl, sym, ◌∙◌}
use Rattle.std.specs.Str.{bytes_eq}
use Rattle.udfs_overview.specs.NodeLists.{ends_with, short_time}
use Rattle.std.proofs.lemmas.List.{length-append, take-append-drop}
use Rattle.std.proofs.Math.Seq.{drop-append_seam, take-append_seam}
use Rattle.udfs_lattice.specs.States.{same, same_refl}

front_length : (front ending : List ℕ) → length (front ++ ending) - length ending ≡ length front
front_length front ending = omega (arith, length-append front ending)

has_ending : (front ending : List ℕ) → ends_with (front ++ ending) ending ≡ true
has_ending front ending = ap (λ k. bytes_eq (drop k (front ++ ending)) ending) (front_length front ending) ∙ ap (λ l. bytes_eq l ending) (drop-append_seam front ending) ∙ same_refl ending

before : (front ending : List ℕ) → take (length (front ++ ending) - length ending) (front ++ ending) ≡ front
before front ending = ap (λ k. take k (front ++ ending)) (front_length front ending) ∙ take-append_seam front ending

no_ending : (text ending : List ℕ) → ((front : List ℕ) → text ≢ front ++ ending) → ends_with text ending ≡ false
no_ending text ending none = go (ends_with text ending) refl
  where
    go : (b : Bool) → ends_with text ending ≡ b → b ≡ false
    go true e = absurd (none (take (length text - length ending) text) (sym (take-append-drop (length text - length ending) text) ∙ ap (λ l. take (length text - length ending) text ++ l) (same _ _ e)))
    go false e = refl

-- before the `Z` of UTC
pub short_by : (text front : List ℕ) → text ≡ front ++ codes ".000000Z" → short_time text ≡ front ++ codes "Z"
short_by text front is =
    ap short_time is
    ∙ ap (λ (b : Bool). cond b (take (length (front ++ codes ".000000Z") - 8) (front ++ codes ".000000Z") ++ codes "Z") (cond (ends_with (front ++ codes ".000000Z") (codes ".000000")) (take (length (front ++ codes ".000000Z") - 7) (front ++ codes ".000000Z")) (front ++ codes ".000000Z"))) (has_ending front (codes ".000000Z"))
    ∙ ap (λ l. l ++ codes "Z") (before front (codes ".000000Z"))

-- at the end of a local time
pub short_local : (text front : List ℕ) → ((other : List ℕ) → text ≢ other ++ codes ".000000Z") → text ≡ front ++ codes ".000000" → short_time text ≡ front
short_local text front none is =
    ap (λ (b : Bool). cond b (take (length text - 8) text ++ codes "Z") (cond (ends_with text (codes ".000000")) (take (length text - 7) text) text)) (no_ending text (codes ".000000Z") none)
    ∙ ap (λ (t : List ℕ). cond (ends_with t (codes ".000000")) (take (length t - 7) t) t) is
    ∙ ap (λ (b : Bool). cond b (take (length (front ++ codes ".000000") - 7) (front ++ codes ".000000")) (front ++ codes ".000000")) (has_ending front (codes ".000000"))
    ∙ before front (codes ".000000")

-- where the fraction is not 0, or there is no time
pub long : (text : List ℕ) → ((other : List ℕ) → text ≢ other ++ codes ".000000Z") → ((other : List ℕ) → text ≢ other ++ codes ".000000") → short_time text ≡ text
long text none neither =
    ap (λ (b : Bool). cond b (take (length text - 8) text ++ codes "Z") (cond (ends_with text (codes ".000000")) (take (length text - 7) text) text)) (no_ending text (codes ".000000Z") none)
    ∙ ap (λ (b : Bool). cond b (take (length text - 7) text) text) (no_ending text (codes ".000000") neither)
