-- Bytes that were read at a position.
use Rattle.std.proofs.Common.{◌≡◌, ℕ, ◌+◌, ◌-◌, ◌≤◌, ◌<◌, List, ◌++◌, length, take, drop, Option, Some, None, IfSome, sym, ap, ◌∙◌, arith, take-append-drop}
use Rattle.std.specs.Io.KnownBytes.{Consumes, IsAtEnd}
use borrow.Rule.Slice.PartMut.{put_mid}
use Rattle.std.proofs.Math.ListN.{drop_of_length-le}
use lib.Seq.{take-add, drop-drop}
use Rattle.udfs_reading.proofs.WindowLemmas.{grown_view}
use Rattle.udfs_index.specs.Places.{behind}

-- more stands behind what was read
pub filled_more : (known : Option (List ℕ)) (at k room n : ℕ) (buf part : List ℕ) → IfSome known (λ all. take k buf ≡ take k (drop at all)) → IfSome known (λ all. take n part ≡ take n (drop (at + k) all))
    → k ≤ length buf → n ≤ length part → IfSome known (λ all. take (k + n) (put_mid k room buf part) ≡ take (k + n) (drop at all))
filled_more None at k room n buf part h e w f = tt
filled_more (Some all) at k room n buf part h e w f =
    let whole : (k + n) - 0 ≡ k + n = omega arith in
    ap (λ m. take m (put_mid k room buf part)) (sym whole) ∙ sym (grown_view k room n buf part (take k (drop at all)) h w f)
    ∙ ap (λ l. take k (drop at all) ++ l) (e ∙ ap (take n) (sym (drop-drop k at all))) ∙ sym (take-add k n (drop at all))

-- what a read at the position took
pub behind_read : (content : Option (List ℕ)) (at n next : ℕ) (buf : List ℕ) → next ≡ at + n → IfSome content (λ all. take n buf ≡ take n (drop at all)) → Consumes (behind at content) (behind next content) (take n buf)
behind_read None at n next buf is h = tt
behind_read (Some all) at n next buf is h =
    sym (take-append-drop n (drop at all)) ∙ ap (λ l. l ++ drop n (drop at all)) (sym h) ∙ ap (λ l. take n buf ++ l) (drop-drop n at all ∙ ap (λ m. drop m all) (sym is))

-- it took nothing at the end
pub behind_end : (content : Option (List ℕ)) (at n next room : ℕ) → next ≡ at + n → IfSome content (λ all. n ≡ 0 → 0 < room → length all ≤ at) → n ≡ 0 → 0 < room → IsAtEnd (behind next content)
behind_end None at n next room is h none some = tt
behind_end (Some all) at n next room is h none some = let past : length all ≤ at = h none some in drop_of_length-le all (omega arith)
