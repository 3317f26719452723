-- Bytes that are taken to be written piece by piece.
--     Taken old new held still all rest     of all these bytes the rest is left
use Rattle.std.specs.Prelude.{Ok, Err, true, false}
use Rattle.std.proofs.Common.{◌≡◌, sym, ◌∙◌, ap, subst, ℕ, ◌+◌, ◌-◌, ◌≤◌, List, [], ◌++◌, length, drop, take, append_assoc, append-nil, arith, replicate, slice_range}
use Rattle.std.proofs.lemmas.List.{drop-drop, drop-take, drop_all, replicate-append-replicate, take-append-drop}
use Rattle.std.proofs.lemmas.Slice.{between_is}
use Rattle.udfs_file.specs.Portions.{IsFirst, portion_count}
use Rattle.udfs_file.specs.declared.cells.Cell.{Cell}
use Rattle.udfs_file.specs.declared.portions.Portion.{Portion}
use Rattle.udfs_reading.specs.Writing.{Passed, FailedPast}
use Rattle.udfs_salvage.specs.Extraction.{filled}
use Rattle.udfs_salvage.specs.StoreExtraction.{PassesBody, PushesNext, WritesBody}
use Rattle.udfs_salvage.specs.declared.body_bytes.BodyFault.{BodyFault}
use Rattle.udfs_salvage.specs.declared.body_bytes.BodyFault.TheVariants as body_fault
use Rattle.udfs_salvage.proofs.Passing.{passed_none, passed_then, failed_then, failed_more}
use Rattle.udfs_salvage.proofs.BodyBytes.{filled_append}
use Rattle.udfs_reading.specs.Device.{Stream}

pub record Taken (old new : Stream) (held still all rest : List ℕ) : Type 0 where
  pub done : List ℕ
  pub split : all ≡ done ++ rest
  pub passed : Passed old new held still done

pub taken_none : (a : Stream) (p all rest : List ℕ) → rest ≡ all → Taken a a p p all rest
taken_none a p all rest e = record { done = []; split = sym e; passed = passed_none a p }

-- a piece more
pub taken_more : {a b c : Stream} {p q r all rest : List ℕ} (x y : List ℕ) → rest ≡ x ++ y
    → Taken a b p q all rest → Passed b c q r x → Taken a c p r all y
taken_more x y e h g = record {
  done = h.done ++ x;
  split = h.split ∙ ap (λ (l : List ℕ). h.done ++ l) e ∙ sym (append_assoc h.done x y);
  passed = passed_then h.passed g;
}

-- nothing is left
pub taken_all : {a b : Stream} {p q all rest : List ℕ} → rest ≡ [] → Taken a b p q all rest → Passed a b p q all
taken_all {a} {b} {p} {q} {all} {rest} e h =
    let s : all ≡ h.done = h.split ∙ ap (λ (l : List ℕ). h.done ++ l) e ∙ append-nil h.done in
    subst (Passed a b p q) (sym s) h.passed

-- the sink failed at a piece
pub taken_fails : {a b c : Stream} {p q all rest : List ℕ} (x y : List ℕ) → rest ≡ x ++ y
    → Taken a b p q all rest → FailedPast b c q x → FailedPast a c p all
taken_fails {a} {c = c} {p = p} x y e h g =
    subst (FailedPast a c p) (sym (h.split ∙ ap (λ (l : List ℕ). h.done ++ l) e)) (failed_then h.passed (failed_more y g))

-- ---- what is left

pub same_split : (x left here : ℕ) → here ≤ left → replicate left x ≡ replicate here x ++ replicate (left - here) x
same_split x left here h =
    let e : left ≡ here + (left - here) = omega (arith, h) in
    ap (λ n. replicate n x) e ∙ sym (replicate-append-replicate here (left - here) x)

pub bytes_split : (bytes : List ℕ) (at here : ℕ) → at + here ≤ length bytes → drop at bytes ≡ slice_range bytes at (at + here) ++ drop (at + here) bytes
bytes_split bytes at here h = sym (take-append-drop here (drop at bytes))
    ∙ (λ i. piece i ++ behind i)
  where
    piece : take here (drop at bytes) ≡ slice_range bytes at (at + here)
    piece = sym (between_is bytes at (at + here) ∙ drop-take at here bytes)

    behind : drop here (drop at bytes) ≡ drop (at + here) bytes
    behind = drop-drop here at bytes

pub no_bytes_left : (bytes : List ℕ) (at : ℕ) → length bytes ≤ at → drop at bytes ≡ []
no_bytes_left bytes at h = drop_all at bytes h

-- the cells of a portion, and those behind it
pub portion_split : (x : ℕ) (p : Portion) (s t : List Cell) → IsFirst p s t → filled x s ≡ filled x (take (portion_count p) s) ++ filled x t
portion_split x p s t f = ap (filled x) (sym (take-append-drop (portion_count p) s) ∙ ap (λ z. take (portion_count p) s ++ z) (sym f.rest))
    ∙ filled_append x (take (portion_count p) s) t

pub no_same_left : (x left : ℕ) → left ≡ 0 → replicate left x ≡ []
no_same_left x left e = ap (λ n. replicate n x) e

-- ---- one turn of the loop over the portions of a body

pub pushed_more : (x : ℕ) (a b c : Stream) (p q r all : List ℕ) (s t : List Cell) → Taken a b p q all (filled x s) → PushesNext b c q r x s t (Ok true) → Taken a c p r all (filled x t)
pushed_more x a b c p q r all s t h step = taken_more (filled x step.0) (filled x t) (ap (filled x) step.1 ∙ filled_append x step.0 t) h step.2

pub pushed_all : (x : ℕ) (a b c : Stream) (p q r all : List ℕ) (s t : List Cell) → Taken a b p q all (filled x s) → PushesNext b c q r x s t (Ok false) → Passed a c p r all
unfolding filled
pushed_all x a b c p q r all s t h step = subst (λ (z : Stream). Passed a z p r all) (sym step.2) (subst (λ (l : List ℕ). Passed a b p l all) (sym step.3) (taken_all (ap (filled x) step.0) h))

pub pushed_stops : (X : Type 0) (x : ℕ) (a b c : Stream) (p q r all : List ℕ) (s t : List Cell) (e : BodyFault) → Taken a b p q all (filled x s) → PushesNext b c q r x s t (Err e) → PassesBody {X = X} a c p r all (Err e)
pushed_stops X x a b c p q r all s t body_fault.Write h step = taken_fails (filled x step.0) (filled x step.1) (ap (filled x) step.2 ∙ filled_append x step.0 step.1) h step.3
pushed_stops X x a b c p q r all s t body_fault.Unread h step = tt

-- what failed before the piece was held failed from nothing
pub body_failed : (X : Type 0) (a b : Stream) (held still bytes : List ℕ) (e : BodyFault) → held ≡ [] → PassesBody {X = X} a b held still bytes (Err e) → WritesBody {X = X} a b bytes (Err e)
body_failed X a b held still bytes body_fault.Write none h = record { out = h.out; rest = h.rest; given = h.given; whole = ap (λ (l : List ℕ). l ++ bytes) (sym none) ∙ h.whole; moved = h.moved }
body_failed X a b held still bytes body_fault.Unread none h = tt
