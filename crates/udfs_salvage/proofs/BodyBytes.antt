-- The bytes of the portions of a body.
use Rattle.std.proofs.Common.{◌≡◌, refl, sym, ◌∙◌, ap, subst, ℕ, ◌+◌, ◌-◌, List, [], ◌∷◌, ◌++◌, length, length-append, take, replicate, Option, Some, None}
use Rattle.std.specs.Prelude.{zero, suc}
use Rattle.std.specs.Borrow.{Bor}
use Rattle.std.proofs.lemmas.List.{map-append, length-replicate, length-take-le, replicate-append-replicate, take-append-drop}
use Rattle.udfs_file.specs.Pieces.{byte_cells}
use Rattle.udfs_file.specs.Portions.{AreUnread, GivesPortion, IsFirst, IsPortion, portion_count}
use Rattle.udfs_file.specs.declared.cells.Cell.{Cell}
use Rattle.udfs_file.specs.declared.cells.Cell.TheVariants.{Byte, Gap}
use Rattle.udfs_file.specs.declared.portions.Portion.{Portion}
use Rattle.udfs_file.specs.declared.portions.Portion.TheVariants.{Bytes, Zeros, Missing}
use Rattle.udfs_file.specs.declared.portions.Unread.{Unread}
use Rattle.udfs_salvage.specs.Extraction.{cell_byte, filled}

pub filled_append : (x : ℕ) (cs ds : List Cell) → filled x (cs ++ ds) ≡ filled x cs ++ filled x ds
unfolding filled
filled_append x cs ds = map-append (cell_byte x) cs ds

same_filled : (x : ℕ) (c : Cell) (k : ℕ) → filled x (replicate k c) ≡ replicate k (cell_byte x c)
unfolding filled
same_filled x c zero = refl
same_filled x c (suc k) = ap (λ l. cell_byte x c ∷ l) (same_filled x c k)

bytes_filled : (x : ℕ) (holder : Option ℕ) (bytes : List ℕ) → filled x (byte_cells holder bytes) ≡ bytes
unfolding filled
bytes_filled x holder [] = refl
bytes_filled x holder (b ∷ bs) = ap (λ l. b ∷ l) (bytes_filled x holder bs)

-- all cells of unread blocks are missing
unread_filled : (x n k : ℕ) (cs : List Cell) → AreUnread n k cs → filled x cs ≡ replicate (length cs) x
unfolding filled
unread_filled x n zero cs u = ap (filled x) u ∙ sym (ap (λ z. replicate (length z) x) u)
unread_filled x n (suc k) cs u = ap (filled x) u.2 ∙ filled_append x front u.1
    ∙ (λ i. same_filled x (Gap n) (suc u.0) i ++ unread_filled x (n + 1) k u.1 u.3 i)
    ∙ replicate-append-replicate (suc u.0) (length u.1) x
    ∙ sym (ap (λ z. replicate z x) long)
  where
    front : List Cell
    front = replicate (suc u.0) (Gap n)

    long : length cs ≡ suc u.0 + length u.1
    long = ap length u.2 ∙ length-append front u.1 ∙ ap (λ z. z + length u.1) (length-replicate (suc u.0) (Gap n))

-- ---- what a portion says of its cells
pub bytes_portion : (x : ℕ) (p : Portion) (b : Bor (List ℕ)) (cs : List Cell) → p ≡ Bytes b → IsPortion p cs → filled x cs ≡ b.now
bytes_portion x p b cs e i = let h : (holder : Option ℕ) × (cs ≡ byte_cells holder b.now) = subst (λ z. IsPortion z cs) e i in ap (filled x) h.1 ∙ bytes_filled x h.0 b.now

pub zeros_portion : (x : ℕ) (p : Portion) (n : ℕ) (cs : List Cell) → p ≡ Zeros n → IsPortion p cs → filled x cs ≡ replicate n 0
zeros_portion x p n cs e i = let h : cs ≡ replicate n (Byte 0 None) = subst (λ z. IsPortion z cs) e i in ap (filled x) h ∙ same_filled x (Byte 0 None) n

pub missing_portion : (x : ℕ) (p : Portion) (run : Unread) (cs : List Cell) → p ≡ Missing run → IsPortion p cs → length cs ≡ portion_count p → filled x cs ≡ replicate run.count x
missing_portion x p run cs e i n = let h : AreUnread run.first (run.last + 1 - run.first) cs = subst (λ z. IsPortion z cs) e i in
    unread_filled x run.first (run.last + 1 - run.first) cs h ∙ ap (λ z. replicate z x) (n ∙ ap portion_count e)

-- ---- one turn of the loop over portions
pub first_taken : (s t : List Cell) (r : Option Portion) (p : Portion) → r ≡ Some p → GivesPortion s r t → IsFirst p s t
first_taken s t r p e g = subst (λ z. GivesPortion s z t) e g

pub none_taken : (s t : List Cell) (r : Option Portion) → r ≡ None → GivesPortion s r t → s ≡ []
none_taken s t r e g = (subst (λ z. GivesPortion s z t) e g).0

pub first_count : (p : Portion) (s t : List Cell) → IsFirst p s t → length (take (portion_count p) s) ≡ portion_count p
first_count p s t f = length-take-le (portion_count p) s f.there

-- the cells of a portion, and those behind it
pub first_split : (p : Portion) (s t : List Cell) → IsFirst p s t → s ≡ take (portion_count p) s ++ t
first_split p s t f = sym (take-append-drop (portion_count p) s) ∙ ap (λ z. take (portion_count p) s ++ z) (sym f.rest)

pub none_left : (s t : List Cell) (r : Option Portion) → r ≡ None → GivesPortion s r t → (s ≡ []) × (t ≡ [])
none_left s t r e g = subst (λ z. GivesPortion s z t) e g
