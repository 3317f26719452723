-- A text that is held already, and what is passed on behind it.
use Rattle.std.proofs.Common.{◌≡◌, ◌++◌, ℕ, List, Result, Ok, Err, ap, append_assoc, sym, ◌∙◌}
use Rattle.udfs_reading.specs.Device.{Stream}
use Rattle.udfs_salvage.specs.Printing.{PassesOn}
use Rattle.udfs_salvage.specs.declared.errors.RunError.{RunError}
use Rattle.udfs_salvage.specs.StorePrinting.{PassesOnBy, leaves_as}
use Rattle.udfs_salvage.specs.declared.errors.PrintError.{PrintError}

pub pushed_first : {X : Type 0} (a b : Stream) (p m q x y : List ℕ) (r : Result X RunError) → m ≡ p ++ x → PassesOn a b m q y r → PassesOn a b p q (x ++ y) r
pushed_first a b p m q x y (Ok u) held h = record { out = h.out; given = h.given; whole = sym (append_assoc p x y) ∙ ap (λ (l : List ℕ). l ++ y) (sym held) ∙ h.whole; kept = h.kept }
pushed_first a b p m q x y (Err e) held h = record { out = h.out; rest = h.rest; given = h.given; whole = sym (append_assoc p x y) ∙ ap (λ (l : List ℕ). l ++ y) (sym held) ∙ h.whole; count = h.count }

-- the same by a store of blocks
pub pushed_first_by : {X : Type 0} (a b : Stream) (p m q x y : List ℕ) (r : Result X PrintError) → m ≡ p ++ x → PassesOnBy a b m q y r → PassesOnBy a b p q (x ++ y) r
pushed_first_by a b p m q x y (Ok u) held h = pushed_first {X = ℕ} a b p m q x y (Ok 0) held h
pushed_first_by a b p m q x y (Err e) held h = pushed_first {X = ℕ} a b p m q x y (Err (leaves_as e)) held h
