-- Text that is appended before or behind text that is passed on to a sink.
use Rattle.std.proofs.Common.{◌≡◌, ◌∙◌, sym, ap, refl, subst, ℕ, List, [], ◌++◌, append_assoc}
use Rattle.std.proofs.KnownBytes.{Appends-nil}
use Rattle.std.specs.Prelude.{Result, Ok, Err}
use Rattle.udfs_lattice.specs.declared.blocks.GaveUp.{GaveUp}
use Rattle.udfs_lattice.specs.declared.blocks.GaveUp.TheVariants as gave_up
use Rattle.udfs_reading.specs.Device.{Stream}
use Rattle.udfs_reading.specs.Writing.{Passed}
use Rattle.udfs_salvage.specs.Printing.{Stopped}
use Rattle.udfs_salvage.specs.StorePrinting.{PassesOnBy, leaves_as, print_error}
use Rattle.udfs_salvage.specs.declared.errors.PrintError.{PrintError}
use Rattle.udfs_salvage.specs.declared.errors.RunError.{RunError}
use Rattle.udfs_salvage.specs.declared.errors.RunError.TheVariants.{OutOfMemory}

-- there was no memory for any of it
pub refused_first : (a : Stream) (p text : List ℕ) → Stopped a a (p ++ text) OutOfMemory
refused_first a p text = record { out = []; rest = p ++ text; given = Appends-nil a.contents; whole = refl; count = refl }

-- or a read failed before it
pub gave_up_first : (a : Stream) (p text : List ℕ) (why : GaveUp) → Stopped a a (p ++ text) (leaves_as (print_error why))
gave_up_first a p text gave_up.OutOfMemory = refused_first a p text
gave_up_first a p text gave_up.Unread = refused_first a p text

-- what was held, with more behind it
held_then : (p q x y : List ℕ) → q ≡ p ++ x → p ++ (x ++ y) ≡ q ++ y
held_then p q x y e = sym (append_assoc p x y) ∙ ap (λ (l : List ℕ). l ++ y) (sym e)

-- text was appended, and it stopped in more
pub pushed_stopped : (a c : Stream) (p q x y : List ℕ) (z : RunError) → q ≡ p ++ x → Stopped a c (q ++ y) z → Stopped a c (p ++ (x ++ y)) z
pushed_stopped a c p q x y z e h = record { out = h.out; rest = h.rest; given = h.given; whole = held_then p q x y e ∙ h.whole; count = h.count }

-- text was appended, and then more was passed on
pub pushed_passed : (a c : Stream) (p q s x y : List ℕ) → q ≡ p ++ x → Passed a c q s y → Passed a c p s (x ++ y)
pushed_passed a c p q s x y e h = record { out = h.out; given = h.given; whole = held_then p q x y e ∙ h.whole; kept = h.kept }

-- text was appended, and then more was passed on, or not
pub pushed_then_by : {X : Type 0} (a c : Stream) (p q s x y : List ℕ) (r : Result X PrintError) → q ≡ p ++ x → PassesOnBy a c q s y r → PassesOnBy a c p s (x ++ y) r
pushed_then_by a c p q s x y (Ok u) e h = pushed_passed a c p q s x y e h
pushed_then_by a c p q s x y (Err z) e h = pushed_stopped a c p q x y (leaves_as z) e h

-- what was passed on, and what is held behind it
out_then : (p q x y out : List ℕ) → p ++ x ≡ out ++ q → p ++ (x ++ y) ≡ out ++ (q ++ y)
out_then p q x y out e = sym (append_assoc p x y) ∙ ap (λ (l : List ℕ). l ++ y) e ∙ append_assoc out q y

-- text was passed on, and then more was appended
pub passed_pushed : {a b : Stream} {p q s x : List ℕ} (y : List ℕ) → Passed a b p q x → s ≡ q ++ y → Passed a b p s (x ++ y)
passed_pushed {p = p} {q = q} {s = s} {x = x} y h e = record { out = h.out; given = h.given; whole = out_then p q x y h.out h.whole ∙ ap (λ (l : List ℕ). h.out ++ l) (sym e); kept = h.kept }

-- and there was no memory for more
pub passed_refused : {a b : Stream} {p q x : List ℕ} (y : List ℕ) → Passed a b p q x → Stopped a b (p ++ (x ++ y)) OutOfMemory
passed_refused {p = p} {q = q} {x = x} y h = record { out = h.out; rest = q ++ y; given = h.given; whole = out_then p q x y h.out h.whole; count = h.kept }

-- it stopped before more
pub stopped_before : (a b : Stream) (p x y : List ℕ) (e : RunError) → Stopped a b (p ++ x) e → Stopped a b (p ++ (x ++ y)) e
stopped_before a b p x y e h = record { out = h.out; rest = h.rest ++ y; given = h.given; whole = out_then p h.rest x y h.out h.whole; count = h.count }

-- where nothing was held first
pub stopped_first : {a b : Stream} {e : RunError} (p x : List ℕ) → p ≡ [] → Stopped a b (p ++ x) e → Stopped a b x e
stopped_first {a = a} {b = b} {e = e} p x none h = subst (λ (t : List ℕ). Stopped a b (t ++ x) e) none h
