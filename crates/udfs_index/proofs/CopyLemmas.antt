-- Bytes that are taken from inputs, one piece after another.
use Rattle.std.proofs.Common.{◌≡◌, ℕ, List, [], ◌++◌, Ok, Err, Result, refl, sym, ap, subst, ◌∙◌, append_assoc}
use Rattle.std.proofs.KnownBytes.{Appends-nil, Appends-trans}
use Rattle.udfs_reading.specs.Writing.{Passed}
use Rattle.udfs_reading.proofs.WritingLemmas.{passed_then, failed_then, failed_more, failed_first}
use Rattle.udfs_index.specs.declared.fault.CopyFault.{CopyFault}
use Rattle.udfs_index.specs.declared.fault.CopyFault.TheVariants.{Sink, Input}
use Rattle.udfs_index.specs.Copying.{Stopped, FailsBy, CopiesPast, Copies}
use Rattle.udfs_reading.specs.Device.{Stream}

-- ---- an input that could not be read

pub stopped_none : (a : Stream) (held bytes : List ℕ) → Stopped a a held bytes
stopped_none a held bytes = record { out = []; rest = held ++ bytes; given = Appends-nil a.contents; whole = refl; kept = refl }

pub stopped_then : {a b c : Stream} {p q x y : List ℕ} → Passed a b p q x → Stopped b c q y → Stopped a c p (x ++ y)
stopped_then {a} {b} {c} {p = p} {q = q} {x = x} {y = y} h g =
    record {
      out = h.out ++ g.out;
      rest = g.rest;
      given = Appends-trans a.contents b.contents c.contents h.out g.out h.given g.given;
      whole = sym (append_assoc p x y) ∙ ap (λ (l : List ℕ). l ++ y) h.whole ∙ append_assoc h.out q y ∙ ap (λ (l : List ℕ). h.out ++ l) g.whole ∙ sym (append_assoc h.out g.out g.rest);
      kept = g.kept ∙ h.kept;
    }

pub stopped_more : {a b : Stream} {p x : List ℕ} (y : List ℕ) → Stopped a b p x → Stopped a b p (x ++ y)
stopped_more {p = p} {x = x} y h =
    record {
      out = h.out;
      rest = h.rest ++ y;
      given = h.given;
      whole = sym (append_assoc p x y) ∙ ap (λ (l : List ℕ). l ++ y) h.whole ∙ append_assoc h.out h.rest y;
      kept = h.kept;
    }

-- ---- the sink or an input fails

-- and more was to come
pub fails_more : (a b : Stream) (p x y : List ℕ) (e : CopyFault) → FailsBy a b p x e → FailsBy a b p (x ++ y) e
fails_more a b p x y (Sink f) h = failed_more y h
fails_more a b p x y (Input n) h = stopped_more y h

-- in a later part
pub fails_then : (a b c : Stream) (p q x y : List ℕ) (e : CopyFault) → Passed a b p q x → FailsBy b c q y e → FailsBy a c p (x ++ y) e
fails_then a b c p q x y (Sink f) h g = failed_then h g
fails_then a b c p q x y (Input n) h g = stopped_then h g

-- what taking the second part did, both parts did
pub copies_then : {X : Type 0} (a b c : Stream) (p q r x y : List ℕ) (result : Result X CopyFault) → Passed a b p q x → CopiesPast b c q r y result → CopiesPast a c p r (x ++ y) result
copies_then a b c p q r x y (Ok v) h g = passed_then h g
copies_then a b c p q r x y (Err e) h g = fails_then a b c p q x y e h g

-- where nothing was held at first, it is what failed in all
pub copies_first : {X : Type 0} (a b : Stream) (p x : List ℕ) (e : CopyFault) (result : Result X CopyFault) → result ≡ Err e → p ≡ [] → FailsBy a b p x e → Copies a b x result
copies_first a b p x (Sink f) result is none h = rw is (failed_first none h)
copies_first a b p x (Input n) result is none h = rw is (subst (λ (l : List ℕ). Stopped a b l x) none h)
