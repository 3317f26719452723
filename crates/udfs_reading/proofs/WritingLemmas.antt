-- One write after another.
use Rattle.std.proofs.Common.{◌≡◌, ℕ, ◌+◌, ◌%◌, ◌^◌, List, [], ◌∷◌, ◌++◌, length, refl, sym, ap, subst, ◌∙◌, append_assoc, append-nil}
use Rattle.std.specs.Io.KnownBytes.{Appends}
use Rattle.std.proofs.KnownBytes.{Appends-nil, Appends-trans}
use Rattle.std.specs.List.{flat_map}
use Rattle.std.proofs.lemmas.List.Concat.{flat_map-append}
use Rattle.udfs_lattice.specs.States.{State}
use Rattle.udfs_reading.specs.Writing.{Wrote, Failed, Passed, FailedPast}
use Rattle.udfs_reading.specs.TableFile.{entry_bytes, table_header, file_of}
use Rattle.udfs_reading.specs.Device.{Stream}

pub passed_none : (a : Stream) (p : List ℕ) → Passed a a p p []
passed_none a p = record { out = []; given = Appends-nil a.contents; whole = append-nil p; kept = refl }

pub passed_then : {a b c : Stream} {p q r x y : List ℕ} → Passed a b p q x → Passed b c q r y → Passed a c p r (x ++ y)
passed_then {a} {b} {c} {p = p} {q = q} {r = r} {x = x} {y = y} h g =
    record {
      out = h.out ++ g.out;
      given = Appends-trans a.contents b.contents c.contents h.out g.out h.given g.given;
      whole = sym (append_assoc p x y) ∙ ap (λ (l : List ℕ). l ++ y) h.whole ∙ append_assoc h.out q y ∙ ap (λ (l : List ℕ). h.out ++ l) g.whole ∙ sym (append_assoc h.out g.out r);
      kept = g.kept ∙ h.kept;
    }

-- the sink failed in a later part
pub failed_then : {a b c : Stream} {p q x y : List ℕ} → Passed a b p q x → FailedPast b c q y → FailedPast a c p (x ++ y)
failed_then {a} {b} {c} {p = p} {q = q} {x = x} {y = y} h g =
    record {
      out = h.out ++ g.out;
      rest = g.rest;
      given = Appends-trans a.contents b.contents c.contents h.out g.out h.given g.given;
      whole = sym (append_assoc p x y) ∙ ap (λ (l : List ℕ). l ++ y) h.whole ∙ append_assoc h.out q y ∙ ap (λ (l : List ℕ). h.out ++ l) g.whole ∙ sym (append_assoc h.out g.out g.rest);
      moved = g.moved ∙ ap (λ (n : ℕ). (n + 1) % 2 ^ 64) h.kept;
    }

-- and more was to come
pub failed_more : {a b : Stream} {p x : List ℕ} (y : List ℕ) → FailedPast a b p x → FailedPast a b p (x ++ y)
failed_more {p = p} {x = x} y h =
    record {
      out = h.out;
      rest = h.rest ++ y;
      given = h.given;
      whole = sym (append_assoc p x y) ∙ ap (λ (l : List ℕ). l ++ y) h.whole ∙ append_assoc h.out h.rest y;
      moved = h.moved;
    }

-- what is held at the end is written
pub wrote_all : {a b c : Stream} {p q x : List ℕ} → p ≡ [] → Passed a b p q x → Wrote b c q → Wrote a c x
wrote_all {a} {b} {c} {q = q} {x = x} none h g =
    let whole : x ≡ h.out ++ q = sym (ap (λ (l : List ℕ). l ++ x) none) ∙ h.whole in
    record { given = subst (Appends a.contents c.contents) (sym whole) (Appends-trans a.contents b.contents c.contents h.out q h.given g.given); kept = g.kept ∙ h.kept }

pub failed_last : {a b c : Stream} {p q x : List ℕ} → p ≡ [] → Passed a b p q x → Failed b c q → Failed a c x
failed_last {a} {b} {c} {q = q} {x = x} none h g =
    record {
      out = h.out ++ g.out;
      rest = g.rest;
      given = Appends-trans a.contents b.contents c.contents h.out g.out h.given g.given;
      whole = sym (ap (λ (l : List ℕ). l ++ x) none) ∙ h.whole ∙ ap (λ (l : List ℕ). h.out ++ l) g.whole ∙ sym (append_assoc h.out g.out g.rest);
      moved = g.moved ∙ ap (λ (n : ℕ). (n + 1) % 2 ^ 64) h.kept;
    }

pub failed_first : {a b : Stream} {p x : List ℕ} → p ≡ [] → FailedPast a b p x → Failed a b x
failed_first {x = x} none h = record { out = h.out; rest = h.rest; given = h.given; whole = sym (ap (λ (l : List ℕ). l ++ x) none) ∙ h.whole; moved = h.moved }

-- ---- one piece

-- what was held could not be written
pub push_fails : {a b : Stream} {held : List ℕ} (bytes : List ℕ) → Failed a b held → FailedPast a b held bytes
push_fails bytes h = record { out = h.out; rest = h.rest ++ bytes; given = h.given; whole = ap (λ (l : List ℕ). l ++ bytes) h.whole ∙ append_assoc h.out h.rest bytes; moved = h.moved }

-- what was held was written, and the new bytes are held
pub push_flushed : {a b : Stream} {held still : List ℕ} (bytes : List ℕ) → Wrote a b held → still ≡ bytes → Passed a b held still bytes
push_flushed {held = held} bytes h is = record { out = held; given = h.given; whole = ap (λ (l : List ℕ). held ++ l) (sym is); kept = h.kept }

-- the new bytes are held behind the others
pub push_held : (a : Stream) (held still bytes : List ℕ) → still ≡ held ++ bytes → Passed a a held still bytes
push_held a held still bytes is = record { out = []; given = Appends-nil a.contents; whole = sym is; kept = refl }

-- the entries before those that are left were taken
pub record Written (old new : Stream) (held still : List ℕ) (all left : List (ℕ × State)) : Type 0 where
  pub done : List (ℕ × State)
  pub split : all ≡ done ++ left
  pub passed : Passed old new held still (flat_map entry_bytes done)

pub written_none : (a : Stream) (p : List ℕ) (all left : List (ℕ × State)) → left ≡ all → Written a a p p all left
written_none a p all left e = record { done = []; split = sym e; passed = passed_none a p }

bytes_more : (es : List (ℕ × State)) (e : ℕ × State) → flat_map entry_bytes (es ++ e ∷ []) ≡ flat_map entry_bytes es ++ entry_bytes e
bytes_more es e = flat_map-append entry_bytes es (e ∷ []) ∙ ap (λ (l : List ℕ). flat_map entry_bytes es ++ l) (append-nil (entry_bytes e))

pub written_more : {a b c : Stream} {p q r : List ℕ} {all left rest : List (ℕ × State)} (e : ℕ × State) → Written a b p q all left → left ≡ e ∷ rest → Passed b c q r (entry_bytes e) → Written a c p r all rest
written_more {a} {b} {c} {p} {q} {r} {all} {left} {rest} e h is passed =
    record {
      done = h.done ++ e ∷ [];
      split = h.split ∙ ap (λ (l : List (ℕ × State)). h.done ++ l) is ∙ sym (append_assoc h.done (e ∷ []) rest);
      passed = subst (Passed a c p r) (sym (bytes_more h.done e)) (passed_then h.passed passed);
    }

-- the file, by the entries before one and after it
file_at : (done left : List (ℕ × State)) (e : ℕ × State) (all : List (ℕ × State)) → all ≡ done ++ e ∷ left
    → table_header (length all) ++ (flat_map entry_bytes done ++ (entry_bytes e ++ flat_map entry_bytes left)) ≡ file_of all
unfolding file_of
file_at done left e all is = ap (λ (l : List ℕ). table_header (length all) ++ l) (sym (flat_map-append entry_bytes done (e ∷ left)) ∙ ap (flat_map entry_bytes) (sym is))

-- the sink failed at an entry
pub written_fails : {z a b c : Stream} {o p q : List ℕ} {all left rest : List (ℕ × State)} (e : ℕ × State) → Passed z a o p (table_header (length all)) → Written a b p q all left → left ≡ e ∷ rest → FailedPast b c q (entry_bytes e) → FailedPast z c o (file_of all)
written_fails {z} {a} {b} {c} {o} {p} {q} {all} {left} {rest} e head w is failed =
    subst (FailedPast z c o) (file_at w.done rest e all (w.split ∙ ap (λ (l : List (ℕ × State)). w.done ++ l) is))
    (failed_then head (failed_then w.passed (failed_more (flat_map entry_bytes rest) failed)))

-- all entries were taken
pub written_all : {z a b : Stream} {o p q : List ℕ} {all left : List (ℕ × State)} → Passed z a o p (table_header (length all)) → Written a b p q all left → left ≡ [] → Passed z b o q (file_of all)
unfolding file_of
written_all {z} {a} {b} {o} {p} {q} {all} {left} head w none =
    let same : all ≡ w.done = w.split ∙ ap (λ (l : List (ℕ × State)). w.done ++ l) none ∙ append-nil w.done in
    passed_then head (subst (λ (l : List (ℕ × State)). Passed a b p q (flat_map entry_bytes l)) (sym same) w.passed)

pub failed_header : {a b : Stream} {o : List ℕ} (all : List (ℕ × State)) → FailedPast a b o (table_header (length all)) → FailedPast a b o (file_of all)
unfolding file_of
failed_header all h = failed_more (flat_map entry_bytes all) h
