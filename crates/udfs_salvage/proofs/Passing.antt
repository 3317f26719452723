-- Bytes that are taken piece after piece, by the laws of udfs_reading.
use Rattle.std.proofs.Common.{◌≡◌, subst, ℕ, List, [], ◌++◌}
use Rattle.udfs_reading.specs.Writing.{Failed, Passed, FailedPast}
use Rattle.udfs_reading.proofs.PublicLaws as reading
use Rattle.udfs_reading.specs.Device.{Stream}

pub passed_none : (a : Stream) (p : List ℕ) → Passed a a p p []
passed_none a p = reading.passed_none a p

pub passed_then : {a b c : Stream} {p q r x y : List ℕ} → Passed a b p q x → Passed b c q r y → Passed a c p r (x ++ y)
passed_then {a} {b} {c} {p} {q} {r} {x} {y} h g = reading.passed_then a b c p q r x y h g

pub failed_then : {a b c : Stream} {p q x y : List ℕ} → Passed a b p q x → FailedPast b c q y → FailedPast a c p (x ++ y)
failed_then {a} {b} {c} {p} {q} {x} {y} h g = reading.failed_then a b c p q x y h g

pub failed_more : {a b : Stream} {p x : List ℕ} (y : List ℕ) → FailedPast a b p x → FailedPast a b p (x ++ y)
failed_more {a} {b} {p} {x} y h = reading.failed_more a b p x y h

pub failed_last : {a b c : Stream} {p q x : List ℕ} → p ≡ [] → Passed a b p q x → Failed b c q → Failed a c x
failed_last {a} {b} {c} {p} {q} {x} none h g = reading.failed_last a b c q x (subst (λ z. Passed a b z q x) none h) g
