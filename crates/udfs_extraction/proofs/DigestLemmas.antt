-- A hasher is given what an output takes.
use Rattle.std.proofs.Common.{◌≡◌, ℕ, List, ◌++◌, Option, Some, None, refl, sym, ◌∙◌, ap, subst}
use Rattle.std.specs.Io.KnownBytes.{Appends, Keeps}
use Rattle.std.proofs.Math.Logic.{∥∥₁_elim}
use Rattle.std.specs.Coded.{Coded-set, coded_ℕ, coded_list}
use Rattle.sha2.specs.Hashers.{Holds256}
use Rattle.sha2.specs.Sha256.{sha256}
use Rattle.sha2.specs.declared.Sha256.{Sha256}
use Rattle.udfs_extraction.specs.Digests.{HasTaken}

-- more bytes, which both take
pub taken_more : (old new : Option (List ℕ)) (more : List ℕ) (h k : Sha256) → Appends old new more → ((m : List ℕ) → Holds256 h m → Holds256 k (m ++ more)) → HasTaken old h → HasTaken new k
taken_more None new more h k app step taken = let bad : None ≡ Some taken.0 = taken.1 in absurd (let no : ⊥ = cc in no)
taken_more (Some xs) None more h k app step taken = absurd app
taken_more (Some xs) (Some ys) more h k app step taken =
    let first : Some xs ≡ Some taken.0 = taken.1 in
    let same : xs ≡ taken.0 = cc in
    (ys, refl, subst (Holds256 k) (sym (app ∙ ap (λ l. l ++ more) same)) (step taken.0 taken.2))

-- none was taken
pub taken_still : (old new : Option (List ℕ)) (h : Sha256) → Keeps old new → HasTaken old h → HasTaken new h
taken_still None new h keeps taken = let bad : None ≡ Some taken.0 = taken.1 in absurd (let no : ⊥ = cc in no)
taken_still (Some xs) None h keeps taken = absurd keeps
taken_still (Some xs) (Some ys) h keeps taken = (taken.0, ap Some keeps ∙ taken.1, taken.2)

-- so its digest is that of the bytes that the output tells
pub digest_of_told : (tells : Type 0) (told : Option (List ℕ)) (h : Sha256) (digest : List ℕ) → ∥ (tells → HasTaken told h) ∥₁ → ((m : List ℕ) → Holds256 h m → digest ≡ sha256 m) → tells → (bytes : List ℕ) × (told ≡ Some bytes) × (Some digest ≡ Some (sha256 bytes))
digest_of_told tells None h digest taken answers is = absurd (∥∥₁_elim taken (λ a. absurd a) (λ t. none (t is)))
  where
    none : HasTaken None h → ⊥
    none t = let bad : None ≡ Some t.0 = t.1 in cc
digest_of_told tells (Some xs) h digest taken answers is = (xs, refl, ap Some (∥∥₁_elim taken (Coded-set (coded_list coded_ℕ) _ _) (λ t. of (t is))))
  where
    of : HasTaken (Some xs) h → digest ≡ sha256 xs
    of t =
        let first : Some xs ≡ Some t.0 = t.1 in
        let same : t.0 ≡ xs = cc in
        subst (λ b. digest ≡ sha256 b) same (answers t.0 t.2)
