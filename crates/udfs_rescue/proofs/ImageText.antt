-- The image of a table, block by block.
use Rattle.std.proofs.Common.{◌≡◌, ℕ, zero, suc, ◌+◌, ◌-◌, ◌≤◌, ◌<◌, List, ◌++◌, refl, sym, ap, subst, ◌∙◌, append_assoc, append-nil, arith}
use Rattle.udfs_lattice.specs.Tables.{Table, state_of}
use Rattle.udfs_reading.specs.Writing.{Passed, FailedPast}
use Rattle.udfs_reading.proofs.PublicLaws.{passed_none, passed_then, failed_then, failed_more}
use Rattle.udfs_rescue.specs.Images.{bytes_of_state, blocks_from, image_bytes}
use Rattle.udfs_reading.specs.Device.{Stream}

pub blocks_split : (t : Table) (n j k m : ℕ) → m ≡ j + k → blocks_from t n m ≡ blocks_from t n j ++ blocks_from t (n + j) k
blocks_split t n zero k m e =
    let same : m ≡ k = omega (arith, e) in
    let here : n ≡ n + 0 = omega arith in
    ap (blocks_from t n) same ∙ ap (λ x. blocks_from t x k) here
blocks_split t n (suc j) k m e =
    let more : m ≡ suc (j + k) = omega (arith, e) in
    let place : (n + 1) + j ≡ n + suc j = omega arith in
    ap (blocks_from t n) more
    ∙ ap (λ l. bytes_of_state (state_of t n) ++ l) (blocks_split t (n + 1) j k (j + k) refl ∙ ap (λ x. blocks_from t (n + 1) j ++ blocks_from t x k) place)
    ∙ sym (append_assoc (bytes_of_state (state_of t n)) (blocks_from t (n + 1) j) (blocks_from t (n + suc j) k))

one_block : (t : Table) (n : ℕ) → blocks_from t n 1 ≡ bytes_of_state (state_of t n)
one_block t n = append-nil (bytes_of_state (state_of t n))

-- one block more
blocks_more : (t : Table) (k : ℕ) → blocks_from t 0 (k + 1) ≡ blocks_from t 0 k ++ bytes_of_state (state_of t k)
blocks_more t k =
    let here : 0 + k ≡ k = omega arith in
    blocks_split t 0 k 1 (k + 1) refl ∙ ap (λ l. blocks_from t 0 k ++ l) (one_block t (0 + k) ∙ ap (λ n. bytes_of_state (state_of t n)) here)

pub record ImageSoFar (a b : Stream) (p q : List ℕ) (t : Table) (block last : ℕ) : Type 0 where
  pub passed : Passed a b p q (blocks_from t 0 block)
  pub within : block ≤ last + 1

pub image_none : (a : Stream) (p : List ℕ) (t : Table) (last : ℕ) → ImageSoFar a a p p t 0 last
image_none a p t last = record { passed = passed_none a p; within = omega arith }

pub image_more : {a b c : Stream} {p q r : List ℕ} {t : Table} {block last : ℕ} → ImageSoFar a b p q t block last → block < last + 1
    → Passed b c q r (bytes_of_state (state_of t block)) → ImageSoFar a c p r t (block + 1) last
image_more {a} {b} {c} {p} {q} {r} {t} {block} {last} h low one = record {
  passed = subst (Passed a c p r) (sym (blocks_more t block)) (passed_then a b c p q r (blocks_from t 0 block) (bytes_of_state (state_of t block)) h.passed one);
  within = omega (arith, low);
}

pub image_fails : {a b c : Stream} {p q : List ℕ} {t : Table} {block last : ℕ} → ImageSoFar a b p q t block last → block < last + 1
    → FailedPast b c q (bytes_of_state (state_of t block)) → FailedPast a c p (image_bytes t last)
image_fails {a} {b} {c} {p} {q} {t} {block} {last} h low one =
    let left : last + 1 ≡ (block + 1) + (last - block) = omega (arith, low) in
    subst (FailedPast a c p) (sym (blocks_split t 0 (block + 1) (last - block) (last + 1) left))
    (failed_more a c p (blocks_from t 0 (block + 1)) (blocks_from t (0 + (block + 1)) (last - block))
    (subst (FailedPast a c p) (sym (blocks_more t block)) (failed_then a b c p q (blocks_from t 0 block) (bytes_of_state (state_of t block)) h.passed one)))

pub image_all : {a b : Stream} {p q : List ℕ} {t : Table} {block last : ℕ} → ImageSoFar a b p q t block last → last + 1 ≤ block → Passed a b p q (image_bytes t last)
image_all {a} {b} {p} {q} {t} {block} {last} h end = let same : block ≡ last + 1 = omega (arith, h.within, end) in subst (λ n. Passed a b p q (blocks_from t 0 n)) same h.passed
