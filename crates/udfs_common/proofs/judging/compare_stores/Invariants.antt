-- The blocks before this one were compared.
use Rattle.std.proofs.Common.{◌≡◌, ◌≤◌, ℕ}
use Rattle.udfs_index.specs.Comparing.{are_known, are_other}
use Rattle.udfs_lattice.specs.Tables.{Table, state_of}
use Rattle.udfs_common.proofs.CountingLemmas.{counted}
use Rattle.udfs_common.proofs.judging.compare_stores.Given as goal

abbrev pub invariant-loop-block : goal.invariant-loop-block
invariant-loop-block g l =
    let A = g.A.BlockStore in
    let B = g.B.BlockStore in
    record {
      few : l.of ≤ l.block;
      fewer : l.blocks ≤ l.block;
      known : A.tells → B.tells → (t s : Table) → ((n : ℕ) → A.states l.before n ≡ state_of t n) → ((n : ℕ) → B.states l.own n ≡ state_of s n) → l.of ≡ counted (λ k x. are_known (state_of t k) x) s l.block;
      other : A.tells → B.tells → (t s : Table) → ((n : ℕ) → A.states l.before n ≡ state_of t n) → ((n : ℕ) → B.states l.own n ≡ state_of s n) → l.blocks ≡ counted (λ k x. are_other (state_of t k) x) s l.block;
    }
