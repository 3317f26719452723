use Rattle.std.proofs.Common.{◌≡◌, ◌<◌, ℕ, true}
use Rattle.std.specs.declared.alloc.Global.{Global}
use Rattle.std.specs.declared.vec.Vec.{Vec}
use Rattle.std.specs.BTreeSet.{contains}
use Rattle.std.specs.Cmp.Lexicographic.{slice_cmp}
use Rattle.std.specs.Ordering.{nat_cmp, ordering_then}
use Rattle.udfs_lawfulness.proofs.Twice.{AreFirstApart, IsKey}
use Rattle.udfs_lawfulness.proofs.names.twice_in_folders.Given as goal

-- no two of the nodes so far have one path, and the set has the keys of all but the first
pub record AreMet (l : goal.Live-loop-at) : Type 0 where
  pub begun : 0 < l.at
  pub apart : AreFirstApart l.nodes l.at
  pub has : (q : ℕ × Vec ℕ Global) (i : ℕ) → i < l.at → IsKey l.nodes l.folders i q.0 q.1.items → contains (λ x y. ordering_then (nat_cmp x.0 y.0) (slice_cmp nat_cmp x.1.items y.1.items)) l.met q ≡ true
  pub from : (q : ℕ × Vec ℕ Global) → contains (λ x y. ordering_then (nat_cmp x.0 y.0) (slice_cmp nat_cmp x.1.items y.1.items)) l.met q ≡ true → (i : ℕ) × (i < l.at) × IsKey l.nodes l.folders i q.0 q.1.items

abbrev pub invariant-loop-at : goal.invariant-loop-at
invariant-loop-at l = AreMet l
