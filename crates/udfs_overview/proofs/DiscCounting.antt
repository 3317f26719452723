-- Runs of numbers, and entries whose lists were let go.
use Rattle.std.proofs.Common.{◌≡◌, refl, ap, ◌∙◌, arith, ℕ, ◌+◌, ◌==◌, Bool, true, false, ◌&&◌, List, [], ◌∷◌, cond, map, Some, None, slice_get, nat_lt}
use Rattle.std.specs.Prelude.{count_by, fold}
use Rattle.std.proofs.lemmas.Bool.Decides.{nat_tests}
use Rattle.udfs_lattice.specs.Volumes.{Blocks}
use Rattle.udfs_volume.specs.Answers.{Answer, found, holes, faulty}
use Rattle.udfs_space.specs.Places.{view}
use Rattle.udfs_walk.specs.Bare.{full_entry, lists_at, with_lists}
use Rattle.udfs_walk.specs.TornFields.{TornFields}
use Rattle.udfs_walk.specs.Targets.{icb_at}
use Rattle.udfs_walk.specs.UnnamedEntries.{address_of}
use Rattle.udfs_walk.specs.declared.answers.Unnamed.{Unnamed}
use Rattle.udfs_walk.specs.declared.standings.Standing.{Standing}
use Rattle.udfs_walk.specs.declared.standings.Standing.TheVariants.{Whole, Torn, Loop, Fault}
use Rattle.udfs_salvage.specs.Found.{Found}
use Rattle.udfs_walk.specs.Unsettled.{is_whole}
use Rattle.udfs_salvage.specs.Surveys.{full_entries}
use Rattle.udfs_salvage.specs.UnnamedExtraction.{is_file}
use Rattle.udfs_overview.specs.DiscTallies.{has_data, is_empty_file, run_count}

-- the next number follows at once
pub run_goes_on : (n m : ℕ) (ms : List ℕ) → Some m ≡ slice_get ms 0 → m ≡ n + 1 → 0 + run_count ms ≡ run_count (n ∷ ms)
unfolding run_count
run_goes_on n m [] e h = absurd (let z : ⊥ = cc in z)
run_goes_on n m (k ∷ ks) e h =
    let same : m ≡ k = cc in
    let test : (k == n + 1) ≡ true = grind (arith, nat_tests) in
    rw test refl

-- it does not
pub run_ends : (n m : ℕ) (ms : List ℕ) → Some m ≡ slice_get ms 0 → (m ≡ n + 1 → ⊥) → 1 + run_count ms ≡ run_count (n ∷ ms)
unfolding run_count
run_ends n m [] e h = absurd (let z : ⊥ = cc in z)
run_ends n m (k ∷ ks) e h =
    let same : m ≡ k = cc in
    let test : (k == n + 1) ≡ false = grind (arith, nat_tests) in
    rw test refl

-- there is none
pub run_is_last : (n : ℕ) (ms : List ℕ) → None ≡ slice_get ms 0 → 1 + run_count ms ≡ run_count (n ∷ ms)
unfolding run_count
run_is_last n [] e = refl
run_is_last n (k ∷ ks) e = absurd (let z : ⊥ = cc in z)

-- the lists do not say whether an entry is whole
pub same_whole : (lists : TornFields) (s : Standing) → is_whole (with_lists lists s) ≡ is_whole s
same_whole lists Whole = refl
same_whole lists (Torn torn) = refl
same_whole lists Loop = refl
same_whole lists (Fault f) = refl

pub count_same : (p : Unnamed → Bool) (g : Unnamed → Unnamed) → ((u : Unnamed) → p (g u) ≡ p u) → (a : ℕ) (us : List Unnamed)
    → fold (λ b u. b + cond (p u) 1 0) a (map g us) ≡ fold (λ b u. b + cond (p u) 1 0) a us
count_same p g same a [] = refl
count_same p g same a (u ∷ us) = ap (λ t. fold (λ b v. b + cond (p v) 1 0) (a + cond t 1 0) (map g us)) (same u) ∙ count_same p g same (a + cond (p u) 1 0) us

pub data_full : (M : Blocks) (answer : Answer Found) (us : List Unnamed) → count_by has_data (full_entries M answer us) ≡ count_by has_data us
data_full M (found f) us =
    count_same has_data (full_entry (view M f.space)) (λ u. ap (λ t. t && is_file u.kind && nat_lt 0 u.size) (same_whole (lists_at (view M f.space) (address_of (icb_at u.reference u.block))) u.standing)) 0 us
data_full M (holes listed) us = refl
data_full M (faulty fault) us = refl

pub empty_full : (M : Blocks) (answer : Answer Found) (us : List Unnamed) → count_by is_empty_file (full_entries M answer us) ≡ count_by is_empty_file us
empty_full M (found f) us =
    count_same is_empty_file (full_entry (view M f.space)) (λ u. ap (λ t. t && is_file u.kind && u.size == 0) (same_whole (lists_at (view M f.space) (address_of (icb_at u.reference u.block))) u.standing)) 0 us
empty_full M (holes listed) us = refl
empty_full M (faulty fault) us = refl
