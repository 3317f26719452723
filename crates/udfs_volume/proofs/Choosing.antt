-- Which of two layouts counts: that of the main sequence, or that of the reserve sequence.
use Rattle.std.proofs.Common.{◌≡◌, refl, ap, ℕ, Bool, true, false, cond, List}
use Rattle.udfs_lattice.specs.Volumes.{Blocks}
use Rattle.udfs_volume.specs.declared.faults.VolumeFault.{VolumeFault}
use Rattle.udfs_volume.specs.declared.profiles.Profile.{Profile}
use Rattle.udfs_volume.specs.declared.profiles.Profile.TheVariants.{Strict, Wide}
use Rattle.udfs_volume.specs.Answers.{Answer, found, holes, faulty, and_then}
use Rattle.udfs_volume.specs.Laws.{IsBounded}
use Rattle.udfs_volume.specs.Layout.{Layout, found_or, is_of_sequence, layout_by, layout_of, main_layout_by, or_reserve, reserve_layout_by}
use Rattle.udfs_volume.specs.Sequence.{Descriptor, reserve_sequence_by, sequence_by}
use Rattle.udfs_volume.proofs.Bounds.{layout_bounds}

-- ---- what counts, by what the main sequence gives
pub or_found : (profile : Profile) (a r : Answer Layout) (l : Layout) → a ≡ found l → or_reserve profile a r ≡ found l
or_found Strict a r l e = e
or_found Wide a r l e = ap (λ x. or_reserve Wide x r) e

pub or_holes : (profile : Profile) (a r : Answer Layout) (unread : List ℕ) → a ≡ holes unread → or_reserve profile a r ≡ holes unread
or_holes Strict a r unread e = e
or_holes Wide a r unread e = ap (λ x. or_reserve Wide x r) e

-- a fault is the main one's
pub or_faulty : (profile : Profile) (a r : Answer Layout) (f : VolumeFault) → or_reserve profile a r ≡ faulty f → a ≡ faulty f
or_faulty Strict a r f e = e
or_faulty Wide (found l) r f e = e
or_faulty Wide (holes unread) r f e = absurd (let z : ⊥ = cc in z)
or_faulty Wide (faulty g) r f e = go (is_of_sequence g) r e
  where
    go : (b : Bool) (r : Answer Layout) → cond b (found_or g r) (faulty g) ≡ faulty f → ◌≡◌ {A = Answer Layout} (faulty g) (faulty f)
    go true (found l) e = absurd (let z : ⊥ = cc in z)
    go true (holes unread) e = e
    go true (faulty other) e = e
    go false r e = e

-- where both are the same, it is the main one's
pub twice : (profile : Profile) (a : Answer Layout) → or_reserve profile a a ≡ a
twice Strict a = refl
twice Wide (found l) = refl
twice Wide (holes unread) = refl
twice Wide (faulty f) = go (is_of_sequence f)
  where
    go : (b : Bool) → ◌≡◌ {A = Answer Layout} (cond b (faulty f) (faulty f)) (faulty f)
    go true = refl
    go false = refl

-- what is found is of the one or of the other
pub data OfWhich (a r : Answer Layout) (l : Layout) : Type 0 where
  of_main : a ≡ found l → OfWhich a r l
  of_reserve : r ≡ found l → OfWhich a r l

pub of_which : (profile : Profile) (a r : Answer Layout) (l : Layout) → or_reserve profile a r ≡ found l → OfWhich a r l
of_which Strict a r l e = of_main e
of_which Wide (found k) r l e = of_main e
of_which Wide (holes unread) r l e = absurd (let z : ⊥ = cc in z)
of_which Wide (faulty f) r l e = go (is_of_sequence f) r e
  where
    go : (b : Bool) (r : Answer Layout) → cond b (found_or f r) (faulty f) ≡ found l → OfWhich (faulty f) r l
    go true (found k) e = of_reserve e
    go true (holes unread) e = absurd (let z : ⊥ = cc in z)
    go true (faulty other) e = absurd (let z : ⊥ = cc in z)
    go false r e = absurd (let z : ⊥ = cc in z)

-- ---- a layout that is found lies within the volume
by_descriptors : (profile : Profile) (N : ℕ) (a : Answer (List Descriptor)) (l : Layout) → and_then a (layout_of profile N) ≡ found l → IsBounded N l
by_descriptors profile N (found ds) l e = layout_bounds profile N ds l e
by_descriptors profile N (holes unread) l e = absurd (let no : ⊥ = cc in no)
by_descriptors profile N (faulty f) l e = absurd (let no : ⊥ = cc in no)

pub layout_is_bounded : (profile : Profile) (T : Blocks) (N : ℕ) (l : Layout) → layout_by profile T N ≡ found l → IsBounded N l
unfolding layout_by main_layout_by reserve_layout_by
layout_is_bounded profile T N l e = go (of_which profile (main_layout_by profile T N) (reserve_layout_by profile T N) l e)
  where
    go : OfWhich (main_layout_by profile T N) (reserve_layout_by profile T N) l → IsBounded N l
    go (of_main e) = by_descriptors profile N (sequence_by profile T N) l e
    go (of_reserve e) = by_descriptors profile N (reserve_sequence_by profile T N) l e
