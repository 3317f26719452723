-- A fault of the anchor, and the extents that it gives, are judged before memory is taken.
use Rattle.std.proofs.Common.{◌≡◌, refl, sym, ◌∙◌, ap, subst, ℕ, ◌≤◌, Bool, true, false, List, cond, nat_eq, Option, Some, None, Result, Ok, Err, IfOk, length, slice_get}
use Rattle.std.specs.Prelude.{⊤, take_while}
use Rattle.udfs_lattice.specs.Volumes.{Blocks}
use Rattle.udfs_lattice.specs.declared.blocks.ReadFault.{ReadFault}
use Rattle.udfs_volume.specs.declared.anchors.AnchorExtents.{AnchorExtents}
use Rattle.udfs_volume.specs.declared.faults.VolumeFault.{VolumeFault}
use Rattle.udfs_volume.specs.declared.faults.VolumeFault.TheVariants.{NoAnchor, Extents, Pointer}
use Rattle.udfs_volume.specs.declared.seen.Seen.{Seen}
use Rattle.udfs_volume.specs.declared.seen.Seen.TheVariants.{Got, Holes, Fault, OutOfMemory}
use Rattle.udfs_volume.specs.declared.profiles.Profile.{Profile}
use Rattle.udfs_volume.specs.Answers.{Answer, found, holes, faulty, and_then, IsHoles}
use Rattle.udfs_volume.specs.Seen.{Sees, HolesRise, TellsFault, GoesOn}
use Rattle.udfs_volume.specs.Sequence.{Descriptor, Position, unread, invalid, descriptor, descriptors, goes_on, ended_by, read_positions, positions, are_extents_by, anchor, sequence_at, sequence_by, shared}
use Rattle.udfs_volume.specs.Sequences.{sequence_now}
use Rattle.udfs_volume.specs.declared.descriptors.Sequence as code_sequence
use Rattle.udfs_volume.proofs.Walking.{fit, sequence-holes, sequence_faulty, sequence-found}
use Rattle.udfs_volume.proofs.Rising.{holes_rise, sequence_rises}

abbrev pub is_early : VolumeFault → Bool
is_early NoAnchor = true
is_early Extents = true
is_early fault = false

abbrev pub IsLateFault : Option VolumeFault → Type 0
IsLateFault None = ⊤
IsLateFault (Some fault) = is_early fault ≡ false

abbrev pub IsLate : {A : Type 0} → Answer A → Type 0
IsLate (found x) = ⊤
IsLate (holes blocks) = ⊥
IsLate (faulty fault) = is_early fault ≡ false

-- what a call tells, where it took no memory for that fault
pub told_by : {A B : Type 0} (view : A → B) (seen : Seen A) (answer : Answer B) (f : VolumeFault) → Sees view seen answer
    → (seen ≡ OutOfMemory → answer ≡ faulty f → ⊥) → TellsFault f seen answer
told_by view (Got x) answer f s no_memory e = absurd (let no : ⊥ = cc in no)
told_by view (Holes blocks) answer f s no_memory e = absurd (let no : ⊥ = cc in no)
told_by view (Fault g) answer f s no_memory e = let same : g ≡ f = cc in ap Fault same
told_by view OutOfMemory answer f s no_memory e = absurd (no_memory refl e)

-- an answer is one fault
pub same_fault : {A B : Type 0} (a : Answer B) (f g : VolumeFault) → a ≡ faulty f → a ≡ faulty g → ◌≡◌ {A = Seen A} (Fault f) (Fault g)
same_fault a f g p q = let same : f ≡ g = cc in ap Fault same

-- no fault of an anchor
abbrev pub NotEarly : {A : Type 0} → Answer A → Type 0
NotEarly (found x) = ⊤
NotEarly (holes blocks) = ⊤
NotEarly (faulty fault) = is_early fault ≡ false

not_early : {A : Type 0} (a : Answer A) (f : VolumeFault) → NotEarly a → is_early f ≡ true → a ≡ faulty f → ⊥
not_early a f late early e = let later : is_early f ≡ false = subst NotEarly e late in cc

not_early_ended : (stop : Option Position) (ds : List Descriptor) → NotEarly (ended_by stop ds)
not_early_ended None ds = tt
not_early_ended (Some (unread copies)) ds = tt
not_early_ended (Some invalid) ds = tt
not_early_ended (Some (descriptor d)) ds = go (nat_eq d.identifier 3)
  where
    go : (b : Bool) → NotEarly {A = List Descriptor} (cond b (faulty Pointer) (found ds))
    go true = refl
    go false = tt

not_early_read : (ps : List Position) → NotEarly (read_positions ps)
not_early_read ps = not_early_ended (slice_get ps (length (take_while goes_on ps))) (descriptors (take_while goes_on ps))

-- extents that are right lead to no fault of an anchor
pub no_early_in : (profile : Profile) (T : Blocks) (last : ℕ) (e : AnchorExtents) (f : VolumeFault) → is_early f ≡ true → are_extents_by profile last e ≡ true → sequence_at profile T last e ≡ faulty f → ⊥
no_early_in profile T last e f early right is = not_early (read_positions (positions T (shared e))) f (not_early_read (positions T (shared e))) early (sym (fit profile T last e right) ∙ is)

sees_holes : {A B : Type 0} (a : Answer A) (k : A → Answer B) (f : VolumeFault) → IsHoles a → and_then a k ≡ faulty f → ⊥
sees_holes (found x) k f h e = h
sees_holes (holes blocks) k f h e = cc
sees_holes (faulty g) k f h e = h

-- where the anchor is not read, its places are holes
pub no_fault_of_holes : (profile : Profile) (T : Blocks) (last : ℕ) (f : VolumeFault) → IsHoles (anchor T last) → sequence_by profile T last ≡ faulty f → ⊥
unfolding sequence_by
no_fault_of_holes profile T last f h e = sees_holes (anchor T last) (sequence_at profile T last) f h e

-- what `sequence` promises
abbrev pub SequenceClauses : Profile → Blocks → ℕ → Seen code_sequence.Sequence → Type 0
SequenceClauses profile T last seen = record {
  value : Sees sequence_now seen (sequence_by profile T last);
  rising : HolesRise seen;
  no_anchor : TellsFault NoAnchor seen (sequence_by profile T last);
  extents : TellsFault Extents seen (sequence_by profile T last);
}

-- the same, by what it saw
pub sequence_clauses : (profile : Profile) (T : Blocks) (last : ℕ) (seen : Seen code_sequence.Sequence) → 513 ≤ last → Sees sequence_now seen (sequence_by profile T last)
    → ((f : VolumeFault) → is_early f ≡ true → seen ≡ OutOfMemory → sequence_by profile T last ≡ faulty f → ⊥)
    → SequenceClauses profile T last seen
sequence_clauses profile T last seen from value memory = record {
  value = value;
  rising = holes_rise sequence_now seen (sequence_by profile T last) value (sequence_rises profile T last from);
  no_anchor = told_by sequence_now seen (sequence_by profile T last) NoAnchor value (memory NoAnchor refl);
  extents = told_by sequence_now seen (sequence_by profile T last) Extents value (memory Extents refl);
}

-- the same, by what was seen of the anchor
pub sequence_from : (profile : Profile) (T : Blocks) (last : ℕ) (a : Seen AnchorExtents) (seen : Seen code_sequence.Sequence) (Next : AnchorExtents → Seen code_sequence.Sequence → Type 0) → 513 ≤ last
    → Sees (λ extents. extents) a (anchor T last) → (a ≡ OutOfMemory → IsHoles (anchor T last)) → GoesOn a Next seen
    → ((e : AnchorExtents) → Next e seen → Sees sequence_now seen (sequence_at profile T last e) × (seen ≡ OutOfMemory → are_extents_by profile last e ≡ true))
    → SequenceClauses profile T last seen
sequence_from profile T last (Got e) seen Next from is none goes next = let found = sequence-found profile T last e is in
    sequence_clauses profile T last seen from (subst (Sees sequence_now seen) (sym found) (next e goes).0)
    (λ f early no eq. no_early_in profile T last e f early ((next e goes).1 no) (sym found ∙ eq))
sequence_from profile T last (Holes blocks) seen Next from is none goes next = subst (SequenceClauses profile T last) (sym goes)
    (sequence_clauses profile T last (Holes blocks) from (sequence-holes profile T last blocks.items is) (λ f early no eq. let z : ⊥ = cc in z))
sequence_from profile T last (Fault fault) seen Next from is none goes next = subst (SequenceClauses profile T last) (sym goes)
    (sequence_clauses profile T last (Fault fault) from (sequence_faulty profile T last fault is) (λ f early no eq. let z : ⊥ = cc in z))
sequence_from profile T last OutOfMemory seen Next from is none goes next = subst (SequenceClauses profile T last) (sym goes)
    (sequence_clauses profile T last OutOfMemory from tt (λ f early no eq. no_fault_of_holes profile T last f (none refl) eq))

-- what `sequence_by` promises, where an anchor was got
pub sequence_got : (Told : Type 0) (profile : Profile) (T : Blocks) (last : ℕ) (e : AnchorExtents) (r : Result (Seen code_sequence.Sequence) ReadFault) → 513 ≤ last → (Told → anchor T last ≡ found e)
    → IfOk r (λ seen. Told → Sees sequence_now seen (sequence_at profile T last e)) → IfOk r (λ seen. seen ≡ OutOfMemory → are_extents_by profile last e ≡ true)
    → IfOk r (λ seen. Told → SequenceClauses profile T last seen)
sequence_got Told profile T last e (Ok seen) from is value memory = λ told. let found = sequence-found profile T last e (is told) in
    sequence_clauses profile T last seen from (subst (Sees sequence_now seen) (sym found) (value told))
    (λ f early no eq. no_early_in profile T last e f early (memory no) (sym found ∙ eq))
sequence_got Told profile T last e (Err fault) from is value memory = tt

-- the same, where none was
pub sequence_stopped : (profile : Profile) (T : Blocks) (last : ℕ) (a : Seen AnchorExtents) (seen : Seen code_sequence.Sequence) → 513 ≤ last
    → Sees (λ extents. extents) a (anchor T last) → (a ≡ OutOfMemory → IsHoles (anchor T last)) → GoesOn a (λ e s. ⊥) seen → SequenceClauses profile T last seen
sequence_stopped profile T last a seen from is none goes = sequence_from profile T last a seen (λ e s. ⊥) from is none goes (λ e no. absurd no)
